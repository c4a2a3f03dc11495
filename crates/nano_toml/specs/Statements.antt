-- Values and statements as tokens, and the statements that a text encodes.
use Rattle.std.specs.Prelude.{◌≡◌, ℕ, pos, List, [], ◌∷◌, ◌++◌, ◌⊎◌, Option, Some, None}
use Rattle.std.specs.List.{AllByRecursion}
use Rattle.nano_toml.specs.Cut.{Tokens}
use Rattle.nano_toml.specs.Data.{Data, Values, no_values, more_values}
use Rattle.nano_toml.specs.Data as value
use Rattle.nano_toml.specs.Token.{Token, ident, string, unsigned, signed, decimal, boolean, nan}
use Rattle.nano_toml.specs.Token.{infinity, date, equals, open_bracket, close_bracket, comma}

-- the value that is one token
abbrev pub scalar_of : Token → Option Data
scalar_of (string s) = Some (value.text s)
scalar_of (unsigned n) = Some (value.number (pos n))
scalar_of (signed n) = Some (value.number n)
scalar_of (decimal s) = Some (value.decimal s)
scalar_of (boolean b) = Some (value.boolean b)
scalar_of (nan minus) = Some (value.nan minus)
scalar_of (infinity minus) = Some (value.infinity minus)
scalar_of (date s) = Some (value.date s)
scalar_of (ident s) = None
scalar_of equals = None
scalar_of open_bracket = None
scalar_of close_bracket = None
scalar_of comma = None

abbrev pub Commas : List Token → Type 0
Commas = AllByRecursion (λ t. t ≡ comma)

-- a closed value: a scalar, or an array with its closing bracket that holds closed values and
-- commas
abbrev mutual
  pub IsClosed : List Token → Data → Type 0
  IsClosed ts (value.values vs) =
      (inside : List Token) × AreClosed inside vs
      × (ts ≡ open_bracket ∷ (inside ++ close_bracket ∷ []))
  IsClosed ts d = (t : Token) × (scalar_of t ≡ Some d) × (ts ≡ t ∷ [])

  -- closed values, in order, and commas in any mixture
  pub AreClosed : List Token → Values → Type 0
  AreClosed ts no_values = Commas ts
  AreClosed ts (more_values v vs) =
      (commas here more : List Token) × Commas commas × IsClosed here v × AreClosed more vs
      × (ts ≡ commas ++ (here ++ more))

-- an open value: an array without its closing bracket that holds closed values and commas, with at
-- most one open value at its end
abbrev mutual
  pub IsOpen : List Token → Data → Type 0
  IsOpen ts (value.values vs) =
      (inside : List Token) × AreOpen inside vs × (ts ≡ open_bracket ∷ inside)
  IsOpen ts d = ⊥

  pub AreOpen : List Token → Values → Type 0
  AreOpen ts no_values = Commas ts
  AreOpen ts (more_values v vs) =
      (commas here more : List Token) × Commas commas × (ts ≡ commas ++ (here ++ more))
      × ((IsClosed here v × AreOpen more vs) ⊎ (IsOpen here v × (vs ≡ no_values) × (more ≡ [])))

-- `[name]`, `[[name]]`, `name = value`
pub data Statement : Type 0 where
  scope : List ℕ → Statement
  element : List ℕ → Statement
  pair : List ℕ → Data → Statement

abbrev pub IsName : Token → List ℕ → Type 0
IsName t name = (t ≡ ident name) ⊎ (t ≡ string name)

-- these tokens are the statement, where IsValue says which tokens are a value
abbrev pub IsStatement : (List Token → Data → Type 0) → List Token → Statement → Type 0
IsStatement IsValue ts (scope name) =
    (t : Token) × IsName t name × (ts ≡ open_bracket ∷ t ∷ close_bracket ∷ [])
IsStatement IsValue ts (element name) =
    ts ≡ open_bracket ∷ open_bracket ∷ ident name ∷ close_bracket ∷ close_bracket ∷ []
IsStatement IsValue ts (pair name d) =
    (t : Token) × (more : List Token) × IsName t name × IsValue more d
    × (ts ≡ t ∷ equals ∷ more)

-- the tokens of the statements in order, of which only the last may hold an open value
abbrev pub AreStatements : List Token → List Statement → Type 0
AreStatements ts [] = ts ≡ []
AreStatements ts (s ∷ ss) =
    ((here more : List Token) × IsStatement IsClosed here s × AreStatements more ss
    × (ts ≡ here ++ more))
    ⊎ (IsStatement IsOpen ts s × (ss ≡ []))

-- the text encodes the statements
abbrev pub Encodes : List ℕ → List Statement → Type 0
Encodes text ss = (ts : List Token) × Tokens text ts × AreStatements ts ss
