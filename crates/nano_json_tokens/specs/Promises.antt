-- Laws of the definitions.
use Rattle.std.specs.Prelude.{◌≡◌, ◌↔◌, true, ℕ, List, [], ◌∷◌, ◌++◌}
use Rattle.std.specs.List.{AllByRecursion}
use Rattle.nano_grammar.specs.Tokens.{At, BeginsAt, Leaves, IsOneWay}
use Rattle.nano_json_tokens.specs.Token.{Token, end}
use Rattle.nano_text.specs.Characters.{is_space}
use Rattle.nano_json_tokens.specs.Cut.{Cut}
use Rattle.nano_json_tokens.specs.Breaks.{Breaks}
use Rattle.nano_json_tokens.specs.Skipped.{SkippedField}

-- a text is cut in one way: one token, one rest
abbrev pub CutsOneWay : Type 0
CutsOneWay = IsOneWay Cut

-- the end is cut from white space alone, and leaves nothing
abbrev pub EndsInWhiteSpace : Type 0
EndsInWhiteSpace = (text rest : List ℕ) → Cut text end rest
    ↔ (AllByRecursion (λ c. is_space c ≡ true) text × (rest ≡ []))

-- taking tokens up to another one is the same as beginning with them and that one
abbrev pub TakenTokensBegin : Type 0
TakenTokensBegin = (ts : List Token) (next : Token) (start : At Token)
    → ((rest : List ℕ) × Leaves Cut ts start (record { token = next; text = rest }))
    ↔ BeginsAt Cut (ts ++ next ∷ []) start

-- no skipped field is a proper beginning of another
abbrev pub SkippedFieldsAreApart : Type 0
SkippedFieldsAreApart = (field more : List Token)
    → SkippedField field → SkippedField (field ++ more) → more ≡ []

-- where no token is cut from a text, a reader goes to one place
abbrev pub BreaksOnce : Type 0
BreaksOnce = (text rest left : List ℕ) → Breaks text rest → Breaks text left → rest ≡ left

-- and no text both breaks and has a token cut from it
abbrev pub BreaksOrCuts : Type 0
BreaksOrCuts = (text rest left : List ℕ) (token : Token)
    → Breaks text rest → Cut text token left → ⊥
