-- Which document inside another a JSON Pointer leads to, as RFC 6901 says it.
use Rattle.std.specs.Prelude.{◌≡◌, ◌≢◌, ◌<◌, ◌^◌, ◌⊎◌, ◌==◌, ℕ, List, [], ◌∷◌, ◌++◌, codes, decimal}
use Rattle.std.specs.Prelude.{if◌then◌else◌, slice_get, Some, All}
use Rattle.nano_document.specs.declared.json.Json.{Json}
use Rattle.nano_document.specs.Held.{items, entries, IsLast}

-- a byte of a name as a pointer has it: `~0` for `~`, `~1` for `/`
abbrev pub escaped_byte : ℕ → List ℕ
escaped_byte c = if c == 126 then codes "~0" else (if c == 47 then codes "~1" else c ∷ [])

abbrev pub escaped : List ℕ → List ℕ
escaped [] = []
escaped (c ∷ cs) = escaped_byte c ++ escaped cs

-- the pointer of these tokens: each after a slash
abbrev pub pointer_of : List (List ℕ) → List ℕ
pointer_of [] = []
pointer_of (token ∷ tokens) = 47 ∷ (token ++ pointer_of tokens)

-- a token holds no slash; it begins the pointer, after a slash, and another slash or the end follows
abbrev pub BeginsWithSlash : List ℕ → Type 0
BeginsWithSlash [] = ⊥
BeginsWithSlash (c ∷ cs) = c ≡ 47

pub record IsFirstToken (pointer token rest : List ℕ) : Type 0 where
  pub split : pointer ≡ 47 ∷ (token ++ rest)
  pub no_slash : All (λ c. c ≢ 47) token
  pub follows : (rest ≡ []) ⊎ BeginsWithSlash rest

-- what a token leads to: the item at the place that it writes in decimal, or the document of the
-- last entry whose escaped name it is
abbrev pub LeadsTo : List ℕ → Json → Json → Type 0
LeadsTo token x y =
    ((place : ℕ) × (place < 2 ^ 64) × (token ≡ decimal place)
    × (slice_get (items x) place ≡ Some y))
    ⊎ IsLast (λ name. escaped name ≡ token) (entries x) y

-- tokens lead from one document to another, each from what the one before led to
abbrev pub LeadFrom : List (List ℕ) → Json → Json → Type 0
LeadFrom [] x y = x ≡ y
LeadFrom (token ∷ tokens) x y = (z : Json) × LeadsTo token x z × LeadFrom tokens z y

-- the pointer of some tokens, which lead there
abbrev pub PointsTo : List ℕ → Json → Json → Type 0
PointsTo pointer x y =
    (tokens : List (List ℕ)) × (pointer ≡ pointer_of tokens) × LeadFrom tokens x y
