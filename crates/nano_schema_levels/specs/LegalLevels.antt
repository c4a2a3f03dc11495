-- Which meanings the values of a type that contains itself have, whatever the format.
use Rattle.std.specs.Prelude.{ℕ, zero, suc}
use Rattle.nano_value.specs.Meaning.{Meaning}

-- what is legal for a type, given what is legal for the values of it inside
abbrev pub LegalStep : Type 1
LegalStep = (Meaning → Type 0) → Meaning → Type 0

-- what is legal for the values that are less deep
abbrev pub legal_level : LegalStep → ℕ → Meaning → Type 0
legal_level step zero m = ⊥
legal_level step (suc n) m = step (legal_level step n) m

-- legal at some level
abbrev pub LegalNested : LegalStep → Meaning → Type 0
LegalNested step m = (n : ℕ) × legal_level step n m

-- what the one calls legal, given what is legal inside, the other does, given that and more
abbrev pub IsWeaker : LegalStep → LegalStep → Type 1
IsWeaker s t = (P Q : Meaning → Type 0) → ((m : Meaning) → P m → Q m) → (m : Meaning) → s P m
    → t Q m
