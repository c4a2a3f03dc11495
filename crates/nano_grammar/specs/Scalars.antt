-- Values of one token or of fixed ones: numbers, booleans, texts, the unit, what is absent.
use Rattle.std.specs.Prelude.{◌≡◌, ◌≢◌, ℕ, List, [], ◌∷◌, Option, Some, None, ◌+◌, ◌^◌, ℤ}
use Rattle.std.specs.Prelude.{pos, negsuc}
use Rattle.std.specs.Int.{Width}
use Rattle.nano_value.specs.Meaning.{Meaning, nothing}
use Rattle.nano_grammar.specs.Tokens.{Cutting, IsValueText}
use Rattle.nano_grammar.specs.Codec.{Grammar, BeginsValue, Codec}
use Rattle.nano_grammar.specs.Items.{StartsOtherwise}
use mir.Val.{hbits}

-- tokens of one kind, and what each carries: one thing at most. They may begin a value, and none is
-- what stands for what is absent
pub record Carries {T : Type 0} (g : Grammar T) (A : Type 0) : Type 1 where
  pub carries : T → A → Type 0
  pub one : (t : T) (x y : A) → carries t x → carries t y → x ≡ y
  pub begins : (t : T) (x : A) → carries t x → g.may_begin t
  pub some : (t : T) (x : A) → carries t x → t ≢ g.none

-- one token, which carries a thing that has the property
pub record EncodesOne {T A : Type 0} (carries : T → A → Type 0) (P : A → Type 0)
    (ts : List T) (x : A) : Type 0 where
  pub token : T
  pub one : ts ≡ token ∷ []
  pub carries_it : carries token x
  pub has : P x

-- how things that have the property are written by one token
pub record OneCanonical {T : Type 0} (c : Cutting T) {g : Grammar T} {A : Type 0}
    (k : Carries g A) (means : A → Meaning) (P : A → Type 0) : Type 0 where
  pub token : A → T
  pub text : A → List ℕ
  pub injective : (x y : A) → means x ≡ means y → x ≡ y
  pub carries_it : (x : A) → k.carries (token x) x
  pub is_written : (x : A) → P x → IsValueText c (token x ∷ []) (text x)

-- ==== types whose values all mean nothing, and are encoded and written in one way

-- the tokens and the text that stand for nothing
pub record UnitStyle {T : Type 0} (c : Cutting T) (g : Grammar T) : Type 0 where
  pub tokens : List T
  pub text : List ℕ
  pub begins : BeginsValue g tokens
  pub is_written : IsValueText c tokens text

-- these tokens, and nothing
pub record EncodesUnit {T : Type 0} (tokens ts : List T) (m : Meaning) : Type 0 where
  pub one : ts ≡ tokens
  pub is : m ≡ nothing

-- ==== options

-- how what is absent is written
pub record NoneStyle {T : Type 0} (c : Cutting T) (g : Grammar T) : Type 0 where
  pub text : List ℕ
  pub is_written : IsValueText c (g.none ∷ []) text

-- what is absent is one token; or an encoding of the item that doesn't begin with that
abbrev pub EncodesOption : {T A : Type 0} → T → (List T → A → Type 0) → List T → Option A → Type 0
EncodesOption none S ts None = ts ≡ none ∷ []
EncodesOption none S ts (Some x) = S ts x × StartsOtherwise none ts

-- what is absent as it is written, or the item
abbrev pub if_some : {A S : Type 0} → List S → (A → List S) → Option A → List S
if_some none f None = none
if_some none f (Some x) = f x

-- ---- the canonical text

module _ {T : Type 0} {c : Cutting T} {g : Grammar T} (n : NoneStyle c g) {A : Type 0} where
  abbrev pub option_text : (A → List ℕ) → Option A → List ℕ
  option_text = if_some n.text

  abbrev pub option_tokens : (A → List T) → Option A → List T
  option_tokens = if_some (g.none ∷ [])

-- ---- the format

module _ {T : Type 0} {c : Cutting T} {g : Grammar T} (n : NoneStyle c g) {A : Type 0}
    (f : Codec c g A) where
  -- no Some around what is written with the token for what is absent at its beginning
  abbrev pub SoundOption : Option A → Type 0
  SoundOption None = Unit {0}
  SoundOption (Some x) = f.sound x × StartsOtherwise g.none (f.canonical.tokens x)

-- ==== numbers of each width are numbers of 64 bits, which the formats have tokens for

-- from the least number of a width to the greatest
abbrev pub IsRangeOf : Width → ℤ → ℤ → Type 0
IsRangeOf w (negsuc k) (pos n) = (k ≡ n) × (2 ^ hbits w ≡ n + 1)
IsRangeOf w _ _ = ⊥
