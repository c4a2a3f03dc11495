-- What a call for the next value answers.
use Rattle.std.specs.Prelude.{◌≡◌, ◌≤◌, ◌<◌, false, ℕ, List, ◌∷◌, [], ◌++◌, Option, length, MatchOption}
use Rattle.std.specs.List.{AllByRecursion}
use Rattle.nano_text.specs.Place.{saturating_next}
use Rattle.nano_value.specs.Meaning.{Meaning}
use Rattle.nano_json_tokens.specs.Token.{Token}
use Rattle.nano_lines.specs.declared.error.Fault.{Fault}
use Rattle.nano_lines.specs.declared.error.Fault.TheVariants.{Bad, Long, NotUtf8, Stream}
use Rattle.nano_lines.specs.declared.lines.Lines.{Lines}
use Rattle.nano_lines.specs.Left.{IsLeft, IsEnded}
use Rattle.nano_lines.specs.Lines.{IsBlank, HoldsValue}
use Rattle.nano_lines.specs.Reads.{RejectsLine, IsNoText}
use Rattle.nano_lines.specs.Steps.{TakesLines, Follows, number_after}

-- a blank line that is not too long
pub record IsPassed (limit : ℕ) (line : List ℕ) : Type 0 where
  pub blank : IsBlank line
  pub fits : length line ≤ limit

module _ {R : Type 0} (remaining : R → Option (List ℕ)) (old new : Lines R) where
  -- blank lines were taken, and no other
  pub record TakesBlanks : Type 0 where
    pub blanks : List (List ℕ)
    pub passed : AllByRecursion (IsPassed old.limit) blanks
    pub taken : TakesLines remaining old new blanks

  -- blank lines were taken, and then a line of which this holds, with its number
  pub record TakesNext (P : ℕ → List ℕ → Type 0) : Type 0 where
    pub blanks : List (List ℕ)
    pub line : List ℕ
    pub passed : AllByRecursion (IsPassed old.limit) blanks
    pub taken : TakesLines remaining old new (blanks ++ line ∷ [])
    pub fits : length line ≤ old.limit
    pub holds : P (number_after old.number blanks) line

  -- blank lines were taken, and then the line of this number, which is too long
  pub record TakesLong (number : ℕ) : Type 0 where
    pub blanks : List (List ℕ)
    pub passed : AllByRecursion (IsPassed old.limit) blanks
    pub left : (stream : List ℕ) → IsLeft remaining old stream → (line : List ℕ)
        × Follows remaining old new (blanks ++ line ∷ []) stream × (old.limit < length line)
    pub number_is : number ≡ number_after old.number blanks
    pub next : new.number ≡ saturating_next number
    pub limit : new.limit ≡ old.limit

  -- only blank lines were left, and these were taken
  pub record TakesAll : Type 0 where
    pub blanks : TakesBlanks
    pub ended : IsEnded remaining new

  module _ (encodes : List Token → Meaning → Type 0) where
    -- the next value is taken with its line; or there is none
    abbrev pub Answers : {T : Type 0} → (T → Meaning) → Option T → Type 0
    Answers means found = (new.long ≡ false) × MatchOption found TakesAll
        (λ value. TakesNext (λ _ line. HoldsValue encodes line (means value)))

    -- why no value is taken, and which line was
    abbrev pub TakesFault : Fault → Type 0
    TakesFault (Bad error text) =
        TakesNext (λ number line. RejectsLine encodes line number error text)
    TakesFault (NotUtf8 number) = TakesNext (λ n line. (number ≡ n) × IsNoText line)
    TakesFault (Long number) = TakesLong number
    TakesFault (Stream error) = TakesBlanks
    TakesFault _ = ⊥
