-- Laws of lexemes.
use Rattle.std.specs.Prelude.{◌≡◌, ℕ, List}
use Rattle.nano_text.specs.Breaks.{BreaksNumber, BreaksString}
use Rattle.nano_text.specs.Number.{IsNumber}
use Rattle.nano_text.specs.String.{IsString}
use Rattle.nano_text.specs.declared.number.Number.{Number}

-- a text begins with one number lexeme, at most
abbrev pub BeginsWithOneNumber : Type 0
BeginsWithOneNumber = (text : List ℕ) (number other : Number) (run ran rest left : List ℕ)
    → IsNumber text number run rest → IsNumber text other ran left
    → (number ≡ other) × (run ≡ ran) × (rest ≡ left)

-- a text begins with one string lexeme, at most
abbrev pub BeginsWithOneString : Type 0
BeginsWithOneString = (text characters others rest left : List ℕ)
    → IsString text characters rest → IsString text others left
    → (characters ≡ others) × (rest ≡ left)

-- where no number lexeme stands, a reader goes to one place
abbrev pub NumberBreaksOnce : Type 0
NumberBreaksOnce = (text rest left : List ℕ)
    → BreaksNumber text rest → BreaksNumber text left → rest ≡ left

-- where no string lexeme stands, a reader goes to one place
abbrev pub StringBreaksOnce : Type 0
StringBreaksOnce = (text rest left : List ℕ)
    → BreaksString text rest → BreaksString text left → rest ≡ left
