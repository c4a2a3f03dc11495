-- Number lexemes: the parts of a run, which runs are good, which number each is, and what may not
-- follow it.
use Rattle.std.specs.Prelude.{◌≡◌, ℕ, ◌^◌, ◌<◌, ◌≤◌, ◌==◌, ◌||◌, Bool, true, false, cond, List, []}
use Rattle.std.specs.Prelude.{◌∷◌, ◌++◌, length, pos, neg_ℤ, Option, Some, None, IfSome}
use Rattle.std.specs.Char.{is_ascii_digit}
use Rattle.std.specs.Str.{all_ascii_digits}
use Rattle.std.specs.Str.Parse.{digits_value}
use Rattle.nano_text.specs.declared.number.Number.{Number}
use Rattle.nano_text.specs.declared.number.Number.TheVariants.{U64, I64, Dec}
use Rattle.nano_text.specs.Characters.{first_is}

-- a letter, whether a minus follows it, and digits
pub record Exponent : Type 0 where
  pub letter : ℕ
  pub minus : Bool
  pub digits : List ℕ

-- the parts of a run: the character of its sign, its digits, those after its point, and its
-- exponent
pub record Run : Type 0 where
  pub sign : Option ℕ
  pub whole : List ℕ
  pub fraction : Option (List ℕ)
  pub exponent : Option Exponent

abbrev pub sign_text : Option ℕ → List ℕ
sign_text None = []
sign_text (Some c) = c ∷ []

abbrev pub fraction_text : Option (List ℕ) → List ℕ
fraction_text None = []
fraction_text (Some ds) = 46 ∷ ds

abbrev pub exponent_text : Option Exponent → List ℕ
exponent_text None = []
exponent_text (Some e) = e.letter ∷ (cond e.minus (45 ∷ []) [] ++ e.digits)

-- how the run is written
abbrev pub run_text : Run → List ℕ
run_text r = sign_text r.sign ++ (r.whole ++ (fraction_text r.fraction ++ exponent_text r.exponent))

-- + and -
abbrev pub is_sign : ℕ → Bool
is_sign c = (c == 43) || (c == 45)

abbrev pub is_point : ℕ → Bool
is_point c = c == 46

-- e and E
abbrev pub is_letter_e : ℕ → Bool
is_letter_e c = (c == 101) || (c == 69)

-- each part is of the characters that it may have
pub record IsRun (r : Run) : Type 0 where
  pub sign : IfSome r.sign (λ c. is_sign c ≡ true)
  pub whole : all_ascii_digits r.whole ≡ true
  pub fraction : IfSome r.fraction (λ ds. all_ascii_digits ds ≡ true)
  pub letter : IfSome r.exponent (λ e. is_letter_e e.letter ≡ true)
  pub digits : IfSome r.exponent (λ e. all_ascii_digits e.digits ≡ true)

-- the digits after the point
abbrev pub fraction_digits : Option (List ℕ) → List ℕ
fraction_digits None = []
fraction_digits (Some ds) = ds

abbrev pub is_minus : Option ℕ → Bool
is_minus None = false
is_minus (Some c) = c == 45

-- an integer has a digit and is in range; a decimal has a digit before its exponent, and one in it
abbrev pub AreGoodParts : Bool → List ℕ → Option (List ℕ) → Option Exponent → Type 0
AreGoodParts minus whole None None =
    (0 < length whole)
    × (cond minus (digits_value 10 whole ≤ 2 ^ 63) (digits_value 10 whole < 2 ^ 64))
AreGoodParts minus whole (Some ds) None = 0 < length (whole ++ ds)
AreGoodParts minus whole fraction (Some e) =
    (0 < length (whole ++ fraction_digits fraction)) × (0 < length e.digits)

abbrev pub IsGood : Run → Type 0
IsGood r = AreGoodParts (is_minus r.sign) r.whole r.fraction r.exponent

-- an integer with a minus is an `I64`, another a `U64`; a point or an exponent makes a decimal
abbrev pub number_from_parts : Bool → List ℕ → Option (List ℕ) → Option Exponent → Number
number_from_parts minus whole None None =
    cond minus (I64 (neg_ℤ (pos (digits_value 10 whole)))) (U64 (digits_value 10 whole))
number_from_parts minus whole (Some ds) None = Dec
number_from_parts minus whole fraction (Some e) = Dec

abbrev pub number_of : Run → Number
number_of r = number_from_parts (is_minus r.sign) r.whole r.fraction r.exponent

-- whether a character would go on with the run
abbrev pub continues : Option (List ℕ) → Option Exponent → ℕ → Bool
continues None None c = (is_ascii_digit c || is_point c) || is_letter_e c
continues (Some ds) None c = is_ascii_digit c || is_letter_e c
continues fraction (Some e) c = is_ascii_digit c

-- the text begins with this run, which is good and as long as it goes, and that is the rest
pub record IsNumber (text : List ℕ) (number : Number) (run rest : List ℕ) : Type 0 where
  pub parts : Run
  pub is_run : IsRun parts
  pub good : IsGood parts
  pub number_is : number ≡ number_of parts
  pub run_is : run ≡ run_text parts
  pub split : text ≡ run ++ rest
  pub ends : first_is (continues parts.fraction parts.exponent) rest ≡ false
