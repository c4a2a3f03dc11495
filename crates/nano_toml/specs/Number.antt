-- Numbers: a sign, and what comes after it. What that may be, which token it is, and what may
-- not follow.
use Rattle.std.specs.Prelude.{◌≡◌, ℕ, pos, neg_ℤ, ◌+◌, ◌-◌, ◌*◌, ◌^◌, ◌<◌, ◌≤◌, ◌==◌, Bool, true}
use Rattle.std.specs.Prelude.{false, cond, List, [], ◌∷◌, ◌++◌, length, codes, filter, Option, Some}
use Rattle.std.specs.Prelude.{None}
use Rattle.nano_toml.specs.Characters.{is_sign, is_digit, is_in_digits, is_in_date, goes_on_integer}
use Rattle.nano_toml.specs.Characters.{Each}
use Rattle.nano_toml.specs.Token.{begins, Token, unsigned, signed, decimal, nan, infinity, date}

-- what comes after the sign. Digits are written with underscores in any place
pub data Body : Type 0 where
  is_nan : Body
  is_infinity : Body
  -- the digits before the point, and those after it
  is_decimal : List ℕ → List ℕ → Body
  -- the digits before the first `-`, and what comes after it
  is_date : List ℕ → List ℕ → Body
  is_integer : List ℕ → Body

-- how it is written
abbrev pub body_text : Body → List ℕ
body_text is_nan = codes "nan"
body_text is_infinity = codes "inf"
body_text (is_decimal whole part) = whole ++ 46 ∷ part
body_text (is_date first more) = first ++ 45 ∷ more
body_text (is_integer whole) = whole

-- the digits, without underscores
abbrev pub digits : List ℕ → List ℕ
digits run = filter is_digit run

-- the number that digits encode, after others that encode n
abbrev pub value_from : ℕ → List ℕ → ℕ
value_from n [] = n
value_from n (c ∷ cs) = value_from (n * 10 + (c - 48)) cs

abbrev pub value : List ℕ → ℕ
value run = value_from 0 (digits run)

-- an integer with a minus sign reaches down to -2^63, another up to 2^64 - 1
abbrev pub IsInRange : Bool → ℕ → Type 0
IsInRange true n = n ≤ 2 ^ 63
IsInRange false n = n < 2 ^ 64

-- each part has the characters that it may have, a decimal or an integer has a digit, and an
-- integer is in range
abbrev pub IsBody : Bool → Body → Type 0
IsBody minus is_nan = Unit {0}
IsBody minus is_infinity = Unit {0}
IsBody minus (is_decimal whole part) =
    Each is_in_digits whole × Each is_in_digits part
    × (0 < length (digits whole ++ digits part))
IsBody minus (is_date first more) = Each is_in_digits first × Each is_in_date more
IsBody minus (is_integer whole) =
    Each is_in_digits whole × (0 < length (digits whole)) × IsInRange minus (value whole)

-- whether a character would go on with it
abbrev pub goes_on : Body → ℕ → Bool
goes_on is_nan c = false
goes_on is_infinity c = false
goes_on (is_decimal whole part) c = is_in_digits c
goes_on (is_date first more) c = is_in_date c
goes_on (is_integer whole) c = goes_on_integer c

-- a text retains a minus sign
abbrev pub unchanged_sign : Bool → List ℕ
unchanged_sign minus = cond minus (45 ∷ []) []

abbrev pub integer_token : Bool → ℕ → Token
integer_token true n = signed (neg_ℤ (pos n))
integer_token false n = unsigned n

abbrev pub body_token : Bool → Body → Token
body_token minus is_nan = nan minus
body_token minus is_infinity = infinity minus
body_token minus (is_decimal whole part) =
    decimal (unchanged_sign minus ++ (digits whole ++ 46 ∷ digits part))
body_token minus (is_date first more) = date (unchanged_sign minus ++ (digits first ++ 45 ∷ more))
body_token minus (is_integer whole) = integer_token minus (value whole)

-- the character of a sign, if there is one
abbrev pub sign_text : Option ℕ → List ℕ
sign_text None = []
sign_text (Some c) = c ∷ []

abbrev pub is_minus : Option ℕ → Bool
is_minus None = false
is_minus (Some c) = c == 45

-- what stands there without a sign starts with a digit
abbrev pub SignFits : Option ℕ → List ℕ → Type 0
SignFits None text = begins is_digit text ≡ true
SignFits (Some c) text = is_sign c ≡ true

-- the text begins with a number, and rest comes after it
pub record IsNumber (text : List ℕ) (token : Token) (rest : List ℕ) : Type 0 where
  pub sign : Option ℕ
  pub body : Body
  pub fits : SignFits sign (body_text body)
  pub good : IsBody (is_minus sign) body
  pub is : token ≡ body_token (is_minus sign) body
  pub split : text ≡ sign_text sign ++ (body_text body ++ rest)
  pub ends : begins (goes_on body) rest ≡ false
