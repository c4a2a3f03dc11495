-- The kinds of characters that tokens are made of.
use Rattle.std.specs.Prelude.{◌≡◌, ◌≤◌, ℕ, ◌==◌, ◌||◌, ◌&&◌, nat_le, Bool, true, false, List}
use Rattle.std.specs.List.{AllByRecursion}

abbrev pub is_space : ℕ → Bool
is_space c = (c == 10) || ((c == 13) || ((c == 9) || (c == 32)))

abbrev pub is_line_feed : ℕ → Bool
is_line_feed c = c == 10

abbrev pub is_quote : ℕ → Bool
is_quote c = c == 34

abbrev pub is_digit : ℕ → Bool
is_digit c = nat_le 48 c && nat_le c 57

abbrev pub is_letter : ℕ → Bool
is_letter c = (nat_le 65 c && nat_le c 90) || (nat_le 97 c && nat_le c 122)

-- `+` or `-`
abbrev pub is_sign : ℕ → Bool
is_sign c = (c == 43) || (c == 45)

-- a letter or `_`
abbrev pub starts_word : ℕ → Bool
starts_word c = is_letter c || (c == 95)

-- a letter, `_`, `-` or `.`
abbrev pub is_in_word : ℕ → Bool
is_in_word c = starts_word c || ((c == 45) || (c == 46))

-- a sign or a digit
abbrev pub starts_number : ℕ → Bool
starts_number c = is_sign c || is_digit c

-- a digit or `_`
abbrev pub is_in_digits : ℕ → Bool
is_in_digits c = is_digit c || (c == 95)

-- a digit, `:`, `-` or `T`
abbrev pub is_in_date : ℕ → Bool
is_in_date c = is_digit c || ((c == 58) || ((c == 45) || (c == 84)))

-- what makes more, or another kind of number, of an integer: a digit, `_`, `.` or `-`
abbrev pub goes_on_integer : ℕ → Bool
goes_on_integer c = is_in_digits c || ((c == 46) || (c == 45))

-- each character passes the test
abbrev pub Each : (ℕ → Bool) → List ℕ → Type 0
Each p cs = AllByRecursion (λ c. p c ≡ true) cs

-- no character passes the test
abbrev pub NoneOf : (ℕ → Bool) → List ℕ → Type 0
NoneOf p cs = AllByRecursion (λ c. p c ≡ false) cs

-- the test doesn't take a NUL, and all characters beyond ASCII answer it alike: so it can be made
-- of the first byte of a character
abbrev pub IsByteTest : (ℕ → Bool) → Type 0
IsByteTest p = (p 0 ≡ false) × ((n : ℕ) → 128 ≤ n → p n ≡ p 128)
