-- Characters that the formats name, by their codes.
use Rattle.std.specs.Prelude.{ℕ, Bool, false, List, [], ◌∷◌, if◌then◌else◌, ◌+◌, ◌/◌, ◌%◌, ◌==◌, ◌||◌}
use Rattle.std.specs.Int.{w64, trailing_zeros}

abbrev pub backspace : ℕ
backspace = 8

abbrev pub tab : ℕ
tab = 9

abbrev pub line_feed : ℕ
line_feed = 10

abbrev pub form_feed : ℕ
form_feed = 12

abbrev pub carriage_return : ℕ
carriage_return = 13

abbrev pub quote : ℕ
quote = 34

abbrev pub digit_0 : ℕ
digit_0 = 48

abbrev pub backslash : ℕ
backslash = 92

abbrev pub letter_b : ℕ
letter_b = 98

abbrev pub letter_f : ℕ
letter_f = 102

abbrev pub letter_n : ℕ
letter_n = 110

abbrev pub letter_r : ℕ
letter_r = 114

abbrev pub letter_t : ℕ
letter_t = 116

abbrev pub letter_u : ℕ
letter_u = 117

-- white space: line feed, carriage return, tab, space
abbrev pub is_space : ℕ → Bool
is_space c = (((c == line_feed) || (c == carriage_return)) || (c == tab)) || (c == 32)

-- ==== prefixes of a text

abbrev pub prefix : (ℕ → Bool) → List ℕ → List ℕ
prefix test [] = []
prefix test (c ∷ cs) = if test c then (c ∷ prefix test cs) else []

abbrev pub following : (ℕ → Bool) → List ℕ → List ℕ
following test [] = []
following test (c ∷ cs) = if test c then following test cs else (c ∷ cs)

-- the text has a first character, and it passes
abbrev pub first_is : (ℕ → Bool) → List ℕ → Bool
first_is test [] = false
first_is test (c ∷ cs) = test c

-- ==== digits of numbers

-- hundreds, tens and ones
abbrev pub three_digits : ℕ → List ℕ
three_digits n = (48 + n / 100) ∷ (48 + n / 10 % 10) ∷ (48 + n % 10) ∷ []

-- ==== what sixteen bytes looked at together say

-- the place of the lowest bit that is set, or n
abbrev pub first_set : ℕ → ℕ → ℕ
first_set mask n = if mask == 0 then n else trailing_zeros w64 mask
