-- The tokenizer as a function of the text, character by character. Only contracts of private
-- functions name it; lemmas prove that it agrees with the cut.
use Rattle.std.specs.Prelude.{ℕ, ◌+◌, ◌-◌, ◌*◌, ◌^◌, ◌==◌, ◌||◌, nat_lt, nat_le, pos, neg_ℤ, Bool}
use Rattle.std.specs.Prelude.{true, false, List, [], ◌∷◌, ◌++◌, length, encode_utf8, Option, Some}
use Rattle.std.specs.Prelude.{None, option_map, if◌then◌else◌, codes, not}
use Rattle.nano_toml.specs.Characters.{is_space, is_line_feed, is_quote, is_digit, is_sign}
use Rattle.nano_toml.specs.Characters.{is_in_digits, is_in_date}
use Rattle.nano_toml.specs.Token.{prefix, following, begins, Token, unsigned, signed, decimal, nan}
use Rattle.nano_toml.specs.Token.{infinity, date}
use Rattle.nano_toml.specs.Number.{digits, value, unchanged_sign}
use Rattle.nano_toml.specs.Reading.{Next, a_token}

pub record Taken : Type 0 where
  pub next : Next
  pub rest : List ℕ

abbrev pub taken : Token → List ℕ → Option Taken
taken token rest = Some (record { next = a_token token; rest = rest })

-- all but the first character
abbrev pub tail : List ℕ → List ℕ
tail [] = []
tail (c ∷ cs) = cs

-- ---- what is skipped: in a comment, or outside of one

abbrev pub after_gaps : Bool → List ℕ → List ℕ
after_gaps comment [] = []
after_gaps true (c ∷ cs) = if is_line_feed c then after_gaps false cs else after_gaps true cs
after_gaps false (c ∷ cs) =
    if c == 35 then after_gaps true cs else if is_space c then after_gaps false cs else (c ∷ cs)

-- ---- strings

-- a string's text, and what comes after its closing quotes
pub record Content : Type 0 where
  pub bytes : List ℕ
  pub rest : List ℕ

-- between single quotes, after these bytes: after a backslash, or not
abbrev pub short_at : List ℕ → Bool → List ℕ → Option Content
short_at bytes escaped [] = None
short_at bytes true (c ∷ cs) = short_at (bytes ++ encode_utf8 c) false cs
short_at bytes false (c ∷ cs) =
    if c == 34 then Some (record { bytes = bytes; rest = cs })
    else if c == 92 then short_at bytes true cs
    else short_at (bytes ++ encode_utf8 c) false cs

-- between triple quotes, after these bytes: after a backslash, or after this run of quotes
pub data After : Type 0 where
  a_backslash : After
  some_quotes : List ℕ → After

abbrev pub triple_at : List ℕ → After → List ℕ → Option Content
triple_at bytes a_backslash [] = None
triple_at bytes (some_quotes run) [] =
    if length run == 3 then Some (record { bytes = bytes; rest = [] }) else None
triple_at bytes a_backslash (c ∷ cs) = triple_at (bytes ++ encode_utf8 c) (some_quotes []) cs
triple_at bytes (some_quotes run) (c ∷ cs) =
    if c == 34 then triple_at bytes (some_quotes (run ++ c ∷ [])) cs
    else if length run == 3 then Some (record { bytes = bytes; rest = c ∷ cs })
    else if c == 92 then triple_at (bytes ++ run) a_backslash cs
    else triple_at ((bytes ++ run) ++ encode_utf8 c) (some_quotes []) cs

-- after the second quote, and after the first
abbrev pub after_two_quotes : List ℕ → Option Content
after_two_quotes text =
    if begins is_quote text then triple_at [] (some_quotes []) (tail text)
    else Some (record { bytes = []; rest = text })

abbrev pub after_one_quote : List ℕ → Option Content
after_one_quote text =
    if begins is_quote text then after_two_quotes (tail text) else short_at [] false text

-- ---- numbers

abbrev pub any_digit : List ℕ → Bool
any_digit [] = false
any_digit (c ∷ cs) = is_digit c || any_digit cs

-- the number, if 64 bits hold it
abbrev pub fitting : ℕ → Option ℕ
fitting n = if nat_lt n (2 ^ 64) then Some n else None

-- the value with one more digit
abbrev pub more_value : Option ℕ → ℕ → Option ℕ
more_value None digit = None
more_value (Some n) digit = fitting (n * 10 + (digit - 48))

-- after the point of a decimal, whose digits before it are these
abbrev pub decimal_at : Bool → List ℕ → List ℕ → Option Taken
decimal_at minus whole text =
    if any_digit whole || any_digit (prefix is_in_digits text)
    then taken
    (decimal ((unchanged_sign minus ++ digits whole) ++ (46 ∷ digits (prefix is_in_digits text))))
    (following is_in_digits text)
    else None

-- after the first minus of a date
abbrev pub date_at : Bool → List ℕ → List ℕ → Option Taken
date_at minus first text =
    taken (date ((unchanged_sign minus ++ digits first) ++ (45 ∷ prefix is_in_date text)))
    (following is_in_date text)

-- an integer, from whether it has a digit and from its value
abbrev pub integer_from : Bool → Bool → Option ℕ → Option Next
integer_from minus false size = None
integer_from minus true None = None
integer_from false true (Some size) = Some (a_token (unsigned size))
integer_from true true (Some size) =
    if nat_le size (2 ^ 63) then Some (a_token (signed (neg_ℤ (pos size)))) else None

abbrev pub integer_at : Bool → List ℕ → List ℕ → Option Taken
integer_at minus whole text =
    option_map (λ next. record { next = next; rest = text })
    (integer_from minus (any_digit whole) (fitting (value whole)))

-- after these digits
abbrev pub after_digits : Bool → List ℕ → List ℕ → Option Taken
after_digits minus whole [] = integer_at minus whole []
after_digits minus whole (c ∷ cs) =
    if c == 46 then decimal_at minus whole cs
    else if c == 45 then date_at minus whole cs
    else integer_at minus whole (c ∷ cs)

-- after a sign, from the digits on
abbrev pub number_from : Bool → List ℕ → Option Taken
number_from minus text = after_digits minus (prefix is_in_digits text) (following is_in_digits text)

-- the text without the prefix of these characters, if it has that prefix
abbrev pub after_word : List ℕ → List ℕ → Option (List ℕ)
after_word [] text = Some text
after_word (w ∷ ws) [] = None
after_word (w ∷ ws) (c ∷ cs) = if c == w then after_word ws cs else None

abbrev pub word_at : Token → List ℕ → List ℕ → Option Taken
word_at token word text =
    option_map (λ rest. record { next = a_token token; rest = rest }) (after_word word text)

-- after a sign, if there is one
abbrev pub after_sign : Bool → List ℕ → Option Taken
after_sign minus text =
    if begins (λ c. c == 110) text then word_at (nan minus) (codes "nan") text
    else if begins (λ c. c == 105) text then word_at (infinity minus) (codes "inf") text
    else number_from minus text

abbrev pub number_at : List ℕ → Option Taken
number_at text =
    after_sign (begins (λ c. c == 45) text) (if begins is_sign text then tail text else text)

-- ==== plain characters

-- no quote, no backslash, no NUL
abbrev pub is_plain : ℕ → Bool
is_plain c = not ((c == 34) || ((c == 92) || (c == 0)))

-- no line feed, no NUL
abbrev pub is_in_line : ℕ → Bool
is_in_line c = not ((c == 10) || (c == 0))

-- no NUL
abbrev pub is_remaining : ℕ → Bool
is_remaining c = not (c == 0)
