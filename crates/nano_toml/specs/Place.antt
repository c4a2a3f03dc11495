-- Where a character stands, by what stands before it.
use Rattle.std.specs.Prelude.{◌≡◌, ℕ, not, List, ◌++◌, length, filter, reverse, ◌==◌, ◌-◌, [], ◌∷◌}
use Rattle.std.specs.Prelude.{chars, take, if◌then◌else◌, codes, pos, ◌⊎◌}
use Rattle.std.specs.Str.Iter.{chars_rest}
use Rattle.std.specs.declared.str.Chars.{Chars}
use Rattle.nano_toml.specs.Characters.{is_line_feed, is_sign, is_in_digits}
use Rattle.nano_toml.specs.Token.{prefix, following, begins, Token, ident, string, unsigned, signed}
use Rattle.nano_toml.specs.Token.{decimal, boolean, nan, infinity, date, equals, open_bracket}
use Rattle.nano_toml.specs.Token.{close_bracket, comma}
use Rattle.nano_toml.specs.declared.state.Cursor.{Cursor}
use Rattle.nano_toml.specs.Scan.{tail}
use Rattle.nano_toml.specs.Cut.{Cut, Tokens}
use Rattle.nano_toml.specs.Data.{Data, Values, no_values, more_values}
use Rattle.nano_toml.specs.Data as value
use Rattle.nano_toml.specs.Statements.{Statement, scope, element, pair}

-- how many line feeds the characters have
abbrev pub line_of : List ℕ → ℕ
line_of before = length (filter is_line_feed before)

-- how many characters come after the last line feed
abbrev pub column_of : List ℕ → ℕ
column_of before = length (prefix (λ c. not (is_line_feed c)) (reverse before))

-- a place in the text: after some prefix of it
abbrev pub IsPlaceIn : List ℕ → ℕ → ℕ → Type 0
IsPlaceIn text line column =
    (before after : List ℕ) × (text ≡ before ++ after)
    × (line ≡ line_of before) × (column ≡ column_of before)

-- ==== the text that is still to be cut

-- the characters that an iterator over a text still holds
abbrev pub held : Chars → List ℕ
held i = chars (chars_rest i)

-- the characters before the first NUL
abbrev pub before_nul : List ℕ → List ℕ
before_nul [] = []
before_nul (c ∷ cs) = if c == 0 then [] else (c ∷ before_nul cs)

-- the remaining input of what an iterator still holds
unfoldable pub remaining_of : Chars → List ℕ
remaining_of rest = before_nul (held rest)

-- the remaining input of a cursor
abbrev pub remaining : Cursor → List ℕ
remaining cursor = remaining_of cursor.rest

-- the remaining input of a whole input
abbrev pub remaining_text : List ℕ → List ℕ
remaining_text bytes = before_nul (chars bytes)

-- how many characters of an input stand before what remains
abbrev pub before_count : List ℕ → List ℕ → ℕ
before_count bytes remaining = length (remaining_text bytes) - length remaining

-- how many characters of an input were taken, where this remains, with the one that stands next
abbrev pub taken_count : List ℕ → List ℕ → ℕ
taken_count bytes remaining =
    length (chars bytes) - ((length (chars bytes) - before_count bytes remaining) - 1)

-- the characters of an input that were taken, where this remains, and the one that stands next
abbrev pub taken : List ℕ → List ℕ → List ℕ
taken bytes remaining = take (taken_count bytes remaining) (chars bytes)

-- ==== what remains

-- after a point and the digits after it, if there is a point
abbrev pub point_remaining : List ℕ → List ℕ
point_remaining [] = []
point_remaining (c ∷ cs) = if c == 46 then following is_in_digits cs else (c ∷ cs)

-- after as much of a word as stands there
abbrev pub word_remaining : List ℕ → List ℕ → List ℕ
word_remaining [] text = text
word_remaining (w ∷ ws) [] = []
word_remaining (w ∷ ws) (c ∷ cs) = if c == w then word_remaining ws cs else (c ∷ cs)

-- in a number without its sign
abbrev pub unsigned_remaining : List ℕ → List ℕ
unsigned_remaining text =
    if begins (λ c. c == 110) text then word_remaining (codes "nan") text
    else if begins (λ c. c == 105) text then word_remaining (codes "inf") text
    else point_remaining (following is_in_digits text)

-- in a number
abbrev pub number_remaining : List ℕ → List ℕ
number_remaining text = unsigned_remaining (if begins is_sign text then tail text else text)

-- ==== prefixes of a text

-- a closed thing and the tokens after it, an open thing that all the tokens are, or neither
pub data Prefix (A : Type 0) : Type 0 where
  closed : A → List Token → Prefix A
  is_open : A → Prefix A
  nothing : Prefix A

-- one more value at the end
abbrev pub push_value : Values → Data → Values
push_value no_values d = more_values d no_values
push_value (more_values v vs) d = more_values v (push_value vs d)

-- the arrays that are open around an array, the innermost first, closed one after another
abbrev pub close_all : List Values → Values → Data
close_all [] here = value.values here
close_all (around ∷ outer) here = close_all outer (push_value around (value.values here))

-- inside an array that holds these values, with these arrays around it
abbrev pub array_prefix : List Values → Values → List Token → Prefix Data
array_prefix outer here [] = is_open (close_all outer here)
array_prefix outer here (comma ∷ ts) = array_prefix outer here ts
array_prefix outer here (open_bracket ∷ ts) = array_prefix (here ∷ outer) no_values ts
array_prefix [] here (close_bracket ∷ ts) = closed (value.values here) ts
array_prefix (around ∷ outer) here (close_bracket ∷ ts) =
    array_prefix outer (push_value around (value.values here)) ts
array_prefix outer here (string s ∷ ts) = array_prefix outer (push_value here (value.text s)) ts
array_prefix outer here (unsigned n ∷ ts) =
    array_prefix outer (push_value here (value.number (pos n))) ts
array_prefix outer here (signed n ∷ ts) = array_prefix outer (push_value here (value.number n)) ts
array_prefix outer here (decimal s ∷ ts) = array_prefix outer (push_value here (value.decimal s)) ts
array_prefix outer here (boolean b ∷ ts) = array_prefix outer (push_value here (value.boolean b)) ts
array_prefix outer here (nan minus ∷ ts) = array_prefix outer (push_value here (value.nan minus)) ts
array_prefix outer here (infinity minus ∷ ts) =
    array_prefix outer (push_value here (value.infinity minus)) ts
array_prefix outer here (date s ∷ ts) = array_prefix outer (push_value here (value.date s)) ts
array_prefix outer here (ident s ∷ ts) = nothing
array_prefix outer here (equals ∷ ts) = nothing

-- a value
abbrev pub value_prefix : List Token → Prefix Data
value_prefix [] = nothing
value_prefix (open_bracket ∷ ts) = array_prefix [] no_values ts
value_prefix (string s ∷ ts) = closed (value.text s) ts
value_prefix (unsigned n ∷ ts) = closed (value.number (pos n)) ts
value_prefix (signed n ∷ ts) = closed (value.number n) ts
value_prefix (decimal s ∷ ts) = closed (value.decimal s) ts
value_prefix (boolean b ∷ ts) = closed (value.boolean b) ts
value_prefix (nan minus ∷ ts) = closed (value.nan minus) ts
value_prefix (infinity minus ∷ ts) = closed (value.infinity minus) ts
value_prefix (date s ∷ ts) = closed (value.date s) ts
value_prefix (t ∷ ts) = nothing

-- the pair of a value
abbrev pub pair_of : List ℕ → Prefix Data → Prefix Statement
pair_of name (closed d ts) = closed (pair name d) ts
pair_of name (is_open d) = is_open (pair name d)
pair_of name nothing = nothing

-- after the name of a pair
abbrev pub pair_prefix : List ℕ → List Token → Prefix Statement
pair_prefix name (equals ∷ ts) = pair_of name (value_prefix ts)
pair_prefix name ts = nothing

-- a closing bracket, and after it what next finds
abbrev pub closing : {A : Type 0} → (List Token → Prefix A) → List Token → Prefix A
closing next (close_bracket ∷ ts) = next ts
closing next ts = nothing

-- after the name of a scope
abbrev pub scope_prefix : List ℕ → List Token → Prefix Statement
scope_prefix name ts = closing (closed (scope name)) ts

-- after the two brackets of an element
abbrev pub element_prefix : List Token → Prefix Statement
element_prefix (ident name ∷ ts) = closing (closing (closed (element name))) ts
element_prefix ts = nothing

-- after a bracket
abbrev pub header_prefix : List Token → Prefix Statement
header_prefix (ident name ∷ ts) = scope_prefix name ts
header_prefix (string name ∷ ts) = scope_prefix name ts
header_prefix (open_bracket ∷ ts) = element_prefix ts
header_prefix ts = nothing

-- a statement
abbrev pub statement_prefix : List Token → Prefix Statement
statement_prefix (open_bracket ∷ ts) = header_prefix ts
statement_prefix (ident name ∷ ts) = pair_prefix name ts
statement_prefix (string name ∷ ts) = pair_prefix name ts
statement_prefix ts = nothing

-- a closing bracket is wanted, and nothing more
abbrev pub close_prefix : List Token → Prefix (Unit {0})
close_prefix ts = closing (closed tt) ts

-- the tokens are split off the text one after the other, and leave rest
abbrev pub Begins : List Token → List ℕ → List ℕ → Type 0
Begins [] text rest = text ≡ rest
Begins (t ∷ ts) text rest = (middle : List ℕ) × Cut text t middle × Begins ts middle rest

-- the text begins with it, and leaves rest; what is open ends the text
abbrev pub Parses : {A : Type 0} → (List Token → Prefix A) → List ℕ → A → List ℕ → Type 0
Parses prefix text a rest =
    ((ts : List Token) × Begins ts text rest
    × ((more : List Token) → prefix (ts ++ more) ≡ closed a more))
    ⊎ ((ts : List Token) × Tokens text ts × (prefix ts ≡ is_open a) × (rest ≡ []))

-- whatever the tokens of the text are, they don't begin with it
abbrev pub ParsesNothing : {A : Type 0} → (List Token → Prefix A) → List ℕ → Type 0
ParsesNothing prefix text = (ts : List Token) → Tokens text ts → prefix ts ≡ nothing

-- no closing bracket is cut from the text
abbrev pub ClosesNothing : List ℕ → Type 0
ClosesNothing text = (rest : List ℕ) → Cut text close_bracket rest → ⊥
