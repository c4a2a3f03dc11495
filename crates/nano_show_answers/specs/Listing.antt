-- The listing of a table: its keys in ascending order, each with its value.
use Rattle.std.specs.Prelude.{ℕ, ◌/◌, ◌%◌, List, [], ◌∷◌, ◌++◌, map, codes, slice_index, ◌+◌, Bool}
use Rattle.std.specs.Prelude.{true, false, encode_utf8_all, Option, Some, None}
use Rattle.std.specs.List.{join_with_byte}
use Rattle.std.specs.Fmt.{decimal, signed_decimal}
use Rattle.nano_json_tokens.specs.Written.{written_text, written_truth}
use Rattle.nano_toml.specs.Data.{Data, text, boolean, number, nan, infinity, date, tables, values}
use Rattle.nano_toml.specs.Data.{Values, no_values, more_values, Tables, no_tables, more_tables}
use Rattle.nano_toml.specs.Data.{Table, no_pairs, more_pairs, values_view}
use Rattle.nano_toml.specs.Data as value
use Rattle.nano_toml.specs.declared.value.Toml.{Toml}
use Rattle.nano_show_answers.specs.declared.listed.OpenList.{OpenList}

-- ==== pairs

-- a hexadecimal digit
abbrev pub hex_digit : ℕ → ℕ
hex_digit n = slice_index (codes "0123456789abcdef") n

-- the two digits of a byte, the higher first
abbrev pub hex_pair : ℕ → List ℕ
hex_pair byte = hex_digit (byte / 16) ∷ hex_digit (byte % 16) ∷ []

-- a pair for each byte, with one space between
abbrev pub hex_pairs : List ℕ → List ℕ
hex_pairs bytes = join_with_byte 32 (map hex_pair bytes)

-- a text with a line feed after it
abbrev pub line : List ℕ → List ℕ
line bytes = bytes ++ 10 ∷ []

-- ==== the listing of a table

-- a text as a JSON string
abbrev pub quoted : List ℕ → List ℕ
quoted t = encode_utf8_all (written_text t)

abbrev pub minus_sign : Bool → List ℕ
minus_sign true = codes "-"
minus_sign false = []

abbrev pub count : Tables → ℕ
count no_tables = 0
count (more_tables table ts) = 1 + count ts

-- a value as it is listed
abbrev mutual
  pub listed : Data → List ℕ
  listed (text t) = quoted t
  listed (boolean b) = written_truth b
  listed (number n) = signed_decimal n
  listed (value.decimal t) = codes "dec " ++ t
  listed (nan minus) = minus_sign minus ++ codes "nan"
  listed (infinity minus) = minus_sign minus ++ codes "inf"
  listed (date t) = codes "date " ++ t
  listed (tables ts) = codes "tables " ++ decimal (count ts)
  listed (values vs) = codes "[" ++ (listed_values vs ++ codes "]")

  -- values with `, ` between
  pub listed_values : Values → List ℕ
  listed_values no_values = []
  listed_values (more_values v vs) = listed v ++ more_listed vs

  -- values with `, ` before each
  pub more_listed : Values → List ℕ
  more_listed no_values = []
  more_listed (more_values v vs) = codes ", " ++ (listed v ++ more_listed vs)

-- the line `KEY = VALUE`
abbrev pub pair_line : List ℕ → Data → List ℕ
pair_line key d = quoted key ++ (codes " = " ++ line (listed d))

-- the lines of an element's pairs, with what names the element before each
abbrev pub element_lines : List ℕ → Table → List ℕ
element_lines name no_pairs = []
element_lines name (more_pairs key d pairs) = name ++ (pair_line key d ++ element_lines name pairs)

-- what names the element of a key at a place: `KEY[I] `
abbrev pub element_name : List ℕ → ℕ → List ℕ
element_name key place = quoted key ++ (codes "[" ++ (decimal place ++ codes "] "))

-- the lines of a key's elements, of which the first stands at this place
abbrev pub elements_lines : List ℕ → ℕ → Tables → List ℕ
elements_lines key place no_tables = []
elements_lines key place (more_tables table ts) =
    element_lines (element_name key place) table ++ elements_lines key (place + 1) ts

-- the lines after the one of a key: those of its elements, where it has any
abbrev pub lines_after : List ℕ → Data → List ℕ
lines_after key (tables ts) = elements_lines key 0 ts
lines_after key d = []

abbrev pub listing : Table → List ℕ
listing no_pairs = []
listing (more_pairs key d pairs) = pair_line key d ++ (lines_after key d ++ listing pairs)

-- ==== lists that are open

-- what stands before the next value of a list: nothing before the first of all
abbrev pub before_next : Bool → List ℕ
before_next true = []
before_next false = codes ", "

-- what is listed of the values that are left of a list
abbrev pub left_listed : Bool → Values → List ℕ
left_listed true vs = listed_values vs
left_listed false vs = more_listed vs

-- and its closing bracket after them
abbrev pub closed_list : Bool → List Toml → List ℕ
closed_list is_first list = left_listed is_first (values_view list) ++ codes "]"

-- what is still to be listed of lists in lists, the innermost last, with `more` after it
abbrev pub closed_lists : List OpenList → List ℕ → List ℕ
closed_lists [] more = more
closed_lists (l ∷ ls) more = closed_lists ls (closed_list l.is_first l.values.now ++ more)

-- of a list that was just opened, or of none
abbrev pub closed_if_opened : Option (List Toml) → List ℕ
closed_if_opened None = []
closed_if_opened (Some list) = closed_list true list
