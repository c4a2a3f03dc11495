-- What is shown of a fault of a text.
use Rattle.std.specs.Prelude.{ℕ, Bool, not, zero, suc, ◌+◌, ◌-◌, ◌^◌, ◌==◌, ◌&&◌, ◌||◌}
use Rattle.std.specs.Prelude.{nat_lt, nat_le, if◌then◌else◌}
use Rattle.std.specs.Prelude.{List, [], ◌∷◌, ◌++◌, length, take, drop, map, min, slice_get}
use Rattle.std.specs.Prelude.{unwrap_or, String, string_bytes, codes, encode_utf8_all}
use Rattle.std.specs.Global.{Global}
use Rattle.std.specs.Fmt.{decimal}
use Rattle.std.specs.Str.{chars}
use Rattle.std.specs.Str.Lines.{lines}
use Rattle.nano_text.specs.Characters.{tab, line_feed}
use Rattle.nano_text_forms.specs.declared.fault.TextFault.{TextFault}

-- ==== the place

-- the line that is shown: column 0 is that of a line feed, which ends the line before
abbrev pub row_of : ℕ → ℕ → ℕ
row_of line zero = line - 1
row_of line (suc column) = line

-- how many of a line's characters come before the caret: on a line feed all of them, and at the
-- beginning of the text none
abbrev pub before_of : ℕ → ℕ → ℕ → ℕ
before_of zero zero count = 0
before_of (suc line) zero count = count
before_of line (suc column) count = min count column

-- the same of a line that is at hand alone
abbrev pub within : ℕ → ℕ → ℕ
within column count = min count (column - 1)

-- a line of a text, or the empty one
abbrev pub line_of : List ℕ → ℕ → List ℕ
line_of text row = unwrap_or (slice_get (lines text) row) []

-- ==== a line around a place

abbrev pub space : ℕ
space = 32

abbrev pub caret : ℕ
caret = 94

-- a control character other than a tab
abbrev pub is_hidden : ℕ → Bool
is_hidden c = not (c == tab) && (nat_lt c space || (nat_le 127 c && nat_lt c 160))

-- what is shown of a character: U+FFFD for one that would not be seen
abbrev pub visible : ℕ → ℕ
visible c = if is_hidden c then 65533 else c

-- white space under a character: a tab under a tab
abbrev pub blank : ℕ → ℕ
blank c = if c == tab then tab else space

-- what stands in the place of so many characters
abbrev pub dots : ℕ → List ℕ
dots zero = []
dots (suc count) = codes "..."

-- how many characters are shown on each side of a place
abbrev pub side : ℕ
side = 60

-- where the part of a line that is shown begins, and how much of it comes before the place
abbrev pub start_of : ℕ → ℕ
start_of before = before - side

abbrev pub ahead_of : ℕ → ℕ
ahead_of before = before - start_of before

-- what is shown of a line's characters around the place after the first of them, and below it a
-- caret after as much white space
abbrev pub excerpt : List ℕ → ℕ → List ℕ
excerpt line before =
    let part = drop (start_of before) line in
    let count = ahead_of before + side in
    (dots (start_of before) ++ (encode_utf8_all (map visible (take count part))
    ++ (dots (length line - start_of before - count) ++ (line_feed ∷ []))))
    ++ (map blank (dots (start_of before) ++ take (ahead_of before) part)
    ++ (caret ∷ line_feed ∷ []))

-- ==== what is written

-- counted from 1, as far as numbers go
abbrev pub from_one : ℕ → ℕ
from_one n = min (n + 1) (2 ^ 64 - 1)

-- the place and the words, on a line of their own
abbrev pub headline : String Global → List ℕ → ℕ → ℕ → List ℕ
headline words name row column =
    name ++ (codes ":" ++ (decimal row ++ (codes ":" ++ (decimal column ++ (codes ": "
    ++ (string_bytes words ++ (line_feed ∷ [])))))))

-- these words about the place after the first characters of a line, which has this number
abbrev pub shown_at : String Global → List ℕ → ℕ → List ℕ → ℕ → List ℕ
shown_at words name row line before =
    headline words name (from_one row) (from_one before) ++ excerpt line before

-- all that is written of a fault in a text of this name
abbrev pub shown : TextFault → List ℕ → List ℕ → List ℕ
shown fault name text =
    let row = row_of fault.line fault.column in
    let line = chars (line_of text row) in
    shown_at fault.words name row line (before_of fault.line fault.column (length line))

-- the same where the line is at hand alone
abbrev pub shown_of_line : TextFault → List ℕ → List ℕ → List ℕ
shown_of_line fault name text =
    let line = chars text in
    shown_at fault.words name fault.line line (within fault.column (length line))
