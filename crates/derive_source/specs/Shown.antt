-- What is shown of a fault of a source.
use Rattle.std.specs.Prelude.{ℕ, ◌+◌, ◌-◌, ◌^◌, ◌==◌, if◌then◌else◌, List, [], ◌∷◌, ◌++◌, take, map}
use Rattle.std.specs.Prelude.{min, slice_get, unwrap_or, string_bytes, codes}
use Rattle.std.specs.Fmt.{decimal}
use Rattle.std.specs.Str.{chars}
use Rattle.std.specs.Str.Lines.{lines}
use Rattle.derive_source.specs.declared.error.SourceFault.{SourceFault}

abbrev pub tab : ℕ
tab = 9

abbrev pub line_feed : ℕ
line_feed = 10

abbrev pub space : ℕ
space = 32

abbrev pub caret : ℕ
caret = 94

-- a line of a source, or the empty one
abbrev pub line_at : List ℕ → ℕ → List ℕ
line_at source row = unwrap_or (slice_get (lines source) row) []

-- counted from 1, as far as numbers go
abbrev pub from_one : ℕ → ℕ
from_one n = min (n + 1) (2 ^ 64 - 1)

-- white space under a character: a tab under a tab
abbrev pub blank : ℕ → ℕ
blank c = if c == tab then tab else space

-- a line, and below it a caret after as much white space as these first characters take
abbrev pub pointed : List ℕ → ℕ → List ℕ
pointed line before =
    (line ++ (line_feed ∷ [])) ++ (map blank (take before (chars line))
    ++ (caret ∷ line_feed ∷ []))

-- all that is written of a fault in a source of this name: the place and the message, then the line
abbrev pub shown : SourceFault → List ℕ → List ℕ → List ℕ
shown fault name source =
    (name ++ (codes ":" ++ (decimal (from_one fault.line) ++ (codes ":"
    ++ (decimal (from_one fault.column) ++ (codes ": " ++ (string_bytes fault.message
    ++ (line_feed ∷ []))))))))
    ++ pointed (line_at source fault.line) fault.column
