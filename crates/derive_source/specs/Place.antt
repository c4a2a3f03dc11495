-- Where a byte of a text stands: its line and column, by the characters before it.
use Rattle.std.specs.Prelude.{◌≡◌, ◌≤◌, ℕ, ◌==◌, not, Bool, List, [], ◌∷◌, length, filter, reverse}
use Rattle.std.specs.Prelude.{take, chars, if◌then◌else◌}
use Rattle.derive_source.specs.declared.error.SourceFault.{SourceFault}

abbrev pub is_line_feed : ℕ → Bool
is_line_feed c = c == 10

-- the longest prefix whose characters pass a test
abbrev pub prefix : (ℕ → Bool) → List ℕ → List ℕ
prefix p [] = []
prefix p (c ∷ cs) = if p c then (c ∷ prefix p cs) else []

-- how many line feeds the characters have
abbrev pub line_of : List ℕ → ℕ
line_of before = length (filter is_line_feed before)

-- how many characters come after the last line feed
abbrev pub column_of : List ℕ → ℕ
column_of before = length (prefix (λ c. not (is_line_feed c)) (reverse before))

-- the fault stands at a byte of the source, and its line and column are those of the character
-- there
pub record StandsIn (source : List ℕ) (fault : SourceFault) : Type 0 where
  pub within : fault.offset ≤ length source
  pub line : fault.line ≡ line_of (chars (take fault.offset source))
  pub column : fault.column ≡ column_of (chars (take fault.offset source))
