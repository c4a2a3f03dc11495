-- What stands between the tokens of a document that is written with indentation: each item and each
-- entry of a list or an object begins a line, two spaces to a level.
use Rattle.std.specs.Prelude.{ℕ, zero, suc, List, [], ◌∷◌}
use Rattle.nano_text.specs.Place.{saturating_next}
use Rattle.nano_grammar.specs.Items.{Gaps}

-- two spaces for each level
abbrev pub spaces : ℕ → List ℕ
spaces zero = []
spaces (suc d) = 32 ∷ 32 ∷ spaces d

-- the beginning of a line of a level
abbrev pub line : ℕ → List ℕ
line d = 10 ∷ spaces d

-- each item on a line of the next level, and the closing bracket on one of this level
abbrev pub lines : ℕ → Gaps ℕ
lines d = record {
  after_opening = [];
  before_item = line (saturating_next d);
  after_comma = [];
  before_closing = line d;
}
