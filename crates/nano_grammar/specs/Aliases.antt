-- A field that is read under a second name: a field of a text that has the alias counts as one
-- with the own name.
use Rattle.std.specs.Prelude.{ℕ, List, map, bytes_eq, if◌then◌else◌, ◌||◌}
use Rattle.nano_grammar.specs.Fields.{Field, Shape}

module _ (alias own : List ℕ) where
  -- the name that counts: in place of the alias the own name
  abbrev pub own_of : List ℕ → List ℕ
  own_of name = if bytes_eq name alias then own else name

  module _ {T : Type 0} where
    -- the field under the name that counts
    abbrev pub under_own : Field T → Field T
    under_own f = record { name = own_of f.name; value = f.value }

    -- fields that know a second name for one of theirs: each field of a text counts under its own
    abbrev pub aliased : Shape T → Shape T
    aliased shape = record {
      knows = λ n. bytes_eq n alias || shape.knows n;
      takes = λ n. shape.takes (own_of n);
      means = λ fs. shape.means (map under_own fs);
      lacks = λ fs. shape.lacks (map under_own fs);
      legal = shape.legal;
    }
