-- References that are seen as the values that they refer to.
use Rattle.std.specs.Prelude.{◌≡◌}

-- two ways of seeing references are the same
abbrev pub SeesAs : {R V : Type 0} → (R → V) → (R → V) → Type 0
SeesAs {R} values others = (r : R) → values r ≡ others r
