-- How deep values are that may be there.
use Rattle.std.specs.Prelude.{ℕ, Option, Some, None}

-- that of the value that is there, or 0
abbrev pub held_depth : {A : Type 0} → (A → ℕ) → Option A → ℕ
held_depth d None = 0
held_depth d (Some x) = d x
