-- What a read of a chunk does.
use Rattle.std.specs.Prelude.{◌≡◌, ℕ, List, ◌++◌, Option, length}
use Rattle.std.specs.Io.KnownBytes.{IsAtEnd, Keeps, Consumes}

-- a reader gave this many bytes, none only at its end, and they come after the others
pub record ReadsAfter (known left : Option (List ℕ)) (old new : List ℕ) (count : ℕ) : Type 0 where
  pub came : List ℕ
  pub following : new ≡ old ++ came
  pub consumed : Consumes known left came
  pub many : length came ≡ count
  pub ended : count ≡ 0 → IsAtEnd left

-- a reader gave nothing: the bytes are the same, and it is where it was
pub record ReadsNothing (known left : Option (List ℕ)) (old new : List ℕ) : Type 0 where
  pub same : new ≡ old
  pub unchanged : Keeps known left
