-- What is proved of codecs each of which encodes what the one before it does.
use Rattle.std.specs.Prelude.{ℕ, zero, suc, ◌+◌}
use Rattle.std.proofs.Common.{subst, arith}
use Rattle.nano_bin_bytes.specs.Codec.{Codec}
use Rattle.nano_bin_levels.specs.Layers.{IsWithin, Rises}

module _ {A : Type 0} (c : ℕ → Codec A) (rises : Rises c) where
  -- so each encodes what any before it does
  pub climbs : (k n : ℕ) → IsWithin (c n).encoding (c (k + n)).encoding
  climbs zero n bytes m h = subst (λ j. (c j).encoding.encodes bytes m) (omega arith) h
  climbs (suc k) n bytes m h =
      subst (λ j. (c j).encoding.encodes bytes m) (omega arith)
      (rises (k + n) bytes m (climbs k n bytes m h))

  pub reaches : (n k : ℕ) → IsWithin (c n).encoding (c (n + k)).encoding
  reaches n k bytes m h =
      subst (λ j. (c j).encoding.encodes bytes m) (omega arith) (climbs k n bytes m h)
