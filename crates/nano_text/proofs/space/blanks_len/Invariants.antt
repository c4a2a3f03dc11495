use Rattle.std.proofs.Common.{◌≡◌, ◌-◌, ◌≤◌, ◌<◌, ℕ, true, get_or, length}
use Rattle.nano_text.specs.Scan.{is_blank}
use Rattle.nano_text.proofs.space.blanks_len.Given as goal

abbrev pub invariant-lanes : goal.invariant-lanes
invariant-lanes l = record {
  within : l.len ≤ length l.bytes;
  blanks : (k : ℕ) → k < l.len → is_blank (get_or l.bytes k 0) ≡ true;
}

abbrev pub decreases-lanes : goal.decreases-lanes
decreases-lanes l = length l.bytes - l.len
