use Rattle.std.proofs.Common.{◌≡◌, ◌≢◌, ◌-◌, ◌+◌, ◌≤◌, ◌<◌, ℕ, true, get_or, length}
use Rattle.nano_text.specs.String.{is_plain_in_line}
use Rattle.nano_text.proofs.lanes.unescaped_by.Given as goal

abbrev pub invariant-lanes : goal.invariant-lanes
invariant-lanes g l = record {
  within : l.len ≤ l.last + g.row.N;
  plain : (k : ℕ) → k < l.len → (is_plain_in_line (get_or l.bytes k 0) ≡ true) × (get_or l.bytes k 0 ≢ 127);
}

abbrev pub decreases-lanes : goal.decreases-lanes
decreases-lanes g l = length l.bytes - l.len
