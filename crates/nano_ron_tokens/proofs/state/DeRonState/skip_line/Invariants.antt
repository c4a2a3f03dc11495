use Rattle.std.proofs.Common.{ℕ, List, length}
use Rattle.nano_text.specs.Place.{remaining}
use Rattle.nano_ron_tokens.specs.Scan.{Passed, AfterLine}
use Rattle.nano_ron_tokens.proofs.state.DeRonState.skip_line.Given as goal

abbrev pub invariant-line : goal.invariant-line
invariant-line l = record {
  -- what comes after what is left comes after the whole
  following : (rest : List ℕ) → AfterLine (remaining l.self.cur l.i) rest → AfterLine (remaining l.fn.self.cur l.fn.i) rest;
  passed : Passed l.fn.self l.fn.i l.self l.i;
}

abbrev pub decreases-line : goal.decreases-line
decreases-line l = length (remaining l.self.cur l.i)
