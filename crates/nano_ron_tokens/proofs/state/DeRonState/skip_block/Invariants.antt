use Rattle.std.proofs.Common.{ℕ, List, length}
use Rattle.nano_text.specs.Place.{remaining}
use Rattle.nano_ron_tokens.specs.Scan.{Passed, AfterBlock}
use Rattle.nano_ron_tokens.proofs.state.DeRonState.skip_block.Given as goal

abbrev pub invariant-block : goal.invariant-block
invariant-block l = record {
  -- what comes after what is left comes after the whole
  following : (rest : List ℕ) → AfterBlock (remaining l.self.cur l.i) rest → AfterBlock (remaining l.fn.self.cur l.fn.i) rest;
  passed : Passed l.fn.self l.fn.i l.self l.i;
}

abbrev pub decreases-block : goal.decreases-block
decreases-block l = length (remaining l.self.cur l.i)
