use Rattle.std.proofs.Common.{◌≡◌, ℕ, List, false, length}
use Rattle.nano_text.specs.Place.{remaining}
use Rattle.nano_text.specs.Characters.{is_space}
use Rattle.nano_ron_tokens.specs.Scan.{Passed, AfterGap}
use Rattle.nano_ron_tokens.proofs.state.DeRonState.skip_gaps.Given as goal

abbrev pub invariant-comments : goal.invariant-comments
invariant-comments l = record {
  -- what comes after a gap here comes after one from the start
  following : (rest : List ℕ) → AfterGap (remaining l.self.cur l.i) rest → AfterGap (remaining l.fn.self.cur l.fn.i) rest;
  no_space : is_space l.self.cur ≡ false;
  passed : Passed l.fn.self l.fn.i l.self l.i;
}

abbrev pub decreases-comments : goal.decreases-comments
decreases-comments l = length (remaining l.self.cur l.i)
