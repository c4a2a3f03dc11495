use Rattle.std.proofs.Common.{rules}
use Rattle.nano_ron_tokens.proofs.Scanning.{scans_spaced}
use Rattle.nano_ron_tokens.proofs.state.DeRonState.scan_token.Goals as goal

pub returns-then-not-skip_gaps : goal.returns-then-not-skip_gaps
returns-then-not-skip_gaps c = record {
  rejected = λ known. c.if-not-skip_gaps.ensures.skipped.0;
  broken = λ known. c.if-not-skip_gaps.ensures.skipped.1;
  capacity = λ memory. search rules;
  place = c.skip_gaps.ensures.passed.place;
}

pub returns : goal.returns
returns c =
    scans_spaced c.args.self.now c.skip_gaps.new.self c.take_lexeme.new.self c.args.i.now c.skip_gaps.new.i c.take_lexeme.new.i c.skip_gaps.ensures.passed
    c.if-not-skip_gaps.ensures.skipped c.take_lexeme.result c.take_lexeme.ensures
