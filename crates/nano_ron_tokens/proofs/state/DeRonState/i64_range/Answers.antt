use Rattle.std.proofs.Common.{rules}
use Rattle.nano_ron_tokens.proofs.state.DeRonState.i64_range.Goals as goal

pub returns-then-value-greatest : goal.returns-then-value-greatest
returns-then-value-greatest c = record {
  lacks = search rules;
  below = search rules;
  above = search rules;
  made = c.err_above.ensures.1;
}
