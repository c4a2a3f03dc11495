use Rattle.std.proofs.Common.{rules}
use Rattle.nano_json_tokens.proofs.state.DeJsonState.i64_range.Goals as goal

pub returns-then-value-greatest : goal.returns-then-value-greatest
returns-then-value-greatest c = record {
  lacks = search rules;
  below = search rules;
  above = search rules;
  made = c.err_above.ensures.1;
}
