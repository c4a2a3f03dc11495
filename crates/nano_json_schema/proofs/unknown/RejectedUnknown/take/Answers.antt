use Rattle.nano_json_tokens.specs.Outcomes.{report}
use Rattle.nano_json_schema.proofs.Calls.{nothing_here}
use Rattle.nano_json_schema.proofs.unknown.RejectedUnknown.take.Goals as goal

pub returns : goal.returns
returns c = nothing_here c.args.state.now c.args._input.now (report c.err_exp.result) c.err_exp.ensures.1
