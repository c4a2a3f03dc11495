use Rattle.nano_grammar.proofs.TokenCalls.{passed_on, fails_for_memory}
use Rattle.nano_json_nested.proofs.boxes.read_box.Goals as goal

pub returns-in_err-value : goal.returns-in_err-value
returns-in_err-value g c = passed_on _ _ c.from_residual.result c.from_residual.ensures.1 c.in_err-value.ensures.fails

pub returns-in-Err : goal.returns-in-Err
returns-in-Err g c = fails_for_memory c.in_ok-value.ensures.place c.err_memory.ensures.memory c.err_memory.ensures.made
