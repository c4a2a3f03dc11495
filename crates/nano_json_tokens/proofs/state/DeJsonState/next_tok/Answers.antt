use Rattle.nano_json_tokens.proofs.Scanning.{scan_stops}
use Rattle.nano_json_tokens.proofs.state.DeJsonState.next_tok.Goals as goal

pub returns-in-Err : goal.returns-in-Err
returns-in-Err c =
    scan_stops c.args.self.now c.scan_after_value.new.self c.reject.new.self c.args.i.now c.scan_after_value.new.i c.in-Err.rejection c.reject.result c.in-Err.ensures c.reject.ensures.unchanged c.reject.ensures.made
