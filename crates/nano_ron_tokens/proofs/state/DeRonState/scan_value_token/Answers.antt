use Rattle.nano_ron_tokens.proofs.Scanning.{scan_stops}
use Rattle.nano_ron_tokens.proofs.state.DeRonState.scan_value_token.Goals as goal

pub returns-in-Err : goal.returns-in-Err
returns-in-Err c =
    scan_stops c.args.self.now c.scan_token.new.self c.reject.new.self c.args.i.now c.scan_token.new.i c.in-Err.rejection c.reject.result c.in-Err.ensures c.reject.ensures.unchanged c.reject.ensures.made
