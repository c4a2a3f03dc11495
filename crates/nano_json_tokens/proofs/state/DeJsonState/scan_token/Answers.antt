use Rattle.nano_json_tokens.proofs.Scanning.{scans_spaced}
use Rattle.nano_json_tokens.proofs.state.DeJsonState.scan_token.Goals as goal

pub returns : goal.returns
returns c =
    scans_spaced c.args.self.now c.pass_space.new.self c.take_lexeme.new.self c.args.i.now c.pass_space.new.i c.take_lexeme.new.i c.pass_space.ensures
    c.take_lexeme.result c.take_lexeme.ensures
