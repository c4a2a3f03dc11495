use Rattle.nano_toml.specs.Place.{remaining}
use Rattle.nano_toml.proofs.StopLemmas.{StandsNext-broken}
use Rattle.nano_toml.proofs.statements.Reader.unexpected.Goals as goal

pub returns-in-Err : goal.returns-in-Err
returns-in-Err c = StandsNext-broken c.in-Err.fault (remaining c.args.self.now.cursor) (remaining c.read_token.new.self.cursor) c.in-Err.ensures.broken
