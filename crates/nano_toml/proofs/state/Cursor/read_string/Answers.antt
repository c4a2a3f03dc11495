use Rattle.nano_toml.specs.Place.{remaining}
use Rattle.nano_toml.proofs.ByteTests.{after_three_quotes}
use Rattle.nano_toml.proofs.state.Cursor.read_string.Goals as goal

pub returns-clause-found : goal.returns-clause-found
returns-clause-found c =
    after_three_quotes (remaining c.args.self.now) (remaining c.take.new.self) (remaining c.take-empty.new.self) _ _ c.if-not-take.ensures.found c.if-not-take.ensures.rest
    c.if-empty.ensures.found c.if-empty.ensures.rest c.new-text.ensures.bytes c.in_ok-read_triple_string.ensures.found
