use Rattle.std.proofs.Common.{◌∙◌}
use Rattle.nano_toml.specs.Scan.{is_in_line}
use Rattle.nano_toml.proofs.ByteTests.{line_test}
use Rattle.nano_toml.proofs.RunPrefixes.{line_after}
use Rattle.nano_toml.proofs.state.Cursor.skip_line.Goals as goal

pub take_while-requires-clause-by_bytes : goal.take_while-requires-clause-by_bytes
take_while-requires-clause-by_bytes c = (is_in_line, line_test, λ b r says. says)

pub returns : goal.returns
returns c = c.take_while.ensures.rest is_in_line line_test (λ b r says. says) ∙ line_after c.args.self.now.rest
