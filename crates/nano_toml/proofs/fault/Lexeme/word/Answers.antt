use Rattle.std.proofs.Common.{ap, sym}
use Rattle.nano_toml.specs.Outcomes.{word_of}
use Rattle.nano_toml.proofs.fault.Lexeme.word.Goals as goal

pub returns-in-Nan : goal.returns-in-Nan
returns-in-Nan c = ap word_of (sym c.in-Nan.is)
