use Rattle.std.proofs.Common.{List, length}
use Rattle.nano_toml.specs.StatementTable.{IsBuilt}
use Rattle.nano_toml.specs.Place.{remaining}
use Rattle.nano_toml.specs.Statements.{Statement}
use Rattle.nano_toml.proofs.FirstErrors.{ReadTokens}
use Rattle.nano_toml.proofs.ReadLemmas.{ReadSoFar}
use Rattle.nano_toml.proofs.parser.read_table.Given as goal

abbrev pub invariant-statements : goal.invariant-statements
invariant-statements l =
    (done : List Statement) × IsBuilt done l.builder × ReadSoFar (remaining l.initial.reader.cursor) done (remaining l.reader.cursor)
    × ReadTokens (remaining l.initial.reader.cursor) done (remaining l.reader.cursor)

abbrev pub decreases-statements : goal.decreases-statements
decreases-statements l = length (remaining l.reader.cursor)
