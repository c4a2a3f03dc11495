use Rattle.nano_grammar.proofs.TokensLaws.{tokens_left}
use Rattle.nano_ron_tokens.specs.Outcomes.{position}
use Rattle.nano_ron_tokens.specs.State.{at}
use Rattle.nano_ron.proofs.Ron.{ron_laws}
use Rattle.nano_ron_schema.proofs.FieldsCalls.{SoFar}
use Rattle.nano_ron_schema.specs.FieldCodecs.{nothing_after}
use Rattle.nano_ron_nested.proofs.read.read_list.Given as goal

abbrev pub invariant-fields : goal.invariant-fields
invariant-fields g l =
    SoFar nothing_after (g.F.RonFieldsWithin.codec l.fn.left).struct (g.F.RonFieldsWithin.holds l.fn.left l.slots) (position l.fn.state l.fn.input) (position l.state l.input)

abbrev pub decreases-fields : goal.decreases-fields
decreases-fields g l = tokens_left ron_laws.is_end (at l.state l.input)
