use Rattle.std.proofs.Common.{None}
use Rattle.nano_grammar.proofs.TokensLaws.{tokens_left}
use Rattle.nano_json_tokens.specs.Outcomes.{position}
use Rattle.nano_json_tokens.specs.State.{at}
use Rattle.nano_json.proofs.Json.{json_laws}
use Rattle.nano_json_schema.specs.FieldCodecs.{passed_over}
use Rattle.nano_json_schema.proofs.FieldsCalls.{SoFar}
use Rattle.nano_json_nested.proofs.read.read_list.Given as goal

abbrev pub invariant-fields : goal.invariant-fields
invariant-fields g l =
    SoFar passed_over (g.F.JsonFieldsWithin.codec l.fn.left).struct (g.F.JsonFieldsWithin.holds l.fn.left l.slots) (position l.fn.state l.fn.input) (position l.state l.input) None

abbrev pub decreases-fields : goal.decreases-fields
decreases-fields g l = tokens_left json_laws.is_end (at l.state l.input)
