use Rattle.std.proofs.Common.{◌≡◌}
use Rattle.nano_grammar.specs.ItemRuns.{PutItems}
use Rattle.nano_grammar.proofs.TokensLaws.{tokens_left}
use Rattle.nano_json_tokens.specs.Cut.{Cut}
use Rattle.nano_json_tokens.specs.Outcomes.{at_comma}
use Rattle.nano_json_tokens.specs.Outcomes.{position}
use Rattle.nano_json_tokens.specs.Scan.{is_end}
use Rattle.nano_json_tokens.specs.Token.{comma}
use Rattle.nano_json_tokens.specs.declared.token.DeJsonTok.TheVariants.{Comma}
use Rattle.nano_json.proofs.lists.put_plain_items.Given as goal

abbrev pub invariant-items : goal.invariant-items
invariant-items g l =
    PutItems Cut g.T.JsonCodec.json.encoding.encodes comma g.C.Collect.holds (position l.fn.state l.fn.input) (at_comma l.place l.rest) l.fn.items l.items
    × (l.state.tok ≡ Comma)

abbrev pub decreases-items : goal.decreases-items
decreases-items g l = tokens_left is_end (at_comma l.place l.rest).at
