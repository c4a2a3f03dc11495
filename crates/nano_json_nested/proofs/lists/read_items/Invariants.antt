use Rattle.nano_grammar.proofs.CollectingCalls.{Filled}
use Rattle.nano_grammar.proofs.TokensLaws.{tokens_left}
use Rattle.nano_json_tokens.specs.Token.{blocks}
use Rattle.nano_json_tokens.proofs.JsonLaws.{block_brackets}
use Rattle.nano_json_tokens.specs.Outcomes.{position}
use Rattle.nano_json_tokens.specs.Scan.{is_end}
use Rattle.nano_json_tokens.specs.State.{at}
use Rattle.nano_json.proofs.Json.{json_laws}
use Rattle.nano_json_nested.proofs.ListReaders.{HoldItems}
use Rattle.nano_json_nested.proofs.lists.read_items.Given as goal

abbrev pub invariant-items : goal.invariant-items
invariant-items g l =
    Filled json_laws blocks block_brackets (HoldItems g.T.NestedJson.means)
    (g.T.NestedJson.at l.fn.left).encoding.encodes
    (position l.fn.state l.fn.input) (position l.state l.input) l.items

abbrev pub decreases-items : goal.decreases-items
decreases-items g l = tokens_left is_end (at l.state l.input)
