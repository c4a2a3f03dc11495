use Rattle.nano_grammar.proofs.CollectingCalls.{Filled}
use Rattle.nano_grammar.proofs.TokensLaws.{tokens_left}
use Rattle.nano_json_tokens.specs.Token.{curlies}
use Rattle.nano_json_tokens.proofs.JsonLaws.{curly_brackets}
use Rattle.nano_json_tokens.specs.Outcomes.{position}
use Rattle.nano_json_tokens.specs.Scan.{is_end}
use Rattle.nano_json_tokens.specs.State.{at}
use Rattle.nano_json.specs.Lists.{EncodesEntry}
use Rattle.nano_json.proofs.Json.{json_laws}
use Rattle.nano_json_nested.proofs.MapReaders.{HeldEntries}
use Rattle.nano_json_nested.proofs.maps.read_entries.Given as goal

abbrev pub invariant-entries : goal.invariant-entries
invariant-entries g l =
    Filled json_laws curlies curly_brackets (HeldEntries g.K.Ord.cmp g.K.Value.means g.T.NestedJson.means) (EncodesEntry g.K.JsonCodec.json.encoding.encodes (g.T.NestedJson.at l.fn.left).encoding.encodes) (position l.fn.state l.fn.input) (position l.state l.input) l.entries

abbrev pub decreases-entries : goal.decreases-entries
decreases-entries g l = tokens_left is_end (at l.state l.input)
