use Rattle.std.specs.Prelude.{◌≡◌, List, map, length}
use Rattle.nano_value.specs.Meaning.{Meaning}
use Rattle.nano_grammar.proofs.CollectingCalls.{Filled}
use Rattle.nano_json_tokens.specs.Token.{blocks}
use Rattle.nano_json_tokens.proofs.JsonLaws.{block_brackets}
use Rattle.nano_json_tokens.specs.Outcomes.{position}
use Rattle.nano_json.proofs.Json.{json_laws}
use Rattle.nano_json.proofs.lists.read_items.Given as goal

-- the items that are held mean these
abbrev pub mean : List Meaning → List Meaning → Type 0
mean held ms = held ≡ ms

abbrev pub invariant-loop-index : goal.invariant-loop-index
invariant-loop-index g l = record {
  filled : Filled json_laws blocks block_brackets mean g.T.JsonCodec.json.encoding.encodes
      (position l.fn.state l.fn.input) (position l.state l.input) (map g.T.Value.means l.items.items);
  count : length l.items.items ≡ l._index;
}
