use Rattle.std.specs.Prelude.{◌≡◌, List, map, length}
use Rattle.nano_value.specs.Meaning.{Meaning}
use Rattle.nano_grammar.proofs.CollectingCalls.{Filled}
use Rattle.nano_ron_tokens.specs.Token.{parens}
use Rattle.nano_ron_tokens.proofs.RonLaws.{paren_brackets}
use Rattle.nano_ron_tokens.specs.Outcomes.{position}
use Rattle.nano_ron.proofs.Ron.{ron_laws}
use Rattle.nano_ron.proofs.slices.read_items.Given as goal

-- the items that are held mean these
abbrev pub mean : List Meaning → List Meaning → Type 0
mean held ms = held ≡ ms

abbrev pub invariant-loop-index : goal.invariant-loop-index
invariant-loop-index g l = record {
  filled : Filled ron_laws parens paren_brackets mean g.T.RonCodec.ron.encoding.encodes
      (position l.fn.state l.fn.input) (position l.state l.input) (map g.T.Value.means l.items.items);
  count : length l.items.items ≡ l._index;
}
