-- what is written and what is left of the list make all of it
use Rattle.std.proofs.Common.{false, drop, string_bytes}
use Rattle.nano_json_tokens.specs.Token.{block_punctuation}
use Rattle.nano_grammar.specs.Items.{no_gaps}
use Rattle.nano_grammar.proofs.WrittenLists.{WritesSoFar}
use Rattle.nano_json_nested.proofs.lists.append_list.Given as goal

abbrev pub invariant-loop-item : goal.invariant-loop-item
invariant-loop-item g l =
    WritesSoFar false no_gaps block_punctuation (g.T.JsonCodec.json.canonical.text l.fn.d) (string_bytes l.fn.s.out) (string_bytes l.s.out) l.first (drop l.item-index l.item-items) l.item-items
