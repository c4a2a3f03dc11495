-- what is written and what is left of the list make all of it
use Rattle.std.proofs.Common.{true, drop, string_bytes}
use Rattle.nano_text.specs.Place.{saturating_next}
use Rattle.nano_grammar.proofs.WrittenLists.{WritesSoFar}
use Rattle.nano_ron_tokens.specs.Token.{block_punctuation}
use Rattle.nano_ron_tokens.specs.Written.{lines}
use Rattle.nano_ron_nested.proofs.lists.append_list.Given as goal

abbrev pub invariant-loop-item : goal.invariant-loop-item
invariant-loop-item g l =
    WritesSoFar true (lines l.fn.d) block_punctuation (g.T.RonCodec.ron.canonical.text (saturating_next l.fn.d))
    (string_bytes l.fn.s.out) (string_bytes l.s.out) true (drop l.item-index l.item-items) l.item-items
