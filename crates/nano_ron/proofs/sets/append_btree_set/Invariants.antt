-- what is written and what is left of the list make all of it
use Rattle.std.proofs.Common.{false, string_bytes}
use Rattle.nano_text.specs.Place.{saturating_next}
use Rattle.nano_grammar.proofs.WrittenLists.{WritesSoFar}
use Rattle.nano_ron_tokens.specs.Token.{block_punctuation}
use Rattle.nano_ron_tokens.specs.Written.{indents}
use Rattle.nano_ron.proofs.sets.append_btree_set.Given as goal

abbrev pub invariant-loop-item : goal.invariant-loop-item
invariant-loop-item g l =
    WritesSoFar false (indents l.fn.d) block_punctuation (g.T.RonCodec.ron.canonical.text (saturating_next l.fn.d))
    (string_bytes l.fn.s.out) (string_bytes l.s.out) l.first l.item-iterator l.items.keys
