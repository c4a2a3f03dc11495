-- what is written and what is left of the list make all of it
use Rattle.std.proofs.Common.{false, drop, string_bytes}
use Rattle.nano_text.specs.Place.{saturating_next}
use Rattle.nano_grammar.proofs.WrittenLists.{WritesSoFar}
use Rattle.nano_ron_tokens.specs.Token.{paren_punctuation}
use Rattle.nano_ron_tokens.specs.Written.{spaces}
use Rattle.nano_ron.proofs.slices.append_slice.Given as goal

abbrev pub invariant-loop-item : goal.invariant-loop-item
invariant-loop-item g l =
    WritesSoFar false spaces paren_punctuation (g.T.RonCodec.ron.canonical.text (saturating_next l.fn.d))
    (string_bytes l.fn.s.out) (string_bytes l.s.out) l.first (drop l.item-index l.items) l.items
