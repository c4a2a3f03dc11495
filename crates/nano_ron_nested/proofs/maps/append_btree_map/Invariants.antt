-- what is written and what is left of the entries make all of them
use Rattle.std.proofs.Common.{true, string_bytes}
use Rattle.nano_text.specs.Place.{saturating_next}
use Rattle.nano_grammar.proofs.WrittenLists.{WritesSoFar}
use Rattle.nano_ron_tokens.specs.Token.{curly_punctuation}
use Rattle.nano_ron_tokens.specs.Written.{lines}
use Rattle.nano_ron.specs.Lists.{written_entry}
use Rattle.nano_ron_nested.proofs.maps.append_btree_map.Given as goal

abbrev pub invariant-loop-key : goal.invariant-loop-key
invariant-loop-key g l =
    let d = saturating_next l.fn.d in
    let W = written_entry (g.K.RonCodec.ron.canonical.text d) (g.T.RonCodec.ron.canonical.text d) in
    WritesSoFar true (lines l.fn.d) curly_punctuation W (string_bytes l.fn.s.out) (string_bytes l.s.out) true l.key-iterator l.entries.entries
