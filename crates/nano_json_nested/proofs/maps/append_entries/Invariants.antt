-- what is written and what is left of the entries make all of them
use Rattle.std.proofs.Common.{false, string_bytes}
use Rattle.nano_json_tokens.specs.Token.{curly_punctuation}
use Rattle.nano_json.specs.Lists.{written_entry}
use Rattle.nano_grammar.specs.Items.{no_gaps}
use Rattle.nano_grammar.proofs.WrittenLists.{WritesSoFar}
use Rattle.nano_json_nested.proofs.maps.append_entries.Given as goal

abbrev pub invariant-loop-key : goal.invariant-loop-key
invariant-loop-key g l =
    let W = written_entry (g.K.JsonCodec.json.canonical.text l.fn.d) (g.T.JsonCodec.json.canonical.text l.fn.d) in
    WritesSoFar false no_gaps curly_punctuation W (string_bytes l.fn.s.out) (string_bytes l.s.out) l.first l.key-iterator l.entries.entries
