-- what is written and what is left of the list make all of it
use Rattle.std.proofs.Common.{false, drop, string_bytes}
use Rattle.nano_text.specs.Place.{saturating_next}
use Rattle.nano_json_tokens.specs.Token.{block_punctuation, curly_punctuation}
use Rattle.nano_grammar.proofs.WrittenLists.{WritesSoFar}
use Rattle.nano_document.specs.Indented.{lines}
use Rattle.nano_document.specs.IndentedCodecs.{indented, entry_text}
use Rattle.nano_document.proofs.indented.+indented.Given as goal

abbrev pub invariant-append_items-loop-item : goal.invariant-append_items-loop-item
invariant-append_items-loop-item l =
    WritesSoFar false (lines l.fn.d) block_punctuation (indented (saturating_next l.fn.d)) (string_bytes l.fn.s.out) (string_bytes l.s.out) l.first (drop l.item-index l.item-items) l.item-items

abbrev pub invariant-append_entries-loop-entry : goal.invariant-append_entries-loop-entry
invariant-append_entries-loop-entry l =
    WritesSoFar false (lines l.fn.d) curly_punctuation (entry_text (saturating_next l.fn.d)) (string_bytes l.fn.s.out) (string_bytes l.s.out) l.first (drop l.entry-index l.entry-items) l.entry-items
