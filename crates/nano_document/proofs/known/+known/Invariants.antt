-- what is left is legal only if all is
use Rattle.std.proofs.Common.{drop, String, Global}
use Rattle.std.specs.List.{AllByRecursion}
use Rattle.nano_value.specs.Meaning.{LegalPair, LegalText}
use Rattle.nano_document.specs.Documents.{json_means, entry_means}
use Rattle.nano_document.specs.DocumentCodecs.{json_codec}
use Rattle.nano_document.specs.declared.json.Json.{Json}
use Rattle.nano_document.proofs.known.+known.Given as goal

abbrev pub invariant-known_items-loop-item : goal.invariant-known_items-loop-item
invariant-known_items-loop-item l =
    let P = λ (x : Json). json_codec.encoding.legal (json_means x) in
    AllByRecursion P (drop l.item-index l.item-items) → AllByRecursion P l.item-items

abbrev pub invariant-known_entries-loop-entry : goal.invariant-known_entries-loop-entry
invariant-known_entries-loop-entry l =
    let P = λ (e : String Global × Json). LegalPair LegalText json_codec.encoding.legal (entry_means json_means e) in
    AllByRecursion P (drop l.entry-index l.entry-items) → AllByRecursion P l.entry-items
