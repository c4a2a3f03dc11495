-- those so far mean the same
use Rattle.std.proofs.Common.{◌≡◌, map, take}
use Rattle.nano_document.specs.Documents.{json_means, entry_means}
use Rattle.nano_document.proofs.same.+same.Given as goal

abbrev pub invariant-same_entries-loop-i : goal.invariant-same_entries-loop-i
invariant-same_entries-loop-i l =
    map (entry_means json_means) (take l.i l.entries) ≡ map (entry_means json_means) (take l.i l.others)

abbrev pub invariant-same_items-loop-i : goal.invariant-same_items-loop-i
invariant-same_items-loop-i l = map json_means (take l.i l.items) ≡ map json_means (take l.i l.others)
