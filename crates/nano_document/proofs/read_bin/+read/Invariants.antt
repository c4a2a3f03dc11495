-- so many items stand between the count and the offset
use Rattle.std.proofs.Common.{◌+◌, ◌*◌, map}
use Rattle.nano_bin_bytes.specs.Reading.{Decodes}
use Rattle.nano_bin_bytes.specs.Containers.{EncodesCount}
use Rattle.nano_document.specs.Documents.{json_means, entry_means}
use Rattle.nano_document.specs.BinCodecs.{bin_level, bin_entry}
use Rattle.nano_document.proofs.read_bin.+read.Given as goal

abbrev pub decreases-read_json : goal.decreases-read_json
decreases-read_json l = 3 * l.levels

abbrev pub decreases-read_items : goal.decreases-read_items
decreases-read_items l = 3 * l.levels + 2

abbrev pub decreases-read_entry : goal.decreases-read_entry
decreases-read_entry l = 3 * l.levels + 1

abbrev pub decreases-read_entries : goal.decreases-read_entries
decreases-read_entries l = 3 * l.levels + 2

abbrev pub invariant-read_items-loop : goal.invariant-read_items-loop
invariant-read_items-loop l =
    Decodes (EncodesCount l.counter (bin_level l.fn.levels).encoding.encodes) l.bytes l.initial.offset (map json_means l.items.items) l.offset

abbrev pub invariant-read_entries-loop : goal.invariant-read_entries-loop
invariant-read_entries-loop l =
    Decodes (EncodesCount l.counter (bin_entry (bin_level l.fn.levels)).encodes) l.bytes l.initial.offset (map (entry_means json_means) l.entries.items) l.offset
