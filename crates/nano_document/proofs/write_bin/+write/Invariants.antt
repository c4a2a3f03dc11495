-- what is appended, and what is left of the list, make all of it
use Rattle.std.proofs.Common.{drop}
use Rattle.nano_bin_bytes.proofs.CodecLaws.{WritesSoFar}
use Rattle.nano_bin_bytes.specs.Containers.{written_pair}
use Rattle.nano_bin.specs.ScalarCodecs.{string_codec}
use Rattle.nano_document.specs.BinCodecs.{bin_codec}
use Rattle.nano_document.proofs.write_bin.+write.Given as goal

abbrev pub invariant-append_items-loop-item : goal.invariant-append_items-loop-item
invariant-append_items-loop-item l =
    WritesSoFar bin_codec.canonical.written l.fn.output.items l.output.items (drop l.item-index l.item-items) l.item-items

abbrev pub invariant-append_entries-loop-entry : goal.invariant-append_entries-loop-entry
invariant-append_entries-loop-entry l =
    WritesSoFar (written_pair string_codec.canonical.written bin_codec.canonical.written) l.fn.output.items l.output.items (drop l.entry-index l.entry-items) l.entry-items
