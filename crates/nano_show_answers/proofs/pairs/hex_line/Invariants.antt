-- the text has the pairs of the bytes so far
use Rattle.std.proofs.Common.{◌≡◌, take}
use Rattle.nano_show_answers.specs.Listing.{hex_pairs}
use Rattle.nano_show_answers.proofs.pairs.hex_line.Given as goal

abbrev pub invariant-loop-byte : goal.invariant-loop-byte
invariant-loop-byte l = l.text.items ≡ hex_pairs (take l.byte-index l.bytes)
