-- the lines so far and those of the entries that are left make the listing
use Rattle.std.proofs.Common.{◌≡◌, ◌++◌, drop, map, string_bytes}
use Rattle.std.specs.Map.Iter.{deref_pair}
use Rattle.nano_toml.specs.Data.{table_view}
use Rattle.nano_show_answers.specs.Listing.{listing}
use Rattle.nano_show_answers.specs.Answer.{chain}
use Rattle.nano_show_answers.proofs.listing.listing.Given as goal

abbrev pub invariant-loop-key : goal.invariant-loop-key
invariant-loop-key l =
    string_bytes l.state.out ++ listing (chain (map deref_pair (drop l.key-index l.key-items)))
    ≡ listing (table_view l.fn.table.entries)
