-- the lines so far and those of the entries that are left make the element's
use Rattle.std.proofs.Common.{◌≡◌, ◌++◌, drop, map, string_bytes}
use Rattle.std.specs.Map.Iter.{deref_pair}
use Rattle.nano_toml.specs.Data.{table_view}
use Rattle.nano_show_answers.specs.Listing.{element_lines}
use Rattle.nano_show_answers.specs.Answer.{chain}
use Rattle.nano_show_answers.proofs.listing.append_element.Given as goal

abbrev pub invariant-loop-key : goal.invariant-loop-key
invariant-loop-key l =
    string_bytes l.state.out ++ element_lines l.fn.name
    (chain (map deref_pair (drop l.key-index l.key-items)))
    ≡ string_bytes l.fn.state.out ++ element_lines l.fn.name (table_view l.fn.table.entries)
