-- the lines so far and those of the elements that are left make all of them
use Rattle.std.proofs.Common.{◌≡◌, ◌++◌, drop, string_bytes}
use Rattle.nano_toml.specs.Data.{tables_view}
use Rattle.nano_show_answers.specs.Listing.{elements_lines}
use Rattle.nano_show_answers.proofs.listing.append_elements.Given as goal

abbrev pub invariant-loop-place : goal.invariant-loop-place
invariant-loop-place l =
    string_bytes l.state.out ++ elements_lines (string_bytes l.fn.key) l.place
    (tables_view (drop l.place l.fn.tables.items))
    ≡ string_bytes l.fn.state.out ++ elements_lines (string_bytes l.fn.key) 0
    (tables_view l.fn.tables.items)
