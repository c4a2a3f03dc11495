-- what is written and what is still to be listed make the value
use Rattle.std.proofs.Common.{◌≡◌, ◌++◌, [], string_bytes, length}
use Rattle.nano_toml.specs.Data.{view}
use Rattle.nano_show_answers.specs.Listing.{listed, closed_lists}
use Rattle.nano_show_answers.proofs.listed.append_listed.Given as goal

abbrev pub invariant-lists : goal.invariant-lists
invariant-lists l =
    string_bytes l.state.out ++ closed_lists l.lists.items []
    ≡ string_bytes l.fn.state.out ++ listed (view l.fn.value)

abbrev pub decreases-lists : goal.decreases-lists
decreases-lists l = length (closed_lists l.lists.items [])
