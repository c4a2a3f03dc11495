-- no entry from there on has the name
use Rattle.std.proofs.Common.{◌≡◌, ◌≤◌, length, drop}
use Rattle.nano_document.specs.Held.{HasNone}
use Rattle.nano_document.specs.Pointers.{escaped}
use Rattle.nano_document.proofs.pointer.last_escaped.Given as goal

abbrev pub invariant-entries : goal.invariant-entries
invariant-entries l =
    (l.end ≤ length l.entries) × HasNone (λ n. escaped n ≡ l.token) (drop l.end l.entries)

abbrev pub decreases-entries : goal.decreases-entries
decreases-entries l = l.end
