-- what is left of the name, escaped, is what is left of the token, exactly if all of it is
use Rattle.std.proofs.Common.{◌≡◌, ◌↔◌, drop}
use Rattle.nano_document.specs.Pointers.{escaped}
use Rattle.nano_document.proofs.pointer.is_escaped.Given as goal

abbrev pub invariant-loop-byte : goal.invariant-loop-byte
invariant-loop-byte l =
    (escaped l.name ≡ l.token) ↔ (escaped (drop l.byte-index l.name) ≡ l.rest)
