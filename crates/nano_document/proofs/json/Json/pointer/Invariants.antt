-- the rest of the pointer leads from there to what all of it leads to
use Rattle.std.proofs.Common.{length}
use Rattle.nano_document.specs.Pointers.{PointsTo}
use Rattle.nano_document.specs.declared.json.Json.{Json}
use Rattle.nano_document.proofs.json.Json.pointer.Given as goal

abbrev pub invariant-tokens : goal.invariant-tokens
invariant-tokens l =
    ((y : Json) → PointsTo l.rest l.at y → PointsTo l.fn.pointer l.fn.self y)
    × ((y : Json) → PointsTo l.fn.pointer l.fn.self y → PointsTo l.rest l.at y)

abbrev pub decreases-tokens : goal.decreases-tokens
decreases-tokens l = length l.rest
