use Rattle.std.proofs.Common.{◌≡◌, ◌+◌, ◌-◌, ◌*◌, arith}
use Rattle.std.proofs.lemmas.Str.{IsCharBoundary-from_ascii}
use Rattle.nano_text.specs.declared.triples.TheConstants.{TRIPLES}
use Rattle.nano_text.proofs.LaneMasks.{triples_ascii}
use Rattle.nano_text.proofs.TripleDigits.{padded_entry}
use Rattle.nano_text.proofs.triples.padded_triple.Goals as goal

pub range-requires-clause-start_boundary : goal.range-requires-clause-start_boundary
range-requires-clause-start_boundary c = λ _. IsCharBoundary-from_ascii TRIPLES.now _ triples_ascii (omega arith)

pub range-requires-clause-end_boundary : goal.range-requires-clause-end_boundary
range-requires-clause-end_boundary c = IsCharBoundary-from_ascii TRIPLES.now _ triples_ascii (omega arith)

pub returns : goal.returns
returns c =
    let four : c.args.number * 4 + 4 - c.args.number * 4 ≡ 4 = omega arith in
    rw (c.range.ensures.value, four) (padded_entry c.args.number (omega arith))
