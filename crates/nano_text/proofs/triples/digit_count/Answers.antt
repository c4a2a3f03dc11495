use Rattle.std.proofs.Common.{◌≡◌, ℕ, List, ◌+◌, ◌*◌, ◌∙◌, ap, arith, get_or, length}
use Rattle.std.specs.Fmt.{decimal}
use Rattle.nano_text.proofs.TripleDigits.{count_read}
use Rattle.nano_text.proofs.triples.digit_count.Goals as goal

pub overflow_sub-result : goal.overflow_sub-result
overflow_sub-result c =
    let read : get_or c.as_bytes.result.now (c.args.number * 4) 0 ≡ 48 + length (decimal c.args.number) =
    ap (λ (l : List ℕ). get_or l (c.args.number * 4) 0) c.as_bytes.ensures.value ∙ count_read c.args.number c.requires in
    omega (arith, read)

pub returns : goal.returns
returns c =
    let read : get_or c.as_bytes.result.now (c.args.number * 4) 0 ≡ 48 + length (decimal c.args.number) =
    ap (λ (l : List ℕ). get_or l (c.args.number * 4) 0) c.as_bytes.ensures.value ∙ count_read c.args.number c.requires in
    omega (arith, read)
