use Rattle.std.proofs.Common.{◌≡◌, ℕ, List, ◌<◌, ◌≤◌, ◌/◌, length, take, subst, ap, ◌∙◌}
use Rattle.std.proofs.Common.{arith, rules, ◌+◌, ◌*◌, drop}
use Rattle.std.proofs.lemmas.Grind.{common_steps}
use Rattle.std.specs.Simd.{first_chunks}
use Rattle.nano_bin_bytes.specs.Reading.{IsTooShort}
use Rattle.nano_bin_bytes.proofs.ErrorsLaws.{short_reads_none}
use Rattle.nano_bin_bytes.proofs.Runs.{chunks_read, chunks_rejected, take-first_chunks}
use Rattle.nano_bin_bytes.proofs.read.read_chunks.Goals as goal

pub returns-then-chunks-count-clause-err : goal.returns-then-chunks-count-clause-err
returns-then-chunks-count-clause-err g c =
    let left = c.rest.ensures in
    let fewer = subst (λ n. n < c.args.count) (c.as_chunks.ensures.front_len ∙ ap (λ l. length l / g.row.N) left) c.if-chunks-count.true in
    let short : IsTooShort c.args.bytes.now (c.args.offset.now + length (drop c.args.offset.now c.args.bytes.now) / g.row.N * g.row.N) g.row.N c.too_short.result = first_of (search rules, grind (arith, common_steps)) in
    short_reads_none _ _ _ _ _ (omega arith) _ short (chunks_rejected g.row.N c.args.count _ c.requires fewer)

-- the chunks that are answered
answered :
    (k count : ℕ) (chunks : List (List ℕ)) (rest left : List ℕ) → rest ≡ left
    → chunks ≡ first_chunks k (length rest / k) rest
    → count ≤ length left / k
    → take count chunks ≡ first_chunks k count left
answered k count chunks rest left same are enough =
    ap (take count) (are ∙ ap (λ l. first_chunks k (length l / k) l) same) ∙ take-first_chunks k count (length left / k) left enough

pub returns-clause-ok : goal.returns-clause-ok
returns-clause-ok g c =
    let left = c.rest.ensures in
    let enough = subst (λ n. c.args.count ≤ n) (c.as_chunks.ensures.front_len ∙ ap (λ l. length l / g.row.N) left) c.if-chunks-count.false in
    rw (answered g.row.N c.args.count _ _ _ left c.as_chunks.ensures.front enough) (chunks_read g.row.N c.args.count c.args.bytes.now c.args.offset.now c.requires enough)
