use Rattle.std.proofs.Common.{arith}
use Rattle.std.proofs.lemmas.Result.{err_from_is_err_and}
use Rattle.nano_bin_bytes.proofs.ErrorsLaws.{passed_here}
use Rattle.nano_bin_bytes.proofs.Runs.{width_reads, chunk_rejected}
use Rattle.nano_bin_bytes.proofs.numbers.read_number.Goals as goal

pub returns-clause-ok : goal.returns-clause-ok
returns-clause-ok g c =
    rw c.from_bytes.ensures (width_reads g.row.N g.met.T.FixedWidth.has_width _ _ _ _ (λ i. omega (arith, c.type_inv.bytes i)) c.in_ok-read.ensures.ok)

pub returns-in_err-read-clause-err : goal.returns-in_err-read-clause-err
returns-in_err-read-clause-err g c =
    let p = err_from_is_err_and c.from_residual.result c.from_residual.ensures.1 in
    let r = c.in_err-read.ensures.err in
    rw (p.1, p.2) (record {
      none = passed_here g.T.FixedWidth.encodes r.none (λ left. chunk_rejected g.row.N g.met.T.FixedWidth.has_width left);
      short = r.short;
    })
