use Rattle.std.proofs.lemmas.Result.{err_from_is_err_and}
use Rattle.nano_lines.proofs.WriteLemmas.{not_made}
use Rattle.nano_lines.proofs.writer.put.Goals as goal

pub returns-in_err-line-clause-err : goal.returns-in_err-line-clause-err
returns-in_err-line-clause-err g c =
    let p = err_from_is_err_and c.from_residual.result c.from_residual.ensures.1 in
    rw (p.1, p.2) (not_made _ _ _ c.in_err-line.ensures.err)
