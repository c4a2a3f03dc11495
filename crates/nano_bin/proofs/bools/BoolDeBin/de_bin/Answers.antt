use Rattle.std.proofs.lemmas.Result.{err_from_is_err_and}
use Rattle.nano_bin.proofs.Readers.{truth_unread}
use Rattle.nano_bin.proofs.bools.BoolDeBin.de_bin.Goals as goal

pub returns-in_err-de_bin-clause-err : goal.returns-in_err-de_bin-clause-err
returns-in_err-de_bin-clause-err c =
    let p = err_from_is_err_and c.from_residual.result c.from_residual.ensures.1 in
    rw (p.1, p.2) (truth_unread c.in_err-de_bin.ensures.err)
