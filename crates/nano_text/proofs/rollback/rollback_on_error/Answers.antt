use Rattle.std.proofs.Common.{Result, Ok, Err, OnErr}
use Rattle.nano_text.proofs.rollback.rollback_on_error.Goals as goal

-- what holds anyway holds on an error
anyway : {S E : Type 0} (r : Result S E) (A : Type 0) → A → OnErr r A
anyway (Ok x) A h = tt
anyway (Err e) A h = h

pub returns-then-is_err-clause-err : goal.returns-then-is_err-clause-err
returns-then-is_err-clause-err c = anyway c.args.written _ c.truncate.ensures.bytes
