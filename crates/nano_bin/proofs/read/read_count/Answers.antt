use Rattle.std.proofs.lemmas.Result.{IfOk-weaker, IfErr-weaker}
use Rattle.nano_bin.proofs.Readers.{unsigned_reads, count_unread}
use Rattle.nano_bin.proofs.read.read_count.Goals as goal

pub returns-clause-ok : goal.returns-clause-ok
returns-clause-ok c = IfOk-weaker c.de_bin.result _ _ (λ count reads. unsigned_reads 8 _ _ _ _ reads) c.de_bin.ensures.ok

pub returns-clause-err : goal.returns-clause-err
returns-clause-err c = IfErr-weaker c.de_bin.result _ _ (λ e rejects. count_unread rejects) c.de_bin.ensures.err
