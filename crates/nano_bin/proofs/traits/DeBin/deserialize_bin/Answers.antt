use Rattle.std.proofs.lemmas.Result.{IfErr-weaker}
use Rattle.nano_bin_bytes.proofs.ErrorsLaws.{rejects_now}
use Rattle.nano_bin.proofs.traits.DeBin.deserialize_bin.Goals as goal

pub returns-clause-err : goal.returns-clause-err
returns-clause-err g c =
    IfErr-weaker c.de_bin.result _ _ (λ e r. rejects_now g.Self.BinCodec.bin.encoding.encodes c.args.d.now e r.rejects) c.de_bin.ensures.err

pub returns-clause-more : goal.returns-clause-more
returns-clause-more g c = IfErr-weaker c.de_bin.result _ _ (λ e r. r.rejects) c.de_bin.ensures.err

pub returns-clause-report : goal.returns-clause-report
returns-clause-report g c = IfErr-weaker c.de_bin.result _ _ (λ e r. r.report) c.de_bin.ensures.err
