-- the order of the items is that of what they mean
use Rattle.std.proofs.lemmas.Grind.{common_steps}
use Rattle.std.proofs.Common.{arith, ◌≡◌, ◌++◌, OnOk, sym, subst}
use Rattle.std.specs.declared.cmp.Ordering.{Ordering}
use Rattle.nano_meaning.proofs.OrderLaws.{followed}
use Rattle.nano_bin_bytes.specs.Containers.{written_set}
use Rattle.nano_bin.proofs.sets.HashSetSerBin.ser_bin.Goals as goal

pub returns-clause-ok : goal.returns-clause-ok
returns-clause-ok g c =
    let Written = λ (R : g.row.T.Denot → g.row.T.Denot → Ordering). OnOk c.append_hash_set.result (c.append_hash_set.new.output.items ≡ c.args.output.now.items ++ written_set R g.T.BinCodec.bin.canonical.written c.args.self.now.keys) in
    let by_cmp : Written g.T.Ord.cmp = grind (arith, common_steps) in
    let same = followed g.T.Ord.cmp g.T.Value.means g.T.BinCodec.bin.canonical.means g.T.Key.order g.met.T.OrderedKey.follows g.met.T.BinCodec.agrees.means_is in
    subst Written (sym same) by_cmp
