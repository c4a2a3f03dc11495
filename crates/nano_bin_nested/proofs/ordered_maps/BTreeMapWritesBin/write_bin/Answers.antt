-- the order of the keys is that of what they mean
use Rattle.std.proofs.lemmas.Grind.{common_steps}
use Rattle.std.proofs.Common.{arith, ◌≡◌, ◌++◌, OnOk, sym, subst}
use Rattle.std.specs.declared.cmp.Ordering.{Ordering}
use Rattle.nano_meaning.proofs.OrderLaws.{followed}
use Rattle.nano_bin_bytes.specs.Containers.{written_map}
use Rattle.nano_bin_nested.proofs.ordered_maps.BTreeMapWritesBin.write_bin.Goals as goal

pub returns-clause-ok : goal.returns-clause-ok
returns-clause-ok g c =
    let Written = λ (R : g.row.K.Denot → g.row.K.Denot → Ordering). OnOk c.append_btree_map.result (c.append_btree_map.new.output.items ≡ c.args.output.now.items ++ written_map R g.K.BinCodec.bin.canonical.written g.T.BinCodec.bin.canonical.written c.args.self.now.entries) in
    let by_cmp : Written g.K.Ord.cmp = grind (arith, common_steps) in
    let same = followed g.K.Ord.cmp g.K.Value.means g.K.BinCodec.bin.canonical.means g.K.Key.order g.met.K.OrderedKey.follows g.met.K.BinCodec.agrees.means_is in
    subst Written (sym same) by_cmp
