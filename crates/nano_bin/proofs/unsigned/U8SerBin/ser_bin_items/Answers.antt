use Rattle.std.proofs.Common.{arith}
use Rattle.nano_bin_bytes.proofs.Runs.{flat_map-little_byte, are_bytes}
use Rattle.nano_bin.proofs.unsigned.U8SerBin.ser_bin_items.Goals as goal

pub returns-clause-ok : goal.returns-clause-ok
returns-clause-ok c = let same = flat_map-little_byte c.args.items.now (are_bytes c.args.items.now (λ i. omega (arith, c.type_inv.items i))) in rw same c.append_bytes.ensures.ok
