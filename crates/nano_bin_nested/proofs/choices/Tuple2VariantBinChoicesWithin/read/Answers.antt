use Rattle.std.proofs.Common.{◌≡◌, ◌≢◌, arith, rules}
use Rattle.std.proofs.lemmas.Bool.Decides.{nat_tests}
use Rattle.nano_bin_nested.proofs.ChoiceReaders.{reads_first, reads_later, first_unread}
use Rattle.nano_bin_nested.proofs.ChoiceReaders.{later_unread}
use Rattle.nano_bin_nested.proofs.choices.Tuple2VariantBinChoicesWithin.read.Goals as goal

pub returns-in-Ok-clause-ok : goal.returns-in-Ok-clause-ok
returns-in-Ok-clause-ok g c =
    let e : c.args.tag ≡ 0 = first_of (search rules, grind (arith, nat_tests)) in
    rw e (reads_first g.S.BinFieldsWithin.codec g.C.BinChoicesWithin.chosen.bodies g.S.BinFieldsWithin.codec.canonical.means _ _ _ g.C.BinChoicesWithin.chosen.means c.in-Ok.first c.in-Ok.ensures.ok)

pub returns-in-Err-clause-err : goal.returns-in-Err-clause-err
returns-in-Err-clause-err g c =
    let e : c.args.tag ≡ 0 = first_of (search rules, grind (arith, nat_tests)) in
    rw e (first_unread g.S.BinFieldsWithin.codec g.C.BinChoicesWithin.chosen.bodies c.in-Err.ensures.err)

pub returns-in-Ok-read-clause-ok : goal.returns-in-Ok-read-clause-ok
returns-in-Ok-read-clause-ok g c =
    let some : c.args.tag ≢ 0 = λ e. first_of (search rules, grind (arith, nat_tests, e)) in
    reads_later g.S.BinFieldsWithin.codec g.C.BinChoicesWithin.chosen.bodies g.S.BinFieldsWithin.codec.canonical.means g.C.BinChoicesWithin.chosen.means c.args.tag _ _ _ _ some c.in-Ok-read.ensures.ok

pub returns-in-Err-read-clause-err : goal.returns-in-Err-read-clause-err
returns-in-Err-read-clause-err g c =
    let some : c.args.tag ≢ 0 = λ e. first_of (search rules, grind (arith, nat_tests, e)) in
    later_unread g.S.BinFieldsWithin.codec g.C.BinChoicesWithin.chosen.bodies c.args.tag some c.in-Err-read.ensures.err
