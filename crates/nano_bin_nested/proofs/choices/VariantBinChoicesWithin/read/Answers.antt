use Rattle.std.proofs.Common.{◌≡◌, ◌≢◌, arith, refl, rules}
use Rattle.std.proofs.lemmas.Bool.Decides.{nat_tests}
use Rattle.nano_bin_bytes.specs.Variants.{no_variants}
use Rattle.nano_bin_nested.proofs.ChoiceReaders.{reads_last, first_unread, none_unread}
use Rattle.nano_bin_nested.proofs.choices.VariantBinChoicesWithin.read.Goals as goal

pub returns-in-Ok-clause-ok : goal.returns-in-Ok-clause-ok
returns-in-Ok-clause-ok g c =
    let e : c.args.tag ≡ 0 = first_of (search rules, grind (arith, nat_tests)) in
    rw e (reads_last g.S.BinFieldsWithin.codec no_variants g.S.BinFieldsWithin.codec.canonical.means _ _ _ c.in-Ok.last c.in-Ok.ensures.ok)

pub returns-in-Err-clause-err : goal.returns-in-Err-clause-err
returns-in-Err-clause-err g c =
    let e : c.args.tag ≡ 0 = first_of (search rules, grind (arith, nat_tests)) in
    rw e (first_unread g.S.BinFieldsWithin.codec no_variants c.in-Err.ensures.err)

pub returns-then-tag-ne0-clause-err : goal.returns-then-tag-ne0-clause-err
returns-then-tag-ne0-clause-err g c =
    let some : c.args.tag ≢ 0 = λ e. first_of (search rules, grind (arith, nat_tests, e)) in
    none_unread g.S.BinFieldsWithin.codec c.args.bytes.now c.args.start c.args.offset.now c.args.tag _ some refl
