use Rattle.std.proofs.Common.{subst, map}
use Rattle.nano_value.specs.Meaning.{listed, LegalList}
use Rattle.nano_meaning.proofs.MeaningLaws.{list_is_legal, all_walked}
use Rattle.nano_value.proofs.lists.VecValue.known.Goals as goal

pub returns : goal.returns
returns g c =
    let T = g.T.Value in
    let P = λ (x : g.row.T.Denot). T.legal (T.means x) in
    let items = c.deref-item-items.result.now in
    let all = all_walked P c.loop-item.item-index items c.loop-item-test.false c.loop-item.invariant in
    subst (λ xs. LegalList T.legal (listed (map T.means xs))) c.deref-item-items.ensures.value (list_is_legal T.means T.legal items c.deref-item-items.type_inv.0 all)
