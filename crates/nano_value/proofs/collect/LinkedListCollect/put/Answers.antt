use Rattle.nano_meaning.proofs.LastValuesLaws.{one_more_listed}
use Rattle.nano_value.proofs.collect.LinkedListCollect.put.Goals as goal

pub returns : goal.returns
returns g c = λ items held.
    one_more_listed g.T.Value.means c.args.self.now c.push_back.new.self items c.args.item held c.in_ok-push_back.ensures.items
