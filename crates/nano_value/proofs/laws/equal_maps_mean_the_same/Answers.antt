use Rattle.nano_meaning.proofs.ExactEqLaws.{hash_maps_tell}
use Rattle.nano_value.proofs.laws.equal_maps_mean_the_same.Goals as goal

pub returns : goal.returns
returns g c =
    hash_maps_tell g.K.Value.means g.K.PartialEq.eq g.V.Value.means g.V.PartialEq.eq g.met.K.Eq.laws g.met.K.Key.exact c.eq_agrees.ensures c.args.one.now c.args.other.now c.len-one.ensures.unique c.len-other.ensures.unique
