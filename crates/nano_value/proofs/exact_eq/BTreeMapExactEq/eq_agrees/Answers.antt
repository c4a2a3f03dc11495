use Rattle.nano_meaning.proofs.OrderedMapsLaws.{ordered_maps_tell}
use Rattle.nano_value.proofs.exact_eq.BTreeMapExactEq.eq_agrees.Goals as goal

pub returns : goal.returns
returns g c x y =
    ordered_maps_tell g.K.Ord.cmp g.K.PartialEq.eq g.K.Value.means g.V.PartialEq.eq g.V.Value.means g.met.K.Ord.total g.met.K.Ord.matches_eq g.met.K.Key.exact c.eq_agrees.ensures x.entries y.entries
