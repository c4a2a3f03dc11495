use Rattle.nano_meaning.proofs.OrderedSetsLaws.{ordered_tell}
use Rattle.nano_value.proofs.exact_eq.BTreeSetExactEq.eq_agrees.Goals as goal

pub returns : goal.returns
returns g c x y =
    ordered_tell g.T.Ord.cmp g.T.PartialEq.eq g.T.Value.means g.met.T.Ord.total g.met.T.Ord.matches_eq g.met.T.Key.exact x.keys y.keys
