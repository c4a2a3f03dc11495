use Rattle.std.proofs.Common.{subst}
use Rattle.std.specs.List.{IsDistinct}
use Rattle.std.specs.Map.{keys_of}
use Rattle.nano_meaning.proofs.LastValuesLaws.{in_order}
use Rattle.nano_meaning.proofs.laws.ascending_is_in_order.Goals as goal

pub returns : goal.returns
returns g c entries sorted apart =
    in_order g.met.K.Ord.total entries sorted (subst (λ e. IsDistinct e (keys_of entries)) (λ i x y. g.met.K.Ord.matches_eq x y i) apart)
