use Rattle.std.proofs.Common.{◌∙◌, ap, sym}
use Rattle.nano_value.specs.Sets.{item_set, set_means}
use Rattle.nano_json.specs.ContainerCodecs.{set_codec}
use Rattle.nano_json.proofs.laws.the_items_decide_the_text.Goals as goal

pub returns : goal.returns
returns g c xs ys d e =
    let is = g.met.T.JsonCodec.agrees.means_is in
    let same = (λ i. item_set (is i) xs) ∙ (e ∙ (λ i. item_set (sym is i) ys)) in
    (set_codec g.T.Key.order g.T.JsonCodec.json).canonical.same_text xs ys (ap set_means same) d
