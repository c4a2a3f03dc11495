use Rattle.std.proofs.Common.{◌∙◌, ap, sym}
use Rattle.nano_value.specs.Sets.{item_set, set_means}
use Rattle.nano_json.specs.ContainerCodecs.{set_codec}
use Rattle.nano_json.proofs.laws.equal_sets_equal_text.Goals as goal

pub returns-clause-written : goal.returns-clause-written
returns-clause-written g c d e =
    let is = g.met.T.JsonCodec.agrees.means_is in
    let xs = c.args.hashed.now.keys in
    let ys = c.args.ordered.now.keys in
    let same = (λ i. item_set (is i) xs) ∙ (e ∙ (λ i. item_set (sym is i) ys)) in
    (set_codec g.T.Key.order g.T.JsonCodec.json).canonical.same_text xs ys (ap set_means same) d

pub returns-clause-encodes : goal.returns-clause-encodes
returns-clause-encodes g c ts m = (λ h. h, λ h. h)
