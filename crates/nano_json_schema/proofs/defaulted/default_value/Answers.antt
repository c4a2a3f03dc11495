use Rattle.std.proofs.Common.{◌∙◌, ap, subst, sym}
use Rattle.nano_json_schema.proofs.defaulted.default_value.Goals as goal

pub returns-in-Ok : goal.returns-in-Ok
returns-in-Ok g c =
    let value = c.in-Ok.value in
    let codec = g.T.JsonCodec.json in
    let agrees = g.met.T.JsonCodec.agrees in
    let means_it = ap (λ f. f value) agrees.means_is ∙ c.in-Ok.ensures in
    let legal = subst (λ f. codec.encoding.legal (f value)) (sym agrees.means_is)
    (agrees.allows (g.T.Value.means value) c.known.ensures) in
    let sound = g.met.D.JsonDefaultOf.is_sound value means_it in
    (means_it, (codec.canonical.tokens value, codec.reads_back value legal sound))
