use Rattle.std.proofs.Common.{◌∙◌, ap, sym}
use Rattle.nano_value.specs.Tables.{table_of, table_means}
use Rattle.nano_ron.specs.ContainerCodecs.{map_codec}
use Rattle.nano_ron.proofs.laws.the_entries_decide_the_text.Goals as goal

pub returns : goal.returns
returns g c es fs d e =
    let k = g.met.K.RonCodec.agrees.means_is in
    let v = g.met.V.RonCodec.agrees.means_is in
    let same = (λ i. table_of (k i) (v i) es) ∙ (e ∙ (λ i. table_of (sym k i) (sym v i) fs)) in
    (map_codec g.K.Key.order g.K.RonCodec.ron g.V.RonCodec.ron).canonical.same_text es fs (ap table_means same) d
