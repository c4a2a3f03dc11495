use Rattle.std.proofs.Common.{◌∙◌, ap, sym}
use Rattle.nano_meaning.proofs.OrderedMapsLaws.{ordered_map_means-sorted}
use Rattle.nano_value.specs.Tables.{table_of, table_means}
use Rattle.nano_meaning.proofs.TablesLaws.{table_means-injective}
use Rattle.nano_ron.specs.ContainerCodecs.{map_codec}
use Rattle.nano_ron.proofs.laws.equal_maps_equal_text.Goals as goal

pub returns-clause-written : goal.returns-clause-written
returns-clause-written g c d e =
    let k = g.met.K.RonCodec.agrees.means_is in
    let v = g.met.V.RonCodec.agrees.means_is in
    let es = c.args.hashed.now.entries in
    let fs = c.args.ordered.now.entries in
    let same = (λ i. table_of (k i) (v i) es) ∙ (e ∙ (λ i. table_of (sym k i) (sym v i) fs)) in
    (map_codec g.K.Key.order g.K.RonCodec.ron g.V.RonCodec.ron).canonical.same_text es fs (ap table_means same) d

pub returns-clause-means : goal.returns-clause-means
returns-clause-means g c =
    let same = ordered_map_means-sorted g.K.Ord.cmp g.K.Value.means g.V.Value.means c.args.ordered.now.entries c.len-ordered.ensures.ordered in
    (λ e. ap table_means e ∙ sym same, λ e. table_means-injective _ _ (e ∙ same))

pub returns-clause-encodes : goal.returns-clause-encodes
returns-clause-encodes g c ts m = (λ h. h, λ h. h)
