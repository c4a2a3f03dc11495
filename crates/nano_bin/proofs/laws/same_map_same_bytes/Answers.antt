use Rattle.std.proofs.Common.{◌∙◌, ap, sym}
use Rattle.nano_meaning.proofs.OrderedMapsLaws.{ordered_map_means-sorted}
use Rattle.nano_value.specs.Tables.{table_means}
use Rattle.nano_meaning.proofs.TablesLaws.{table_means-injective}
use Rattle.nano_bin.proofs.RoundTrip.{same_entries}
use Rattle.nano_bin.proofs.laws.same_map_same_bytes.Goals as goal

pub returns-clause-written : goal.returns-clause-written
returns-clause-written g c = same_entries g.K.Key.order g.K.BinCodec.bin g.met.K.BinCodec.agrees g.V.BinCodec.bin g.met.V.BinCodec.agrees c.args.hashed.now.entries c.args.ordered.now.entries

pub returns-clause-means : goal.returns-clause-means
returns-clause-means g c =
    let same = ordered_map_means-sorted g.K.Ord.cmp g.K.Value.means g.V.Value.means c.args.ordered.now.entries c.len-ordered.ensures.ordered in
    (λ e. ap table_means e ∙ sym same, λ e. table_means-injective _ _ (e ∙ same))

pub returns-clause-encodes : goal.returns-clause-encodes
returns-clause-encodes g c bytes m = (λ h. h, λ h. h)
