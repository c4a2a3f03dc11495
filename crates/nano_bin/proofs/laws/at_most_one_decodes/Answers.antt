use Rattle.std.proofs.Common.{sym, ◌∙◌, subst}
use Rattle.nano_bin.proofs.laws.at_most_one_decodes.Goals as goal

pub returns : goal.returns
returns g c bytes m n h k =
    let s = g.T.BinCodec.bin.encoding in
    let one = s.laws.one_prefix h.prefix k.prefix h.rest k.rest m n h.is_encoded k.is_encoded (sym h.whole ∙ k.whole) in
    s.laws.one_value k.prefix m n (subst (λ l. s.encodes l m) one h.is_encoded) k.is_encoded
