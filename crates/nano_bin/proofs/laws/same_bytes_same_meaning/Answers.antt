use Rattle.std.proofs.Common.{subst}
use Rattle.nano_bin_bytes.proofs.CodecLaws.{encodes_written, writes_same}
use Rattle.nano_bin.proofs.laws.same_bytes_same_meaning.Goals as goal

pub returns : goal.returns
returns g c =
    let f = g.T.BinCodec.bin in
    let agrees = g.met.T.BinCodec.agrees in
    let means = g.T.Value.means in
    let x = c.args.x.now in
    let y = c.args.y.now in
    let is = g.met.T.DeBin.is_decodable in
    let one = encodes_written f agrees is x c.known.ensures in
    let two = encodes_written f agrees is y c.known-2.ensures in
    (λ e. f.encoding.laws.one_value (f.canonical.written y) (means x) (means y) (subst (λ l. f.encoding.encodes l (means x)) e one) two, writes_same f agrees x y)
