use Rattle.nano_bin_bytes.proofs.CodecLaws.{encodes_written}
use Rattle.nano_bin_frames.proofs.PromiseLemmas.{put_begins}
use Rattle.nano_bin_frames.proofs.laws.what_was_put_is_taken.Goals as goal

pub returns : goal.returns
returns g c before frame rest h =
    let f = g.T.BinCodec.bin in
    let is_encoded = encodes_written f g.met.T.BinCodec.agrees g.met.T.DeBin.is_decodable c.args.message.now c.known.ensures in
    put_begins f.encoding.encodes f.encoding.laws before frame rest _ _ h is_encoded
