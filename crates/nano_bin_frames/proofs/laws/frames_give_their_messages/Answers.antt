use Rattle.nano_bin_bytes.proofs.CodecLaws.{encodes_written}
use Rattle.nano_bin_frames.proofs.PromiseLemmas.{frames_give}
use Rattle.nano_bin_frames.proofs.laws.frames_give_their_messages.Goals as goal

pub returns : goal.returns
returns g c stream =
    let f = g.T.BinCodec.bin in
    frames_give f.encoding.encodes f.encoding.laws f.canonical.written g.T.Value.means g.T.Value.legal
    (encodes_written f g.met.T.BinCodec.agrees g.met.T.DeBin.is_decodable) c.args.messages.now stream c.known.ensures
