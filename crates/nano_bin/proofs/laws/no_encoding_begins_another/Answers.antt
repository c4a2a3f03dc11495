use Rattle.std.proofs.Common.{[], ◌++◌, sym}
use Rattle.std.proofs.lemmas.List.{append-nil}
use Rattle.nano_bin_bytes.proofs.CodecLaws.{same_prefixes}
use Rattle.nano_bin.proofs.laws.no_encoding_begins_another.Goals as goal

pub returns : goal.returns
returns g c bytes more x y h k = (same_prefixes g.T.BinCodec.bin.encoding.laws bytes (bytes ++ more) more [] x y h k (sym (append-nil (bytes ++ more)))).1
