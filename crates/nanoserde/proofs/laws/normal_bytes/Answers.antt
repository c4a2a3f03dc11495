use Rattle.nanoserde.proofs.Forms.{bytes_are_forms, one_form, tell_values, form_of_form}
use Rattle.nanoserde.proofs.laws.normal_bytes.Goals as goal

pub returns-clause-one : goal.returns-clause-one
returns-clause-one g c =
    one_form (bytes_are_forms g.T.BinCodec.bin g.met.T.BinCodec.agrees g.met.T.DeBin.is_decodable)

pub returns-clause-tell : goal.returns-clause-tell
returns-clause-tell g c =
    tell_values (bytes_are_forms g.T.BinCodec.bin g.met.T.BinCodec.agrees g.met.T.DeBin.is_decodable)

pub returns-clause-again : goal.returns-clause-again
returns-clause-again g c =
    form_of_form (bytes_are_forms g.T.BinCodec.bin g.met.T.BinCodec.agrees g.met.T.DeBin.is_decodable)
