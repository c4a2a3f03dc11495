use Rattle.nano_json.proofs.Json.{json_laws}
use Rattle.nanoserde.proofs.Forms.{texts_as_bytes, one_form, tell_values, read_back}
use Rattle.nanoserde.proofs.laws.json_as_bytes.Goals as goal

pub returns-clause-one : goal.returns-clause-one
returns-clause-one g c =
    one_form
    (texts_as_bytes g.T.BinCodec.bin g.met.T.BinCodec.agrees g.met.T.DeBin.is_decodable
    json_laws g.T.JsonCodec.json g.met.T.JsonCodec.agrees)

pub returns-clause-tell : goal.returns-clause-tell
returns-clause-tell g c =
    tell_values
    (texts_as_bytes g.T.BinCodec.bin g.met.T.BinCodec.agrees g.met.T.DeBin.is_decodable
    json_laws g.T.JsonCodec.json g.met.T.JsonCodec.agrees)

pub returns-clause-back : goal.returns-clause-back
returns-clause-back g c =
    read_back
    (texts_as_bytes g.T.BinCodec.bin g.met.T.BinCodec.agrees g.met.T.DeBin.is_decodable
    json_laws g.T.JsonCodec.json g.met.T.JsonCodec.agrees)
