use Rattle.std.proofs.Common.{◌∙◌}
use Rattle.nano_json.proofs.Json.{legal_there}
use Rattle.nano_document.specs.Documents.{json_means}
use Rattle.nano_document.specs.DocumentCodecs.{json_codec}
use Rattle.nano_document.proofs.Converting.{reads_all}
use Rattle.nano_document.proofs.json.Json.from_value.Goals as goal

pub returns-in-Ok-clause-tokens : goal.returns-in-Ok-clause-tokens
returns-in-Ok-clause-tokens g c =
    let f = g.T.JsonCodec.json in
    let x = c.args.value.now in
    let written = f.is_written x (legal_there f g.met.T.JsonCodec.agrees x c.known.ensures) 0 in
    reads_all json_codec.encoding.encodes json_means json_codec.encoding.laws (f.canonical.tokens x) c.as_str.result.now (f.canonical.text 0 x) c.deserialize_json_whole.result
    (c.as_str.ensures.value ∙ c.in-Ok.ensures) written c.deserialize_json_whole.ensures
