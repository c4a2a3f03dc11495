use Rattle.std.proofs.Common.{◌∙◌}
use Rattle.nano_document.specs.DocumentCodecs.{json_codec}
use Rattle.nano_document.proofs.Converting.{reads_all}
use Rattle.nano_document.proofs.json.Json.to_value.Goals as goal

pub returns-in-Ok-clause-tokens : goal.returns-in-Ok-clause-tokens
returns-in-Ok-clause-tokens g c =
    let f = g.T.JsonCodec.json in
    let x = c.args.self.now in
    let written = json_codec.is_written x c.known.ensures 0 in
    reads_all f.encoding.encodes g.T.Value.means f.encoding.laws (json_codec.canonical.tokens x) c.as_str.result.now (json_codec.canonical.text 0 x) c.deserialize_json_whole.result
    (c.as_str.ensures.value ∙ c.in-Ok.ensures) written c.deserialize_json_whole.ensures
