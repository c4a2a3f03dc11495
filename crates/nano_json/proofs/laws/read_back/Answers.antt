use Rattle.std.proofs.Common.{◌∙◌}
use Rattle.std.proofs.lemmas.Bool.{true_from_ne_false}
use Rattle.std.proofs.lemmas.Result.{MatchResult-weaker}
use Rattle.nano_grammar.proofs.EncodingLaws.{written_decodes, one_text_decodes}
use Rattle.nano_grammar.proofs.WholeInputs.{text_rejected}
use Rattle.nano_json.proofs.Json.{json_laws, legal_there}
use Rattle.nano_json.proofs.laws.read_back.Goals as goal

pub returns-in-Ok : goal.returns-in-Ok
returns-in-Ok g c =
    let f = g.T.JsonCodec.json in
    let w = f.canonical in
    let x = c.args.written.now in
    let written = f.is_written x (legal_there f g.met.T.JsonCodec.agrees x c.known.ensures) 0 in
    MatchResult-weaker c.deserialize_json.result c.deserialize_json.ensures
    (λ read found sound.
    let fits = written_decodes json_laws f.encoding.encodes (w.tokens x) (w.text 0 x) c.as_str.result.now (g.T.Value.means x) written (c.as_str.ensures.value ∙ c.in-Ok.ensures) (c.written_tokens_encode_a_sound_value.ensures sound) in
    one_text_decodes json_laws f.encoding.laws _ _ _ found fits)
    (λ e none sound.
    let fits = written_decodes json_laws f.encoding.encodes (w.tokens x) (w.text 0 x) c.as_str.result.now (g.T.Value.means x) written (c.as_str.ensures.value ∙ c.in-Ok.ensures) (c.written_tokens_encode_a_sound_value.ensures sound) in
    true_from_ne_false e.memory (λ known. text_rejected json_laws f.encoding.encodes none known _ fits))
