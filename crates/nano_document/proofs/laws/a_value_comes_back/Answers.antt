use Rattle.std.proofs.lemmas.Bool.{true_from_ne_false}
use Rattle.nano_grammar.proofs.TokenCalls.{passed_on}
use Rattle.nano_document.specs.Documents.{json_means}
use Rattle.nano_document.proofs.Converting.{leads_back}
use Rattle.nano_document.proofs.laws.a_value_comes_back.Goals as goal

pub returns : goal.returns
returns g c = λ x is sound.
    leads_back g.T.JsonCodec.json.encoding.encodes g.T.Value.means g.T.JsonCodec.json.encoding.laws (g.T.JsonCodec.json.canonical.tokens c.args.value.now) x c.in_ok-document.document (g.T.Value.means c.args.value.now) c.to_value.result
    is (c.in_ok-document.ensures.tokens (json_means x) is.encoded) (c.written_tokens_encode_a_sound_value.ensures sound) c.to_value.ensures.text

pub returns-in_err-document : goal.returns-in_err-document
returns-in_err-document g c = λ x is sound.
    passed_on _ _ c.from_residual.result c.from_residual.ensures.1
    (true_from_ne_false _ (λ known. c.in_err-document.ensures.tokens known (json_means x) is.encoded))
