use Rattle.std.proofs.Common.{refl}
use Rattle.nano_value.specs.Meaning.{truth}
use Rattle.nano_grammar.proofs.TokenCalls.{passed_on}
use Rattle.nano_grammar.proofs.ReadingCalls.{one_read, one_not, one_stopped}
use Rattle.nano_json_tokens.proofs.JsonLaws.{json}
use Rattle.nano_json_tokens.proofs.ScalarsLaws.{truth_tokens}
use Rattle.nano_json.proofs.bools.read_bool.Goals as goal

pub returns : goal.returns
returns c = one_read json truth truth_tokens.carries (λ _. Unit {0}) c.in_ok-value.value c.in_ok-value.ensures tt c.in_ok-next_tok.ensures

pub returns-in_err-value : goal.returns-in_err-value
returns-in_err-value c =
    passed_on _ _ c.from_residual.result c.from_residual.ensures.1
    (one_not json truth truth_tokens.carries (λ _. Unit {0}) refl (λ x is _. c.in_err-value.ensures.lacks x is) c.in_err-value.ensures.made)

pub returns-in_err-next_tok : goal.returns-in_err-next_tok
returns-in_err-next_tok c =
    passed_on _ _ c.from_residual-in_err-next_tok.result c.from_residual-in_err-next_tok.ensures.1
    (one_stopped json truth truth_tokens.carries (λ _. Unit {0}) refl c.in_err-next_tok.ensures.fails)
