use Rattle.std.proofs.Common.{sym, subst, ◌∙◌, List, ℕ}
use Rattle.std.proofs.lemmas.Bool.{false≢true}
use Rattle.nano_grammar.specs.Outcomes.{ReadsNoWhole}
use Rattle.nano_json_tokens.specs.Breaks.{Breaks}
use Rattle.nano_json_tokens.specs.Cut.{Cut}
use Rattle.nano_json_tokens.specs.Outcomes.{report}
use Rattle.nano_json_tokens.specs.Token.{end}
use Rattle.nano_lines.proofs.line.read_line.Goals as goal

pub returns-in_ok-copied-in-Err-clause-ok : goal.returns-in_ok-copied-in-Err-clause-ok
returns-in_ok-copied-in-Err-clause-ok g c = record {
  some = λ blank. false≢true (sym c.if-is_blank.false ∙ c.is_blank.ensures.1 blank);
  utf8 = c.in-Ok.ensures.cases.1;
  error = c.in-Err.error;
  rejects =
      subst (λ (l : List ℕ). ReadsNoWhole Cut Breaks g.T.JsonCodec.json.encoding.encodes l end (report c.in-Err.error))
      c.in-Ok.ensures.cases.0 c.in-Err.ensures;
  rejected = c.in_ok-rejection-in-Err.ensures.ok;
  text_is = c.in_ok-copied-in-Err.ensures.ok ∙ c.in-Ok.ensures.cases.0;
}
