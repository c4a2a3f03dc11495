use Rattle.std.proofs.Common.{subst, sym}
use Rattle.nano_grammar.proofs.WholeInputs.{text_rejected}
use Rattle.nano_json.proofs.Json.{json_laws}
use Rattle.nanoserde.specs.Normal.{BeginsText}
use Rattle.nano_show_answers.proofs.normal.json_line.Goals as goal

pub returns-in_ok-to_string-in-Err-2 : goal.returns-in_ok-to_string-in-Err-2
returns-in_ok-to_string-in-Err-2 g c = λ answer h.
    let m = g.T.Value.means h.is_normal.value in
    text_rejected json_laws g.T.JsonCodec.json.encoding.encodes c.in-Err.ensures.rejected c.if-this.false m
    (subst (λ bytes. BeginsText g.T.JsonCodec.json bytes m)
    (sym c.in_ok-text.ensures.0) h.is_normal.fitting)
