use Rattle.std.proofs.Common.{subst, sym}
use Rattle.nano_grammar.proofs.WholeInputs.{text_rejected}
use Rattle.nano_ron.proofs.Ron.{ron_laws}
use Rattle.nanoserde.specs.Normal.{BeginsText}
use Rattle.nano_show_answers.proofs.normal.ron_line.Goals as goal

pub returns-in_ok-to_string-in-Err-2 : goal.returns-in_ok-to_string-in-Err-2
returns-in_ok-to_string-in-Err-2 g c = λ answer h.
    let m = g.T.Value.means h.is_normal.value in
    text_rejected ron_laws g.T.RonCodec.ron.encoding.encodes c.in-Err.ensures.rejected c.if-this.false m
    (subst (λ bytes. BeginsText g.T.RonCodec.ron bytes m)
    (sym c.in_ok-text.ensures.0) h.is_normal.fitting)
