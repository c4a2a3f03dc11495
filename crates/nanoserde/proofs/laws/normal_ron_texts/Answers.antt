use Rattle.nano_ron.proofs.Ron.{ron_laws}
use Rattle.nanoserde.proofs.Forms.{texts_are_forms, one_form, tell_values, form_of_form}
use Rattle.nanoserde.proofs.laws.normal_ron_texts.Goals as goal

pub returns-clause-one : goal.returns-clause-one
returns-clause-one g c =
    one_form (texts_are_forms ron_laws g.T.RonCodec.ron g.met.T.RonCodec.agrees)

pub returns-clause-tell : goal.returns-clause-tell
returns-clause-tell g c =
    tell_values (texts_are_forms ron_laws g.T.RonCodec.ron g.met.T.RonCodec.agrees)

pub returns-clause-again : goal.returns-clause-again
returns-clause-again g c =
    form_of_form (texts_are_forms ron_laws g.T.RonCodec.ron g.met.T.RonCodec.agrees)
