use Rattle.nano_json.proofs.Json.{json_laws}
use Rattle.nanoserde.proofs.Forms.{texts_are_forms, one_form, tell_values, form_of_form}
use Rattle.nanoserde.proofs.laws.normal_json_texts.Goals as goal

pub returns-clause-one : goal.returns-clause-one
returns-clause-one g c =
    one_form (texts_are_forms json_laws g.T.JsonCodec.json g.met.T.JsonCodec.agrees)

pub returns-clause-tell : goal.returns-clause-tell
returns-clause-tell g c =
    tell_values (texts_are_forms json_laws g.T.JsonCodec.json g.met.T.JsonCodec.agrees)

pub returns-clause-again : goal.returns-clause-again
returns-clause-again g c =
    form_of_form (texts_are_forms json_laws g.T.JsonCodec.json g.met.T.JsonCodec.agrees)
