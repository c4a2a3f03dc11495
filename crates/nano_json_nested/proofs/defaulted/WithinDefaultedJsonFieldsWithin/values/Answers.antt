use Rattle.std.proofs.lemmas.Result.{MatchResult-weaker}
use Rattle.nano_grammar.proofs.DefaultsLaws.{missing_is_meant}
use Rattle.nano_json_nested.proofs.defaulted.WithinDefaultedJsonFieldsWithin.values.Goals as goal

pub returns-in-None : goal.returns-in-None
returns-in-None g c levels =
    let s = (g.T.NestedJson.at levels).encoding in
    rw c.in-None.is (MatchResult-weaker c.missing.result (c.missing.ensures levels)
    (λ value is fs held. missing_is_meant g.N.Label.label s g.D.JsonDefaultWithin.missing fs (g.T.NestedJson.means value) is.0 is.1 held)
    (λ e none. record { rejected = λ known. absurd (none.rejected known); made = none.made }))
