use Rattle.std.proofs.Common.{◌≡◌, Bool, true, false, refl, sym, subst, ℕ, String, Global}
use Rattle.std.proofs.lemmas.Result.{err_from_is_err_and}
use Rattle.std.specs.Prelude.{string_bytes}
use Rattle.nano_grammar.specs.Outcomes.{Report, ReadsNoWhole}
use Rattle.nano_json_tokens.specs.Breaks.{Breaks as JsonBreaks}
use Rattle.nano_json_tokens.specs.Cut.{Cut as JsonCut}
use Rattle.nano_json_tokens.specs.Token.{end as json_end}
use Rattle.nano_ron_tokens.specs.Breaks.{Breaks as RonBreaks}
use Rattle.nano_ron_tokens.specs.Cut.{Cut as RonCut}
use Rattle.nano_ron_tokens.specs.Token.{end as ron_end}
use Rattle.nano_text_forms.specs.Forms.{IsOf, NotOfMemory, Reports}
use Rattle.nano_text_forms.specs.declared.rejection.Rejection.{Rejection}
use Rattle.nano_text_forms.specs.declared.rejection.Rejection.TheVariants.{Memory}
use Rattle.nano_text_forms.proofs.form.Form.read.Goals as goal

-- an error other than out of memory reports what it knows
reported : (memory : Bool) (rejection : Rejection) (A : Type 0) → (memory ≡ true → rejection ≡ Memory)
    → (memory ≡ false → A) → NotOfMemory rejection → A
reported true rejection A of known not_memory = absurd (not_memory (of refl))
reported false rejection A of known not_memory = known refl

-- the rejection for an error reports what is known of the error
passed_on : (fact : Report → Type 0) (memory : Bool) (words : String Global) (line col : ℕ) (rejection : Rejection)
    → IsOf memory words line col rejection
    → fact (record { memory = memory; message = string_bytes words; line = line; col = col }) → Reports fact rejection
passed_on fact true words line col rejection of known = subst (Reports fact) (sym (of.memory refl)) tt
passed_on fact false words line col rejection of known = subst (Reports fact) (sym (of.text refl)) known

pub returns-in_err-deserialize_json_whole-in-Json-clause-rejected : goal.returns-in_err-deserialize_json_whole-in-Json-clause-rejected
returns-in_err-deserialize_json_whole-in-Json-clause-rejected g c =
    let p = err_from_is_err_and c.from_residual.result c.from_residual.ensures.1 in
    let e = c.in_err-deserialize_json_whole-in-Json.field-0.0 in
    rw (p.1, c.in-Json.is) (reported e.memory p.0 _ p.2.memory c.in_err-deserialize_json_whole-in-Json.ensures.rejected)

pub returns-in_err-deserialize_ron_whole-in-Ron-clause-rejected : goal.returns-in_err-deserialize_ron_whole-in-Ron-clause-rejected
returns-in_err-deserialize_ron_whole-in-Ron-clause-rejected g c =
    let p = err_from_is_err_and c.from_residual-in_err-deserialize_ron_whole-in-Ron.result c.from_residual-in_err-deserialize_ron_whole-in-Ron.ensures.1 in
    let e = c.in_err-deserialize_ron_whole-in-Ron.field-0.0 in
    rw (p.1, c.in-Ron.is) (reported e.memory p.0 _ p.2.memory c.in_err-deserialize_ron_whole-in-Ron.ensures.rejected)

pub returns-in_err-deserialize_json_whole-in-Json-clause-reported : goal.returns-in_err-deserialize_json_whole-in-Json-clause-reported
returns-in_err-deserialize_json_whole-in-Json-clause-reported g c =
    let p = err_from_is_err_and c.from_residual.result c.from_residual.ensures.1 in
    let e = c.in_err-deserialize_json_whole-in-Json.field-0.0 in
    rw (p.1, c.in-Json.is) (passed_on (ReadsNoWhole JsonCut JsonBreaks g.T.JsonCodec.json.encoding.encodes c.args.text.now json_end) e.memory e.msg e.line e.col p.0 p.2 c.in_err-deserialize_json_whole-in-Json.ensures)

pub returns-in_err-deserialize_ron_whole-in-Ron-clause-reported : goal.returns-in_err-deserialize_ron_whole-in-Ron-clause-reported
returns-in_err-deserialize_ron_whole-in-Ron-clause-reported g c =
    let p = err_from_is_err_and c.from_residual-in_err-deserialize_ron_whole-in-Ron.result c.from_residual-in_err-deserialize_ron_whole-in-Ron.ensures.1 in
    let e = c.in_err-deserialize_ron_whole-in-Ron.field-0.0 in
    rw (p.1, c.in-Ron.is) (passed_on (ReadsNoWhole RonCut RonBreaks g.T.RonCodec.ron.encoding.encodes c.args.text.now ron_end) e.memory e.msg e.line e.col p.0 p.2 c.in_err-deserialize_ron_whole-in-Ron.ensures)
