use Rattle.std.proofs.Common.{refl}
use Rattle.nano_grammar.proofs.TokenCalls.{passed_on}
use Rattle.nano_grammar.proofs.WholeInputs.{whole_read, whole_goes_on}
use Rattle.nano_json_tokens.specs.Token.{end}
use Rattle.nano_json.proofs.Json.{json_laws, begun}
use Rattle.nano_document.specs.DocumentCodecs.{level_codec}
use Rattle.nano_document.proofs.FirstErrors.{uncut_first, wrong_first, whole_first, whole_past}
use Rattle.nano_document.proofs.json.Json.deserialize_json_whole_within.Goals as goal

-- where no token is cut
pub returns-in-Err : goal.returns-in-Err
returns-in-Err c =
    let first = begun c.new-state.result c.next.new.self c.chars-characters.result c.next.new.i c.args.input.now c.chars-characters.ensures.rest c.new-state.ensures.line c.new-state.ensures.col c.next.ensures.passes c.next.ensures.held c.next.ensures.rest in
    let S = (level_codec c.args.levels).encoding.encodes in
    whole_first S c.args.input.now c.as_value_error.ensures (uncut_first S first c.in-Err.ensures)

-- where no document is read
pub returns : goal.returns
returns c =
    let first = begun c.new-state.result c.next.new.self c.chars-characters.result c.next.new.i c.args.input.now c.chars-characters.ensures.rest c.new-state.ensures.line c.new-state.ensures.col c.next.ensures.passes c.next.ensures.held c.next.ensures.rest in
    let S = (level_codec c.args.levels).encoding.encodes in
    whole_first S c.args.input.now c.as_value_error-in-Err-read_json.ensures
    (wrong_first S first c.in_default.ensures c.in-Err-read_json.ensures)

pub returns-in-Ok : goal.returns-in-Ok
returns-in-Ok c =
    let first = begun c.new-state.result c.next.new.self c.chars-characters.result c.next.new.i c.args.input.now c.chars-characters.ensures.rest c.new-state.ensures.line c.new-state.ensures.col c.next.ensures.passes c.next.ensures.held c.next.ensures.rest in
    let last = c.in_ok-expect_end-in-Ok.ensures in
    whole_read json_laws (level_codec c.args.levels).encoding.encodes first c.in_default.ensures end c.in-Ok.ensures last.ends last.no_nul

-- where more comes after it
pub returns-in_err-expect_end-in-Ok : goal.returns-in_err-expect_end-in-Ok
returns-in_err-expect_end-in-Ok c =
    let first = begun c.new-state.result c.next.new.self c.chars-characters.result c.next.new.i c.args.input.now c.chars-characters.ensures.rest c.new-state.ensures.line c.new-state.ensures.col c.next.ensures.passes c.next.ensures.held c.next.ensures.rest in
    let S = (level_codec c.args.levels).encoding in
    let h = c.in_err-expect_end-in-Ok.ensures in
    passed_on _ _ c.from_residual.result c.from_residual.ensures.1
    (whole_past h.says.0
    (whole_goes_on json_laws S.encodes first c.in_default.ensures end S.laws refl c.in-Ok.ensures h.goes_on h.says.0 h.says.1))
