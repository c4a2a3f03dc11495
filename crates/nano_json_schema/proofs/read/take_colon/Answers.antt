use Rattle.std.proofs.Common.{string_bytes}
use Rattle.nano_grammar.proofs.TokenCalls.{passed_on}
use Rattle.nano_json_schema.proofs.FieldNames.{colon_in_place, no_colon_in_place, colon_taken}
use Rattle.nano_json_schema.proofs.FieldNames.{no_colon_taken}
use Rattle.nano_json_schema.proofs.read.take_colon.Goals as goal

pub returns-in_ok-colon-in-Some : goal.returns-in_ok-colon-in-Some
returns-in_ok-colon-in-Some c = colon_in_place c.in-Some.name c.in-Some.is c.in_ok-colon-in-Some.ensures

pub returns-in_err-colon-in-Some : goal.returns-in_err-colon-in-Some
returns-in_err-colon-in-Some c =
    passed_on _ _ c.from_residual.result c.from_residual.ensures.1
    (no_colon_in_place c.in-Some.name c.in-Some.is c.in_err-colon-in-Some.ensures.fails)

pub returns-in_ok-take_name-in-None : goal.returns-in_ok-take_name-in-None
returns-in_ok-take_name-in-None c =
    rw c.as_str.ensures.value (colon_taken (string_bytes c.take_name.new.name) c.in-None.is c.in_ok-take_name-in-None.ensures)

pub returns-in_err-take_name-in-None : goal.returns-in_err-take_name-in-None
returns-in_err-take_name-in-None c =
    passed_on _ _ c.from_residual-in_err-take_name-in-None.result c.from_residual-in_err-take_name-in-None.ensures.1
    (no_colon_taken c.in-None.is c.in_err-take_name-in-None.ensures)
