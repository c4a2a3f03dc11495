use Rattle.std.proofs.Common.{string_bytes}
use Rattle.std.proofs.lemmas.Result.{MatchResult-weaker}
use Rattle.nano_grammar.proofs.TokenCalls.{passed_on}
use Rattle.nano_ron_tokens.specs.Skipped.{Skips}
use Rattle.nano_ron_schema.specs.FieldCodecs.{passed_over}
use Rattle.nano_ron_schema.specs.Outcomes.{OtherField}
use Rattle.nano_ron_schema.proofs.Calls.{pending_name}
use Rattle.nano_ron_schema.proofs.FieldCalls.{colon_not, divided_not, nothing_skipped, skipped_not}
use Rattle.nano_ron_schema.proofs.FieldCalls.{skipped_taken}
use Rattle.nano_ron_schema.proofs.unknown.SkippedUnknown.take.Goals as goal

pub returns : goal.returns
returns c =
    let name = string_bytes c.args.state.now.identbuf in
    let is = pending_name c.args.state.now c.requires in
    MatchResult-weaker c.whole_field.result c.whole_field.ensures
    (λ _ k. skipped_taken name passed_over k.0 is c.in_ok-next_colon.ensures k.1.skipped k.1.whole k.1.took)
    (λ e k. skipped_not name passed_over c.in_ok-next_colon.ensures (nothing_skipped c.next_colon.new.self c.whole_field.new.self c.next_colon.new.i c.whole_field.new.i k.fails))

pub returns-in_err-next_colon : goal.returns-in_err-next_colon
returns-in_err-next_colon c =
    let name = string_bytes c.args.state.now.identbuf in
    passed_on _ _ c.from_residual.result c.from_residual.ensures.1
    (divided_not (OtherField name passed_over) (colon_not name Skips c.in_err-next_colon.ensures.fails))
