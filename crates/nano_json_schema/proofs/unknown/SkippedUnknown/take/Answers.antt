use Rattle.std.proofs.lemmas.Result.{MatchResult-weaker}
use Rattle.nano_json_schema.proofs.Calls.{field_passed}
use Rattle.nano_json_schema.proofs.unknown.SkippedUnknown.take.Goals as goal

pub returns : goal.returns
returns c =
    MatchResult-weaker c.whole_field.result c.whole_field.ensures (λ _ k. field_passed k)
    (λ e k. k.fails)
