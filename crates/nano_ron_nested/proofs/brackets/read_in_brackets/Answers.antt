use Rattle.std.proofs.lemmas.Result.{MatchResult-weaker}
use Rattle.nano_ron_tokens.proofs.Calling.{ended_read}
use Rattle.nano_ron_schema.proofs.Calls.{closed_read, closed_not}
use Rattle.nano_ron_nested.proofs.brackets.read_in_brackets.Goals as goal

pub returns : goal.returns
returns g c =
    MatchResult-weaker c.end_on_error.result (ended_read _ _ _ c.read_brackets-read.new.input c.end_on_error.ensures c.read_brackets-read.ensures)
    (λ _ h. closed_read h) (λ _ h. closed_not h)
