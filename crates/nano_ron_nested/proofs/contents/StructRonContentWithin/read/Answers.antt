use Rattle.std.proofs.lemmas.Result.{MatchResult-weaker}
use Rattle.nano_ron_schema.proofs.Calls.{closed_read, closed_not}
use Rattle.nano_ron_nested.proofs.contents.StructRonContentWithin.read.Goals as goal

pub returns : goal.returns
returns g c = MatchResult-weaker c.read_record_ron_within.result c.read_record_ron_within.ensures (λ _ x. closed_read x) (λ _ x. closed_not x)
