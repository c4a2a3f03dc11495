use Rattle.std.proofs.lemmas.Result.{MatchResult-weaker}
use Rattle.nano_ron_schema.proofs.Calls.{closed_read, closed_not}
use Rattle.nano_ron_schema.proofs.variants.read_content.Goals as goal

pub returns : goal.returns
returns g c = MatchResult-weaker c.de_ron.result c.de_ron.ensures (λ _ x. closed_read x) (λ _ x. closed_not x)
