use Rattle.nano_grammar.proofs.TokensLaws.{spans_once}
use Rattle.nano_grammar.proofs.laws.a_value_spans_to_one_place.Goals as goal

pub returns : goal.returns
returns g c = spans_once g.F.AnyCodec.cut g.F.AnyCodec.encodes
