use Rattle.nano_grammar.proofs.LayoutsLaws.{lists_are_joined}
use Rattle.nano_grammar.proofs.laws.encoded_lists_are_joined.Goals as goal

pub returns : goal.returns
returns g c = lists_are_joined g.F.AnyCodec.punctuation g.F.AnyCodec.encodes
