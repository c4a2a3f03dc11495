use Rattle.nano_grammar.proofs.TokensLaws.{taken_tokens_begin}
use Rattle.nano_grammar.proofs.laws.taken_tokens_begin_the_text.Goals as goal

pub returns : goal.returns
returns g c = taken_tokens_begin g.F.AnyCodec.cut
