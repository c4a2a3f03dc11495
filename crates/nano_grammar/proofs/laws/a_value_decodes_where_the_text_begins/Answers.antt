use Rattle.nano_grammar.proofs.TokensLaws.{decodes_where_text_begins}
use Rattle.nano_grammar.proofs.laws.a_value_decodes_where_the_text_begins.Goals as goal

pub returns : goal.returns
returns g c = decodes_where_text_begins g.F.AnyCodec.cut g.F.AnyCodec.encodes
