use Rattle.nano_grammar.proofs.StructLaws.{last_field}
use Rattle.nano_ron_tokens.specs.Token.{Token}
use Rattle.nano_ron_schema.proofs.laws.the_last_field_counts.Goals as goal

pub returns : goal.returns
returns c = last_field Token
