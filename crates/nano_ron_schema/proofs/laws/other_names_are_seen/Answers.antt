use Rattle.nano_grammar.proofs.StructLaws.{seen_by_others}
use Rattle.nano_ron_tokens.specs.Token.{Token}
use Rattle.nano_ron_schema.proofs.laws.other_names_are_seen.Goals as goal

pub returns : goal.returns
returns c = seen_by_others Token
