use Rattle.nano_grammar.proofs.StructLaws.{missing_name}
use Rattle.nano_json_tokens.specs.Token.{Token}
use Rattle.nano_json_schema.proofs.laws.a_missing_name_has_no_field.Goals as goal

pub returns : goal.returns
returns c = missing_name Token
