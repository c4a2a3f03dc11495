use Rattle.nano_grammar.proofs.AliasesLaws.{last_of_both}
use Rattle.nano_json_tokens.specs.Token.{Token}
use Rattle.nano_json_schema.proofs.laws.the_last_of_both_names_counts.Goals as goal

pub returns : goal.returns
returns c = last_of_both Token
