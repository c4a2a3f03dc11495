use Rattle.nano_ron_tokens.proofs.BracketCounts.{word_goes_on}
use Rattle.nano_ron_tokens.proofs.laws.a_skipped_field_goes_on_with_a_parenthesis.Goals as goal

pub returns : goal.returns
returns c = λ field more next h k. word_goes_on field more next h k
