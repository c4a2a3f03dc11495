use Rattle.nano_grammar.proofs.TokensLaws.{begins_from_leaves, leaves_from_begins}
use Rattle.nano_ron_tokens.specs.Cut.{Cut}
use Rattle.nano_ron_tokens.proofs.laws.taken_tokens_begin_the_text.Goals as goal

pub returns : goal.returns
returns c ts next start = (
  λ taken. begins_from_leaves Cut ts start (record { token = next; text = taken.0 }) taken.1,
  λ begun. leaves_from_begins Cut ts next start begun,
)
