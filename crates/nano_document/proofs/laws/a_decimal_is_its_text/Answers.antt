use Rattle.std.proofs.Common.{string_bytes, sym, ◌∙◌, ap, cond}
use Rattle.nano_json_tokens.specs.Written.{written_text}
use Rattle.nano_document.proofs.Deciding.{decimal_tests, other_text}
use Rattle.nano_document.proofs.Documents.{means_decimal, means_no_decimal, means-Text}
use Rattle.nano_document.proofs.Documents.{text-Decimal}
use Rattle.nano_document.proofs.laws.a_decimal_is_its_text.Goals as goal

pub returns-clause-means : goal.returns-clause-means
returns-clause-means c = λ s is. means_decimal s (decimal_tests (string_bytes s) is)

pub returns-clause-written : goal.returns-clause-written
returns-clause-written c = λ s d is.
    text-Decimal d s ∙ ap (λ b. cond b (string_bytes s) (written_text (string_bytes s)))
    (decimal_tests (string_bytes s) is)

pub returns-clause-other : goal.returns-clause-other
returns-clause-other c = λ s other. means_no_decimal s (other_text (string_bytes s) other)
    ∙ sym (means-Text s)
