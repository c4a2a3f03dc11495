use Rattle.std.proofs.Common.{string_bytes}
use Rattle.nano_document.proofs.Deciding.{decimal_tests, other_text}
use Rattle.nano_document.proofs.BinDocuments.{written-I64, written_decimal, written_no_decimal}
use Rattle.nano_document.proofs.laws.equal_documents_have_one_tag.Goals as goal

pub returns-clause-number : goal.returns-clause-number
returns-clause-number c = written-I64

pub returns-clause-decimal : goal.returns-clause-decimal
returns-clause-decimal c = λ s is. written_decimal s (decimal_tests (string_bytes s) is)

pub returns-clause-other : goal.returns-clause-other
returns-clause-other c = λ s other. written_no_decimal s (other_text (string_bytes s) other)
