use Rattle.nano_text.proofs.Numbers.{IsNumber-unique}
use Rattle.nano_text.proofs.laws.a_text_begins_with_one_number.Goals as goal

pub returns : goal.returns
returns c = IsNumber-unique
