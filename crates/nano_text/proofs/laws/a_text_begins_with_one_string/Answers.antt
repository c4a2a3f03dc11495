use Rattle.nano_text.proofs.Strings.{IsString-unique}
use Rattle.nano_text.proofs.laws.a_text_begins_with_one_string.Goals as goal

pub returns : goal.returns
returns c = IsString-unique
