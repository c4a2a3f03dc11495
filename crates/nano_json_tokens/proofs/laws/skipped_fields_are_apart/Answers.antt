use Rattle.nano_json_tokens.proofs.BracketCounts.{skipped_apart}
use Rattle.nano_json_tokens.proofs.laws.skipped_fields_are_apart.Goals as goal

pub returns : goal.returns
returns c = skipped_apart
