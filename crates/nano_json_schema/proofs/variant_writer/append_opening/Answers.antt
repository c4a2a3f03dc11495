use Rattle.std.proofs.Common.{rules, append_assoc}
use Rattle.std.proofs.lemmas.Str.{encodes-append}
use Rattle.nano_json_schema.proofs.variant_writer.append_opening.Goals as goal

pub returns-clause-ok : goal.returns-clause-ok
returns-clause-ok c = search (rules, append_assoc, encodes-append)
