use Rattle.std.proofs.Common.{rules, append_assoc}
use Rattle.std.proofs.lemmas.Str.{encodes-append}
use Rattle.nano_json_nested.proofs.variant_writer.append_last_two.Goals as goal

pub returns-clause-ok : goal.returns-clause-ok
unfolding lib.Utf8.encode
returns-clause-ok g c = search (rules, append_assoc, encodes-append)
