use Rattle.std.proofs.Common.{string_bytes}
use Rattle.nano_text.proofs.PlaceLaws.{moves_append}
use Rattle.nano_ron_tokens.proofs.PlainCalls.{string_after}
use Rattle.nano_ron_tokens.proofs.plain.take_text.Goals as goal

pub returns-in-Ok-clause-taken : goal.returns-in-Ok-clause-taken
returns-in-Ok-clause-taken c _ =
    let found = c.in-Ok.ensures.found in
    string_after (string_bytes c.read_string.new.strbuf) found.0 c.skip_space.ensures.rest found.1 found.2

pub returns-in-Ok-clause-counts : goal.returns-in-Ok-clause-counts
returns-in-Ok-clause-counts c = moves_append c.skip_space.ensures.counts c.in-Ok.ensures.place

pub returns-in-Err-clause-counts : goal.returns-in-Err-clause-counts
returns-in-Err-clause-counts c = moves_append c.skip_space.ensures.counts c.in-Err.ensures.place
