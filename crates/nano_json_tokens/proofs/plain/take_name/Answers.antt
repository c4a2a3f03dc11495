use Rattle.std.proofs.Common.{refl}
use Rattle.nano_text.specs.Place.{text_at}
use Rattle.nano_text.proofs.PlaceLaws.{moves_append}
use Rattle.nano_json_tokens.specs.Token.{colon}
use Rattle.nano_json_tokens.proofs.PlainCalls.{string_after}
use Rattle.nano_json_tokens.proofs.plain.take_name.Goals as goal

pub returns-clause-taken : goal.returns-clause-taken
returns-clause-taken c =
    let found = c.in_ok-name.ensures.found in
    let name = string_after c.in_ok-name.name.now found.0 c.skip_space.ensures.rest found.1 found.2 in
    let token_cut = c.take_directly.ensures.taken c.if-not-take_directly.false colon refl in
    (text_at c.plain_string_before.new.p c.plain_string_before.new.i, name, (text_at c.take_directly.new.place c.take_directly.new.input, token_cut, refl))

pub returns-clause-counts : goal.returns-clause-counts
returns-clause-counts c =
    moves_append c.skip_space.ensures.counts (moves_append c.in_ok-name.ensures.place c.take_directly.ensures.counts)
