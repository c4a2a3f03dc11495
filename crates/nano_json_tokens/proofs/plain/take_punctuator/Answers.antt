use Rattle.nano_text.proofs.PlaceLaws.{moves_append}
use Rattle.nano_text.specs.Place.{text_at}
use Rattle.nano_json_tokens.proofs.Cuts.{cut_spaced}
use Rattle.nano_json_tokens.proofs.plain.take_punctuator.Goals as goal

pub returns-clause-taken : goal.returns-clause-taken
returns-clause-taken c took token is =
    let text = text_at c.args.place.now c.args.input.now in
    let after = text_at c.skip_space.new.self c.skip_space.new.i in
    (cut_spaced text after c.skip_space.ensures.rest token (text_at c.take_directly.new.place c.take_directly.new.input)).0
    (c.take_directly.ensures.taken took token is)

pub returns-clause-counts : goal.returns-clause-counts
returns-clause-counts c = moves_append c.skip_space.ensures.counts c.take_directly.ensures.counts
