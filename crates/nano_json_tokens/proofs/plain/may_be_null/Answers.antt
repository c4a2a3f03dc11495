use Rattle.std.proofs.Common.{ap, ◌∙◌}
use Rattle.nano_text.specs.Characters.{following, is_space}
use Rattle.nano_text.proofs.RemainingText.{same_remaining}
use Rattle.nano_json_tokens.proofs.PlainCalls.{no_null_after}
use Rattle.nano_json_tokens.proofs.plain.may_be_null.Goals as goal

pub returns : goal.returns
returns c other rest =
    let here = c.skip_space.new.self in
    let same = same_remaining c.args.place.now.cur c.chars-rest.result c.args.input.now (c.chars-rest.ensures.rest ∙ c.as_str.ensures) in
    no_null_after here.cur c.skip_space.new.i rest (c.skip_space.ensures.rest ∙ ap (following is_space) same) other
