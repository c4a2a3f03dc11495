use Rattle.std.proofs.Common.{sym, ◌∙◌, refl}
use Rattle.nano_text.specs.Characters.{is_space}
use Rattle.nano_text.proofs.Prefixes.{after_stop}
use Rattle.nano_text.proofs.RemainingText.{first_is-remaining}
use Rattle.nano_ron_tokens.proofs.state.DeRonState.skip_space.Goals as goal

pub returns-else-is_space-clause-remaining : goal.returns-else-is_space-clause-remaining
returns-else-is_space-clause-remaining c =
    let stop = first_is-remaining is_space c.args.self.now.cur c.args.i.now refl
    ∙ sym c.if-is_space.ensures in
    sym (after_stop is_space _ stop)
