use Rattle.std.proofs.Common.{sym, ◌∙◌, refl}
use Rattle.nano_text.proofs.RemainingText.{first_is-remaining}
use Rattle.nano_text.proofs.Prefixes.{after_stop}
use Rattle.nano_text.specs.Characters.{is_space}
use Rattle.nano_json_tokens.proofs.Scanning.{moved_none}
use Rattle.nano_json_tokens.proofs.state.DeJsonState.skip_space.Goals as goal

pub returns-else-is_space : goal.returns-else-is_space
returns-else-is_space c =
    let stop = first_is-remaining is_space c.args.self.now.cur c.args.i.now refl ∙ sym c.if-is_space.ensures in
    record {
      rest = sym (after_stop is_space _ stop);
      place = moved_none c.args.self.now c.args.i.now;
      tok = refl;
      strbuf = refl;
      numbuf = refl;
      identbuf = refl;
    }
