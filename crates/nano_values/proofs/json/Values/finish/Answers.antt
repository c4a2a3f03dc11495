use Rattle.std.proofs.Common.{refl, inl, inr}
use Rattle.nano_json_tokens.proofs.Calling.{gives_up}
use Rattle.nano_values.proofs.json.Values.finish.Goals as goal

pub returns-in-Ok : goal.returns-in-Ok
returns-in-Ok g c = record { none = refl; same = refl; no_nul = c.in-Ok.ensures.no_nul }

pub returns-in-Err : goal.returns-in-Err
returns-in-Err g c = record {
  nul = elim c.in-Err.ensures.goes_on [ inl other ↦ absurd (other c.requires) | inr nul ↦ nul ];
  made = c.in-Err.ensures.says.1;
  given_up = gives_up c.args.self.now.state c.fail.new.self c.args.self.now.input c.fail.ensures.unchanged;
  nothing = refl;
}
