use Rattle.std.proofs.Common.{ap}
use Rattle.nano_text.proofs.PlaceLaws.{moves_advance}
use Rattle.nano_ron_tokens.specs.Skipped.{Brackets}
use Rattle.nano_ron_tokens.proofs.Calling.{gives_up, none_ended_there, made_there}
use Rattle.nano_ron_tokens.proofs.state.DeRonState.whole_brackets.Goals as goal

pub returns-in-Err : goal.returns-in-Err
returns-in-Err c =
    let mid = c.skip_brackets.new.self in
    let new = c.reject.new.self in
    let x = c.in-Err.ensures in
    let is = c.reject.ensures.unchanged in
    record {
      fails = none_ended_there Brackets mid new c.skip_brackets.new.i c.reject.result is (record {
        rejected = λ known. x.rejected (c.reject.ensures.made.0 known);
        made = made_there mid new c.reject.result is c.reject.ensures.made.1;
        place = moves_advance x.place;
      });
      ended = ap (λ p. p.at) (gives_up mid new c.skip_brackets.new.i is);
    }
