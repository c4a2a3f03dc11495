use Rattle.std.proofs.Common.{refl}
use Rattle.nano_text.proofs.PlaceLaws.{moves_none}
use Rattle.nano_json_schema.proofs.FieldNames.{looked_ahead}
use Rattle.nano_json_schema.proofs.names.name_after.Goals as goal

pub returns-then-is_before_name : goal.returns-then-is_before_name
returns-then-is_before_name c =
    looked_ahead c.args.is_before_name c.args.state.now c.next_name.new.self c.args.input.now c.next_name.new.i c.next_name.result c.if-is_before_name.true c.next_name.ensures.name c.next_name.ensures.buffers

pub returns : goal.returns
returns c = record {
  tok = refl;
  cuts = λ t rest. (λ h. h, λ h. h);
  breaks = λ rest h. h;
  unchanged = λ _. (refl, refl);
  place = moves_none _ _;
}
