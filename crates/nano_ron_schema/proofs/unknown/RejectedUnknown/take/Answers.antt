use Rattle.std.proofs.Common.{string_bytes, refl}
use Rattle.nano_ron_schema.specs.FieldCodecs.{nothing_after}
use Rattle.nano_ron_schema.specs.Outcomes.{OtherField}
use Rattle.nano_ron_schema.proofs.FieldCalls.{divided_not, rejected_not}
use Rattle.nano_ron_schema.proofs.unknown.RejectedUnknown.take.Goals as goal

pub returns : goal.returns
returns c =
    let name = string_bytes c.args.state.now.identbuf in
    divided_not (OtherField name nothing_after) (rejected_not name refl refl c.err_exp.ensures.1)
