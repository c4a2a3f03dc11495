use Rattle.std.proofs.Common.{sym}
use Rattle.std.proofs.lemmas.Option.{IfSome_then}
use Rattle.nano_grammar.proofs.AliasCalls.{looked_up_plainly_under}
use Rattle.nano_json_tokens.specs.Cut.{Cut}
use Rattle.nano_json_schema.proofs.aliased.AliasedJsonFields.take_field.Goals as goal

pub returns : goal.returns
returns g c =
    let shape = g.F.JsonFields.codec.struct.shape in
    let is = sym c.own_name.ensures in
    IfSome_then c.take_field.result c.take_field.ensures (λ found h. (
      looked_up_plainly_under g.N.Label.label g.F.Label.label shape Cut c.args.name.now c.own_name.result.now is g.met.F.JsonField.is_known h.0,
      h.1,
    ))
