use Rattle.nano_grammar.proofs.TokenCalls.{passed_on}
use Rattle.nano_grammar.proofs.StructLaws.{fields_of}
use Rattle.nano_grammar.proofs.UserCalls.{content_read, content_not, closing_not}
use Rattle.nano_json_schema.specs.FieldCodecs.{json_fields}
use Rattle.nano_json_schema.specs.VariantCodecs.{json_variants}
use Rattle.nano_json_nested.proofs.contents.StructJsonContentWithin.read.Goals as goal

pub returns-in-Ok : goal.returns-in-Ok
returns-in-Ok g c =
    content_read json_variants (fields_of json_fields (g.F.JsonFieldsWithin.codec c.args.left).struct).encodes c.in_ok-values.ensures c.in-Ok.ensures

pub returns-in-Err : goal.returns-in-Err
returns-in-Err g c =
    let s = fields_of json_fields (g.F.JsonFieldsWithin.codec c.args.left).struct in
    closing_not json_variants s.encodes s.laws c.in_ok-values.ensures c.in-Err.ensures

pub returns-in_err-values : goal.returns-in_err-values
returns-in_err-values g c =
    passed_on _ _ c.from_residual.result c.from_residual.ensures.1
    (content_not json_variants (fields_of json_fields (g.F.JsonFieldsWithin.codec c.args.left).struct).encodes c.in_err-values.ensures)
