use Rattle.nano_grammar.proofs.TokenCalls.{passed_on}
use Rattle.nano_grammar.proofs.UserCalls.{content_read, content_not, closing_not}
use Rattle.nano_json_schema.specs.VariantCodecs.{json_variants}
use Rattle.nano_json_schema.specs.FieldCodecs.{single_codec}
use Rattle.nano_json_nested.proofs.contents.WithinNewtypeJsonContentWithin.read.Goals as goal

pub returns : goal.returns
returns g c =
    content_read json_variants (single_codec (g.T.NestedJson.at c.args.left)).encoding.encodes c.in_ok-content.ensures c.in_ok-close_content.ensures

pub returns-in_err-content : goal.returns-in_err-content
returns-in_err-content g c =
    passed_on _ _ c.from_residual.result c.from_residual.ensures.1
    (content_not json_variants (single_codec (g.T.NestedJson.at c.args.left)).encoding.encodes c.in_err-content.ensures)

pub returns-in_err-close_content : goal.returns-in_err-close_content
returns-in_err-close_content g c =
    let s = (single_codec (g.T.NestedJson.at c.args.left)).encoding in
    passed_on _ _ c.from_residual-in_err-close_content.result c.from_residual-in_err-close_content.ensures.1
    (closing_not json_variants s.encodes s.laws c.in_ok-content.ensures c.in_err-close_content.ensures)
