use Rattle.std.proofs.Common.{sym, ◌∙◌}
use Rattle.nano_grammar.proofs.UserCalls.{first_read, first_not, later_read, later_not}
use Rattle.nano_json_schema.specs.Variants.{is_alone, bytes_of}
use Rattle.nano_json_schema.specs.VariantCodecs.{json_variants}
use Rattle.nano_json_nested.proofs.choices.Tuple2VariantJsonChoicesWithin.read.Goals as goal

pub returns-in-Ok : goal.returns-in-Ok
returns-in-Ok g c =
    let it = sym c.is_named.ensures ∙ c.if-is_named.true in
    let named = rw (c.stands_alone.ensures c.args.left, c.text.ensures) at it in
    first_read json_variants (g.S.JsonContentWithin.rest c.args.left) g.N.Label.label (is_alone c.args.name.now) (bytes_of c.args.name.now) (g.C.JsonChoicesWithin.encodes c.args.left) named c.in-Ok.ensures

pub returns-in-Err : goal.returns-in-Err
returns-in-Err g c =
    let it = sym c.is_named.ensures ∙ c.if-is_named.true in
    let named = rw (c.stands_alone.ensures c.args.left, c.text.ensures) at it in
    first_not json_variants (g.S.JsonContentWithin.rest c.args.left) g.N.Label.label (is_alone c.args.name.now) (bytes_of c.args.name.now) (g.C.JsonChoicesWithin.encodes c.args.left) named c.in-Err.ensures

pub returns-in-Ok-read : goal.returns-in-Ok-read
returns-in-Ok-read g c =
    let it = sym c.is_named.ensures ∙ c.if-is_named.false in
    let other = rw (c.stands_alone.ensures c.args.left, c.text.ensures) at it in
    later_read json_variants (g.S.JsonContentWithin.rest c.args.left) g.N.Label.label (is_alone c.args.name.now) (bytes_of c.args.name.now) (g.C.JsonChoicesWithin.encodes c.args.left) other c.in-Ok-read.ensures

pub returns-in-Err-read : goal.returns-in-Err-read
returns-in-Err-read g c =
    let it = sym c.is_named.ensures ∙ c.if-is_named.false in
    let other = rw (c.stands_alone.ensures c.args.left, c.text.ensures) at it in
    later_not json_variants (g.S.JsonContentWithin.rest c.args.left) g.N.Label.label (is_alone c.args.name.now) (bytes_of c.args.name.now) (g.C.JsonChoicesWithin.encodes c.args.left) other c.in-Err-read.ensures
