use Rattle.std.proofs.Common.{sym, ◌∙◌}
use Rattle.nano_grammar.proofs.UserCalls.{first_read, first_not, later_read, later_not}
use Rattle.nano_ron_schema.specs.VariantCodecs.{ron_variants}
use Rattle.nano_ron_nested.proofs.choices.Tuple2VariantRonChoicesWithin.read.Goals as goal

pub returns-in-Ok : goal.returns-in-Ok
returns-in-Ok g c =
    let it = sym c.is_named.ensures ∙ c.if-is_named.true in
    let named = rw (c.stands_alone.ensures c.args.left, c.text.ensures) at it in
    first_read ron_variants (g.S.RonContentWithin.rest c.args.left) g.N.Label.label c.args.alone c.args.name.now (g.C.RonChoicesWithin.encodes c.args.left) named c.in-Ok.ensures

pub returns-in-Err : goal.returns-in-Err
returns-in-Err g c =
    let it = sym c.is_named.ensures ∙ c.if-is_named.true in
    let named = rw (c.stands_alone.ensures c.args.left, c.text.ensures) at it in
    first_not ron_variants (g.S.RonContentWithin.rest c.args.left) g.N.Label.label c.args.alone c.args.name.now (g.C.RonChoicesWithin.encodes c.args.left) named c.in-Err.ensures

pub returns-in-Ok-read : goal.returns-in-Ok-read
returns-in-Ok-read g c =
    let it = sym c.is_named.ensures ∙ c.if-is_named.false in
    let other = rw (c.stands_alone.ensures c.args.left, c.text.ensures) at it in
    later_read ron_variants (g.S.RonContentWithin.rest c.args.left) g.N.Label.label c.args.alone c.args.name.now (g.C.RonChoicesWithin.encodes c.args.left) other c.in-Ok-read.ensures

pub returns-in-Err-read : goal.returns-in-Err-read
returns-in-Err-read g c =
    let it = sym c.is_named.ensures ∙ c.if-is_named.false in
    let other = rw (c.stands_alone.ensures c.args.left, c.text.ensures) at it in
    later_not ron_variants (g.S.RonContentWithin.rest c.args.left) g.N.Label.label c.args.alone c.args.name.now (g.C.RonChoicesWithin.encodes c.args.left) other c.in-Err-read.ensures
