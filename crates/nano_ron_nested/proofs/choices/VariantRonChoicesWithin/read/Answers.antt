use Rattle.std.proofs.Common.{sym, ◌∙◌, refl}
use Rattle.std.proofs.lemmas.Result.{MatchResult-weaker}
use Rattle.nano_grammar.specs.Variants.{no_variants}
use Rattle.nano_grammar.proofs.UserCalls.{first_read, first_not, none_has_it}
use Rattle.nano_ron_tokens.proofs.Calling.{gives_up}
use Rattle.nano_ron_schema.specs.VariantCodecs.{ron_variants}
use Rattle.nano_ron_nested.proofs.choices.VariantRonChoicesWithin.read.Goals as goal

pub returns-then-is_named : goal.returns-then-is_named
returns-then-is_named g c =
    let it = sym c.is_named.ensures ∙ c.if-is_named.true in
    let named = rw (c.stands_alone.ensures c.args.left, c.text.ensures) at it in
    let rest = (g.S.RonContentWithin.rest c.args.left) in
    MatchResult-weaker c.read.result c.read.ensures
    (λ _ x. first_read ron_variants rest g.N.Label.label c.args.alone c.args.name.now no_variants named x)
    (λ _ x. first_not ron_variants rest g.N.Label.label c.args.alone c.args.name.now no_variants named x)

pub returns : goal.returns
returns g c =
    let it = sym c.is_named.ensures ∙ c.if-is_named.false in
    let other = rw (c.stands_alone.ensures c.args.left, c.text.ensures) at it in
    let error = c.unknown_variant.ensures in
    none_has_it ron_variants (g.S.RonContentWithin.rest c.args.left) g.N.Label.label c.args.alone c.args.name.now other refl error.says
    (gives_up c.args.state.now c.unknown_variant.new.state c.args.input.now error.state)
