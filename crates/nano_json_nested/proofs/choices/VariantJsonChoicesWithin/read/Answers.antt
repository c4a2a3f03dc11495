use Rattle.std.proofs.Common.{sym, ◌∙◌, refl}
use Rattle.std.proofs.lemmas.Result.{MatchResult-weaker}
use Rattle.nano_grammar.specs.Variants.{no_variants}
use Rattle.nano_grammar.proofs.UserCalls.{first_read, first_not, none_has_it}
use Rattle.nano_json_tokens.proofs.Calling.{gives_up}
use Rattle.nano_json_schema.specs.Variants.{is_alone, bytes_of}
use Rattle.nano_json_schema.specs.VariantCodecs.{json_variants}
use Rattle.nano_json_nested.proofs.choices.VariantJsonChoicesWithin.read.Goals as goal

pub returns-then-is_named : goal.returns-then-is_named
returns-then-is_named g c =
    let it = sym c.is_named.ensures ∙ c.if-is_named.true in
    let named = rw (c.stands_alone.ensures c.args.left, c.text.ensures) at it in
    let rest = (g.S.JsonContentWithin.rest c.args.left) in
    let stood = is_alone c.args.name.now in
    let name = bytes_of c.args.name.now in
    MatchResult-weaker c.read.result c.read.ensures
    (λ _ h. first_read json_variants rest g.N.Label.label stood name no_variants named h)
    (λ e h. first_not json_variants rest g.N.Label.label stood name no_variants named h)

pub returns : goal.returns
returns g c =
    let it = sym c.is_named.ensures ∙ c.if-is_named.false in
    let other = rw (c.stands_alone.ensures c.args.left, c.text.ensures) at it in
    none_has_it json_variants (g.S.JsonContentWithin.rest c.args.left) g.N.Label.label (is_alone c.args.name.now) (bytes_of c.args.name.now) other refl c.unknown.ensures.says (gives_up c.args.state.now c.unknown.new.state c.args.input.now c.unknown.ensures.state)
