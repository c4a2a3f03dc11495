use Rattle.std.proofs.Common.{string_bytes, sym, refl}
use Rattle.std.proofs.lemmas.Bool.{or_left}
use Rattle.std.proofs.lemmas.Result.{MatchResult-weaker}
use Rattle.nano_grammar.proofs.TokenCalls.{passed_on}
use Rattle.nano_grammar.proofs.FieldCalls.{looked_up, looked_up_none}
use Rattle.nano_grammar.proofs.FieldReading.{is_this_name, other_name}
use Rattle.nano_grammar.specs.Aliases.{aliased}
use Rattle.nano_grammar.proofs.AliasesLaws.{alias_is_own, other_is_own}
use Rattle.nano_grammar.proofs.AliasCalls.{field_under, no_field_under, looked_up_under}
use Rattle.nano_grammar.proofs.AliasCalls.{looked_up_none_under}
use Rattle.nano_ron_tokens.specs.Cut.{Cut}
use Rattle.nano_ron_schema.specs.Reading.{head}
use Rattle.nano_ron_schema.proofs.aliased.AliasedRonFields.read_field.Goals as goal

pub returns-then-ne : goal.returns-then-ne
returns-then-ne g c =
    let name = string_bytes c.args.state.now.identbuf in
    let alias = g.N.Label.label in
    let own = g.F.Label.label in
    let shape = g.F.RonFields.codec.struct.shape in
    let other = other_name c.as_str.result.now c.text.result.now name alias c.ne.result c.as_str.ensures.value c.text.ensures c.ne.ensures c.if-ne.true in
    let is = other_is_own alias own name other in
    let known = g.met.F.RonField.is_known in
    MatchResult-weaker c.read_field.result c.read_field.ensures
    (λ found h. looked_up_under alias own shape Cut name name is (head name) known h)
    (λ e h. looked_up_none_under alias own shape Cut name name is (head name) known h)

pub returns : goal.returns
returns g c =
    let name = string_bytes c.args.state.now.identbuf in
    let alias = g.N.Label.label in
    let own = g.F.Label.label in
    let shape = g.F.RonFields.codec.struct.shape in
    let named = is_this_name c.as_str.result.now c.text.result.now name alias c.ne.result c.as_str.ensures.value c.text.ensures c.ne.ensures c.if-ne.false in
    looked_up Cut (head name) name (aliased alias own shape) (or_left _ (shape.knows name) named)
    (field_under alias own shape Cut name own (alias_is_own alias own name named) (head name) c.in_ok-read_value.ensures)

pub returns-in_err-read_value : goal.returns-in_err-read_value
returns-in_err-read_value g c =
    let name = string_bytes c.args.state.now.identbuf in
    let alias = g.N.Label.label in
    let own = g.F.Label.label in
    let shape = g.F.RonFields.codec.struct.shape in
    let named = is_this_name c.as_str.result.now c.text.result.now name alias c.ne.result c.as_str.ensures.value c.text.ensures c.ne.ensures c.if-ne.false in
    passed_on _ _ c.from_residual.result c.from_residual.ensures.1
    (looked_up_none Cut (head name) name (aliased alias own shape) (or_left _ (shape.knows name) named)
    (no_field_under alias own shape Cut name own (alias_is_own alias own name named) (head name) c.in_err-read_value.ensures))
