use Rattle.std.proofs.Common.{string_bytes}
use Rattle.std.proofs.lemmas.Result.{MatchResult-weaker}
use Rattle.nano_grammar.proofs.AliasesLaws.{own_unchanged}
use Rattle.nano_grammar.proofs.AliasCalls.{field_under, no_field_under}
use Rattle.nano_ron_tokens.specs.Cut.{Cut}
use Rattle.nano_ron_schema.specs.Reading.{head}
use Rattle.nano_ron_schema.proofs.aliased.AliasedRonField.read_value.Goals as goal

pub returns : goal.returns
returns g c =
    let prefix = head (string_bytes c.args.state.now.identbuf) in
    let shape = g.F.RonFields.codec.struct.shape in
    let own = g.F.Label.label in
    let is = own_unchanged g.N.Label.label own in
    MatchResult-weaker c.read_value.result c.read_value.ensures
    (λ _ h. field_under g.N.Label.label own shape Cut own own is prefix h)
    (λ e h. no_field_under g.N.Label.label own shape Cut own own is prefix h)
