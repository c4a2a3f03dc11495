use Rattle.std.proofs.Common.{List, [], ℕ, subst, append-nil}
use Rattle.nano_grammar.specs.Tokens.{At, Cuts}
use Rattle.nano_grammar.proofs.TokensLaws.{cuts_fit}
use Rattle.nano_json.proofs.Json.{json_laws, legal_there}
use Rattle.nano_json_tokens.specs.Token.{Token}
use Rattle.nano_json_tokens.specs.Cut.{Cut}
use Rattle.nano_json_indent.specs.Layout.{indented}
use Rattle.nano_json_indent.specs.declared.kind.Kind.TheVariants.{Start}
use Rattle.nano_json_indent.proofs.Tokens.{value_tokens}
use Rattle.nano_json_indent.proofs.Laying.{laid_is_cut}
use Rattle.nano_json_indent.proofs.laws.indented_text_decodes_to_the_value.Goals as goal

pub returns : goal.returns
returns g c =
    let f = g.T.JsonCodec.json in
    let x = c.args.value.now in
    let ts = f.canonical.tokens x in
    let written = f.is_written x (legal_there f g.met.T.JsonCodec.agrees x c.known.ensures) 0 in
    let again = laid_is_cut 0 Start ts [] (value_tokens ts (f.canonical.text 0 x) written).1 tt in
    let cuts = subst (λ (l : List ℕ). Cuts Cut ts l []) (append-nil (indented ts)) again in
    let last : At Token = record { token = json_laws.end; text = [] } in
    λ sound. cuts_fit Cut f.encoding.encodes ts (g.T.Value.means x) (indented ts) [] last
    (c.written_tokens_encode_a_sound_value.ensures sound) cuts json_laws.end_is_cut
