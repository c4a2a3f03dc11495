use Rattle.std.proofs.Common.{◌≡◌, sym, ap, ◌∙◌, ◌++◌, chars, string_bytes, encode_utf8_all}
use Rattle.std.proofs.lemmas.Result.{on_ok_weaker}
use Rattle.std.proofs.lemmas.Str.{encodes-chars, IsUtf8-string_bytes}
use Rattle.nano_grammar.proofs.WrittenLists.{pushed}
use Rattle.nano_json_tokens.specs.State.{pending, token_of}
use Rattle.nano_json_indent.specs.Layout.{token_text}
use Rattle.nano_json_indent.proofs.layout.append_token.Goals as goal

pub returns-in-F64 : goal.returns-in-F64
returns-in-F64 c =
    let s = c.args.state.now in
    let run = string_bytes s.numbuf in
    let before = string_bytes c.args.out.now in
    let is : token_text (pending s) ≡ chars run =
    ap (λ tok. token_text (token_of tok (string_bytes s.strbuf) run)) c.in-F64.is in
    let written = c.deref-in-F64.ensures
    ∙ (sym (encodes-chars run (IsUtf8-string_bytes s.numbuf)) ∙ ap encode_utf8_all (sym is)) in
    on_ok_weaker c.push_str.result (λ e. e ∙ ap (λ l. before ++ l) written)
    (pushed c.push_str.result before (string_bytes c.push_str.new.self) c.deref-in-F64.result.now c.push_str.ensures.bytes)
