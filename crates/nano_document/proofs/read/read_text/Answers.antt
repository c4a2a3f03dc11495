use Rattle.std.proofs.Common.{◌<◌, length, refl, rules, string_bytes}
use Rattle.std.proofs.lemmas.Result.{MatchResult-weaker}
use Rattle.std.proofs.lemmas.Str.{IsUtf8-string_bytes}
use Rattle.nano_value.specs.Meaning.{IsText, text, usize_bound}
use Rattle.nano_grammar.proofs.TokenCalls.{fails_as}
use Rattle.nano_json_tokens.proofs.ScalarsLaws.{text_tokens}
use Rattle.nano_json_tokens.specs.State.{pending}
use Rattle.nano_json_tokens.specs.declared.token.DeJsonTok.TheVariants as T
use Rattle.nano_document.specs.DocumentCodecs.{string_codec}
use Rattle.nano_document.proofs.FirstFaults.{one_wrong, one_alone, wrong_after, not_str}
use Rattle.nano_document.proofs.Reading.{pending_is}
use Rattle.nano_document.proofs.read.read_text.Goals as goal

pub returns-in-Str : goal.returns-in-Str
returns-in-Str c =
    let bytes = string_bytes c.args.state.now.strbuf in
    let count : length bytes < usize_bound = search rules in
    let is = pending_is c.args.state.now T.Str c.in-Str.is in
    let held : IsText bytes = record { count = count; utf8 = IsUtf8-string_bytes c.args.state.now.strbuf } in
    let alone = one_alone text text_tokens.carries IsText (pending c.args.state.now) bytes is held in
    MatchResult-weaker c.de_json.result c.de_json.ensures (λ _ x. x)
    (λ _ e. fails_as (wrong_after string_codec.encoding.encodes (text bytes) alone) e.fails)

pub returns-in_default : goal.returns-in_default
returns-in_default c =
    let s = c.args.state.now in
    let other = not_str s.tok (string_bytes s.strbuf) (string_bytes s.numbuf) in
    one_wrong text text_tokens.carries IsText refl (λ bytes is _. other bytes c.in_default.not-Str is)
    c.err_token.ensures
