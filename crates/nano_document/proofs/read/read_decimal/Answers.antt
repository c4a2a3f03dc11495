use Rattle.std.proofs.Common.{◌≡◌, ◌∙◌, sym, subst, string_bytes, refl, rules, true≢false}
use Rattle.nano_text.proofs.PlaceLaws.{moves_none}
use Rattle.nano_value.specs.Meaning.{text}
use Rattle.nano_grammar.proofs.TokenCalls.{passed_on, fails_as, fails_for_memory}
use Rattle.nano_grammar.proofs.ReadingCalls.{one_read, one_stopped}
use Rattle.nano_json_tokens.proofs.JsonLaws.{json}
use Rattle.nano_json_tokens.specs.State.{pending, place_of}
use Rattle.nano_json_tokens.specs.Token.{f64}
use Rattle.nano_json_tokens.specs.declared.token.DeJsonTok.TheVariants as T
use Rattle.nano_document.specs.Decimals.{IsDecimal, IsHeldDecimal}
use Rattle.nano_document.specs.DecimalCodecs.{decimals, decimal_tokens, f64_injective}
use Rattle.nano_document.proofs.FirstFaults.{one_wrong, one_alone, wrong_after}
use Rattle.nano_document.proofs.Reading.{pending_is}
use Rattle.nano_document.proofs.read.read_decimal.Goals as goal

pub returns-then-not-is_decimal : goal.returns-then-not-is_decimal
returns-then-not-is_decimal c =
    let token = pending_is c.args.state.now T.F64 c.requires in
    one_wrong text decimal_tokens.carries IsHeldDecimal refl
    (λ x is decimal.
    let same = f64_injective x (string_bytes c.args.state.now.numbuf) (sym is ∙ token) in
    let numbuf = subst IsDecimal (same ∙ sym c.as_str.ensures.value) decimal.is_decimal in
    true≢false (sym (c.is_decimal.ensures.exact.1 numbuf) ∙ c.if-not-is_decimal.true))
    c.err_token.ensures

pub returns-in_default : goal.returns-in_default
returns-in_default c =
    fails_for_memory (moves_none (place_of c.args.state.now) c.args.input.now)
    c.err_memory.ensures.memory c.err_memory.ensures.made

pub returns-in_err-next_tok : goal.returns-in_err-next_tok
returns-in_err-next_tok c =
    let bytes = string_bytes c.in-Ok.text in
    let numbuf = string_bytes c.args.state.now.numbuf in
    let token : pending c.args.state.now
    ≡ f64 numbuf = pending_is c.args.state.now T.F64 c.requires in
    let is = subst IsDecimal c.as_str.ensures.value (c.is_decimal.ensures.exact.0
    c.if-not-is_decimal.false) in
    let same : bytes ≡ numbuf = c.in-Ok.ensures.ok ∙ c.as_str-2.ensures.value in
    let held : IsHeldDecimal bytes = record {
      is_decimal = subst IsDecimal (sym same) is;
      is_text = search rules;
    } in
    let alone = one_alone text decimal_tokens.carries IsHeldDecimal (pending c.args.state.now) bytes
    (token ∙ sym (λ i. f64 (same i))) held in
    passed_on _ _ c.from_residual.result c.from_residual.ensures.1
    (fails_as (wrong_after decimals.encodes (text bytes) alone)
    (one_stopped json text decimal_tokens.carries IsHeldDecimal refl c.in_err-next_tok.ensures.fails))

pub returns : goal.returns
returns c =
    let bytes = string_bytes c.in-Ok.text in
    let numbuf = string_bytes c.args.state.now.numbuf in
    let token : pending c.args.state.now
    ≡ f64 numbuf = pending_is c.args.state.now T.F64 c.requires in
    let is = subst IsDecimal c.as_str.ensures.value (c.is_decimal.ensures.exact.0
    c.if-not-is_decimal.false) in
    let same : bytes ≡ numbuf = c.in-Ok.ensures.ok ∙ c.as_str-2.ensures.value in
    let held : IsHeldDecimal bytes = record {
      is_decimal = subst IsDecimal (sym same) is;
      is_text = search rules;
    } in
    one_read json text decimal_tokens.carries IsHeldDecimal bytes (token ∙ sym (λ i. f64 (same i)))
    held c.in_ok-next_tok.ensures
