use Rattle.std.proofs.Common.{◌≡◌, ◌&&◌, true, ◌∙◌, sym, ap}
use Rattle.nano_text.specs.Characters.{first_is}
use Rattle.nano_text.specs.Scan.{after_sign}
use Rattle.nano_json_tokens.specs.Cut.{starts_number}
use Rattle.nano_document.specs.Decimals.{is_unsigned, is_decimal}
use Rattle.nano_document.proofs.Deciding.{decimal_is, decimal_tests}
use Rattle.nano_document.proofs.decimal.is_decimal.Goals as goal

pub returns-then-starts_number-clause-exact : goal.returns-then-starts_number-clause-exact
returns-then-starts_number-clause-exact c =
    let text = c.args.text.now in
    let bytes = c.as_bytes-bytes.ensures.value in
    let starts : true ≡ first_is starts_number text = c.if-starts_number.ensures
    ∙ ap (first_is starts_number) bytes in
    let value : c.is_unsigned.result ≡ is_decimal text = c.is_unsigned.ensures
    ∙ (ap is_unsigned (c.after_sign.ensures ∙ ap after_sign bytes)
    ∙ ap (λ b. b && is_unsigned (after_sign text)) starts) in
    (λ h. decimal_is text (sym value ∙ h), λ h. value ∙ decimal_tests text h)
