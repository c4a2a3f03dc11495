use Rattle.std.proofs.Common.{◌∙◌, inl, inr, string_bytes, sym, subst, true≢false}
use Rattle.nano_document.specs.Decimals.{IsDecimal}
use Rattle.nano_document.proofs.json.Json.as_str.Goals as goal

pub returns-in-Text : goal.returns-in-Text
returns-in-Text c = (c.in-Text.text, inl c.in-Text.is, c.as_str-in-Text.ensures.value)

pub returns-in-Decimal : goal.returns-in-Decimal
returns-in-Decimal c =
    let not : IsDecimal (string_bytes c.in-Decimal.text)
    → ⊥ = λ h. true≢false (sym (c.is_decimal.ensures.exact.1 (subst IsDecimal (sym
    c.as_str.ensures.value) h)) ∙ c.if-not-is_decimal.true) in
    (c.in-Decimal.text, inr (c.in-Decimal.is, not), c.as_str-in-Decimal.ensures.value)
