use Rattle.std.proofs.Common.{subst}
use Rattle.nano_document.specs.Decimals.{IsDecimal}
use Rattle.nano_document.proofs.json.Json.as_decimal.Goals as goal

pub returns-in-Decimal : goal.returns-in-Decimal
returns-in-Decimal c =
    let is = subst IsDecimal c.as_str.ensures.value (c.is_decimal.ensures.exact.0
    c.if-is_decimal.true) in
    (c.in-Decimal.text, (c.in-Decimal.is, is), c.as_str-in-Decimal.ensures.value)
