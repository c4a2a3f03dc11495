use Rattle.std.proofs.Common.{◌≡◌, ◌++◌, true, string_bytes, sym, ◌∙◌, ap}
use Rattle.std.proofs.lemmas.Result.{on_ok_weaker}
use Rattle.nano_grammar.proofs.WrittenLists.{pushed}
use Rattle.nano_document.specs.Decimals.{is_decimal}
use Rattle.nano_document.proofs.DecimalText.{written_as_it_stands}
use Rattle.nano_document.proofs.decimal.append_decimal.Goals as goal

pub returns-then-is_decimal-clause-ok : goal.returns-then-is_decimal-clause-ok
returns-then-is_decimal-clause-ok c =
    let bytes = string_bytes c.args.text.now in
    let before = string_bytes c.args.s.now.out in
    let is : is_decimal bytes ≡ true = sym (c.is_decimal.ensures.value
    ∙ ap is_decimal c.as_str.ensures.value) ∙ c.if-is_decimal.true in
    let same = c.as_str-then-is_decimal.ensures.value ∙ written_as_it_stands bytes is in
    on_ok_weaker c.push_str.result (λ e. e ∙ ap (λ l. before ++ l) same)
    (pushed c.push_str.result before (string_bytes c.push_str.new.self)
    c.as_str-then-is_decimal.result.now c.push_str.ensures.bytes)
