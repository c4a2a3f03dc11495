use Rattle.std.proofs.Common.{◌≡◌, ◌<◌, ◌^◌, ℕ, length, decimal, MatchOption, IsUtf8, sym, ◌∙◌, ap, subst, refl, arith, rules, true≢false}
use Rattle.std.proofs.lemmas.Fmt.{decimal_nonempty, IsAscii-decimal}
use Rattle.std.proofs.lemmas.Str.{IsUtf8-from_ascii}
use Rattle.std.specs.Str.Parse.{ParsesUnsigned}
use Rattle.nano_document.proofs.Pointing.{not_padded, parsed}
use Rattle.nano_document.proofs.pointer.place.Goals as goal

pub returns-then-is_empty : goal.returns-then-is_empty
returns-then-is_empty c = λ n small e.
    let some = decimal_nonempty n small in
    let same = ap length e in
    let none : length c.args.token.now ≡ 0 = search rules in
    omega (arith, some, same, none)

pub returns-then-is_padded : goal.returns-then-is_padded
returns-then-is_padded c = λ n small e. not_padded n _ c.args.token.now small e refl (c.is_padded.ensures.0 c.if-is_padded.true)

pub returns-in_default : goal.returns-in_default
returns-in_default c = λ n small e.
    c.in_default.ensures.cases.0 (subst IsUtf8 (sym e) (IsUtf8-from_ascii (decimal n) (IsAscii-decimal n small)))

pub returns : goal.returns
returns c =
    let some : 0 < length c.args.token.now = search rules in
    let parses = subst (λ t. ParsesUnsigned 64 10 t c.parse.result) c.in-Ok.ensures.cases.0 c.parse.ensures.value.0 in
    subst (λ o. MatchOption o ((n : ℕ) → n < 2 ^ 64 → c.args.token.now ≡ decimal n → ⊥) (λ n. c.args.token.now ≡ decimal n)) (sym c.ok.ensures.value)
    (parsed c.args.token.now some (λ h. true≢false (sym (c.is_padded.ensures.1 h) ∙ c.if-is_padded.false)) c.parse.result parses)
