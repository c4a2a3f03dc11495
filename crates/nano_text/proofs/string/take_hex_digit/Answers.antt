use Rattle.std.proofs.Common.{◌≡◌, ℕ, true, sym, subst}
use Rattle.std.specs.Char.{is_ascii_hexdigit}
use Rattle.nano_text.proofs.PlaceLaws.{moves_none}
use Rattle.nano_text.proofs.Strings.{hex_value, value_some}
use Rattle.nano_text.proofs.RemainingText.{remaining-first}
use Rattle.nano_text.proofs.string.take_hex_digit.Goals as goal

pub returns-in_err-value-clause-none : goal.returns-in_err-value-clause-none
returns-in_err-value-clause-none c none digit rest hex text =
    let same : c.args.p.now.cur ≡ digit = remaining-first c.args.p.now.cur digit c.args.i.now rest text in
    c.in_err-value.ensures.value (hex_value c.args.p.now.cur (subst (λ (x : ℕ). is_ascii_hexdigit x ≡ true) (sym same) hex))

pub returns-in_err-value-clause-place : goal.returns-in_err-value-clause-place
returns-in_err-value-clause-place c = moves_none c.args.p.now c.args.i.now

pub returns-clause-place : goal.returns-clause-place
returns-clause-place c = c.next.ensures.counts (value_some c.args.p.now.cur c.in_ok-value.ensures.value.0)
