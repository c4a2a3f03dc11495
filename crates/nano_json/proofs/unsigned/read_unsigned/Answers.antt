use Rattle.std.proofs.Common.{◌<◌, ◌^◌, arith, subst, sym, refl}
use Rattle.nano_value.specs.Meaning.{whole}
use Rattle.nano_grammar.specs.Outcomes.{Read}
use Rattle.nano_grammar.proofs.TokenCalls.{passed_on}
use Rattle.nano_grammar.proofs.ReadingCalls.{one_read, one_not, one_stopped}
use Rattle.nano_json_tokens.specs.Cut.{Cut}
use Rattle.nano_json_tokens.proofs.JsonLaws.{json}
use Rattle.nano_json_tokens.specs.Outcomes.{position}
use Rattle.nano_json_tokens.proofs.ScalarsLaws.{unsigned_tokens}
use Rattle.nano_json.specs.ScalarCodecs.{unsigned}
use Rattle.nano_json.proofs.unsigned.read_unsigned.Goals as goal

pub narrow-requires : goal.narrow-requires
narrow-requires g c = let small = c.in_ok-number.ensures.1 in let capacity = c.requires in omega (arith, small, capacity)

pub returns : goal.returns
returns g c =
    let start = position c.args.state.now c.args.input.now in
    let end = position c.next_tok.new.self c.next_tok.new.i in
    let small : c.in_ok-number.number < 2 ^ g.T.Unsigned.bits = let low = c.in_ok-number.ensures.1 in let capacity = c.requires in omega (arith, low, capacity) in
    subst (λ m. Read Cut (unsigned g.T.Unsigned.bits).encodes start end (whole m)) (sym c.narrow.ensures)
    (one_read json whole unsigned_tokens.carries (λ m. m < 2 ^ g.T.Unsigned.bits) c.in_ok-number.number c.in_ok-number.ensures.0 small c.in_ok-next_tok.ensures)

pub returns-in_err-number : goal.returns-in_err-number
returns-in_err-number g c =
    let h = c.in_err-number.ensures in
    let capacity = c.requires in
    passed_on _ _ c.from_residual.result c.from_residual.ensures.1
    (one_not json whole unsigned_tokens.carries (λ m. m < 2 ^ g.T.Unsigned.bits) refl (λ n is small. h.lacks n is (omega (arith, small, capacity))) h.made)

pub returns-in_err-next_tok : goal.returns-in_err-next_tok
returns-in_err-next_tok g c =
    passed_on _ _ c.from_residual-in_err-next_tok.result c.from_residual-in_err-next_tok.ensures.1
    (one_stopped json whole unsigned_tokens.carries (λ m. m < 2 ^ g.T.Unsigned.bits) refl c.in_err-next_tok.ensures.fails)
