use Rattle.std.proofs.Common.{ap, refl, Some, arith, sym}
use Rattle.std.specs.Int.{w64}
use Rattle.std.proofs.lemmas.Int.{to_z_pos}
use Rattle.std.proofs.lemmas.Option.{IfSome_then}
use Rattle.nano_json_tokens.specs.Token.{u64, i64}
use Rattle.nano_json_tokens.proofs.PlainCalls.{unsigned_lexeme, negative_lexeme}
use Rattle.nano_json_tokens.proofs.plain.take_integer.Goals as goal

pub returns-then-place-eq45-clause-found : goal.returns-then-place-eq45-clause-found
returns-then-place-eq45-clause-found c =
    IfSome_then c.take_negative.result c.take_negative.ensures.found
    (λ z found. (i64 z, refl, negative_lexeme c.args.place.now.cur c.args.input.now z found.0 _ c.if-place-eq45.true found.1))

pub returns-clause-found : goal.returns-clause-found
returns-clause-found c =
    let n = c.in_ok-number.number in
    let found = c.in_ok-number.ensures.found in
    let small = c.if-number.false in
    let lexeme = unsigned_lexeme c.args.place.now.cur c.args.input.now n found.0 _ c.in_ok-number.ensures.begins found.1 in
    (u64 n, ap Some (sym (to_z_pos w64 n (omega (arith, small)))), lexeme)
