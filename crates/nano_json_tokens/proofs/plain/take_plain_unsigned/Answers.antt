use Rattle.std.proofs.Common.{refl, arith, ◌≤◌}
use Rattle.nano_text.proofs.PlaceLaws.{moves_append}
use Rattle.nano_grammar.proofs.Plain.{one_taken}
use Rattle.nano_json_tokens.specs.Cut.{Cut}
use Rattle.nano_json_tokens.specs.Scan.{AnUnsigned}
use Rattle.nano_json_tokens.specs.Token.{u64}
use Rattle.nano_json_tokens.proofs.PlainCalls.{after_space, unsigned_lexeme}
use Rattle.nano_json_tokens.proofs.plain.take_plain_unsigned.Goals as goal

pub returns : goal.returns
returns c =
    let n = c.in_ok-number.number in
    let here = c.skip_space.new.self in
    let found = c.in_ok-number.ensures.found in
    let lexeme = unsigned_lexeme here.cur c.skip_space.new.i n found.0 _ c.in_ok-number.ensures.begins found.1 in
    let small : n ≤ c.args.max = omega (arith, c.if-number-max.false) in
    (one_taken Cut (AnUnsigned c.args.max) (u64 n) (refl, small) (after_space (u64 n) c.skip_space.ensures.rest lexeme), moves_append c.skip_space.ensures.counts c.in_ok-number.ensures.place)
