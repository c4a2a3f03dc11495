use Rattle.std.proofs.Common.{◌≡◌, ◌≤◌, ◌*◌, ◌-◌, ◌%◌, ◌^◌, ◌∙◌, ap, arith, bit_and, count_ones}
use Rattle.std.proofs.Math.Nat.{pow-le-pow_right}
use Rattle.std.proofs.lemmas.Nat.{and_mask}
use Rattle.nano_text.proofs.lanes.count_first.Goals as goal

pub returns : goal.returns
returns c =
    let n = c.args.lanes in
    let few : 2 ^ n ≤ 2 ^ 16 = pow-le-pow_right (omega arith) c.requires in
    let power : 1 * 2 ^ n % 2 ^ 64 ≡ 2 ^ n = omega (arith, few) in
    ap (λ m. count_ones (bit_and c.args.mask (m - 1))) power ∙ ap count_ones (and_mask c.args.mask n)
