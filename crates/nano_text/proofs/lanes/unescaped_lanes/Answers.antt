use Rattle.std.proofs.Common.{◌≡◌, ◌≢◌, ℕ, Bool, true, ◌&&◌, not, nat_eq, refl, arith}
use Rattle.std.proofs.lemmas.Bool.{and_parts}
use Rattle.std.proofs.lemmas.Bool.Decides.{nat_tests}
use Rattle.std.proofs.lemmas.Simd.{zip2_splat, length-chunk}
use lib.Lanes.{chunk}
use Rattle.nano_text.specs.String.{is_plain_in_line}
use Rattle.nano_text.proofs.LaneMasks.{joined, passes_in}
use Rattle.nano_text.proofs.lanes.unescaped_lanes.Goals as goal

abbrev is_unescaped : ℕ → Bool
is_unescaped b = is_plain_in_line b && not (nat_eq b 127)

unescaped_parts : (b : ℕ) → is_unescaped b ≡ true → (is_plain_in_line b ≡ true) × (b ≢ 127)
unescaped_parts b h =
    let parts = and_parts (is_plain_in_line b) (not (nat_eq b 127)) h in
    (parts.0, grind (arith, nat_tests, parts.1))

pub returns : goal.returns
returns g c =
    let v = chunk c.args.from g.row.N c.args.bytes.now in
    let long = length-chunk c.args.from g.row.N c.args.bytes.now c.requires.0 in
    let passed = passes_in is_unescaped c.args.bytes.now c.args.from g.row.N _ _ c.requires.0 c.requires.1 c.type_inv.bytes c.first_set.ensures _
    (joined _ _ _ v (joined _ _ _ v (joined _ _ _ v (zip2_splat _ v g.row.N 32 long) (zip2_splat _ v g.row.N 127 long)) (zip2_splat _ v g.row.N 34 long)) (zip2_splat _ v g.row.N 92 long)) refl in
    record { within = passed.0; plain = λ k low high. unescaped_parts _ (passed.1 k low high) }
