-- What is proved of Written.
use Rattle.std.specs.Prelude.{◌≡◌, ℕ, ◌==◌, ℤ, pos, negsuc, true, false, [], ◌∷◌, refl}
use Rattle.std.proofs.Common.{arith}
use Rattle.std.proofs.lemmas.Bool.Decides.{nat_tests}
use Rattle.nano_text.specs.String.{piece_text}
use Rattle.nano_json_tokens.specs.Token.{Token, u64, i64}
use Rattle.nano_json_tokens.specs.Written.{is_control, stands_as_itself, written_piece}

-- ---- scalars

-- a number is one token, with a minus sign or without
abbrev pub signed_token : ℤ → Token
signed_token (pos n) = u64 n
signed_token (negsuc n) = i64 (negsuc n)

-- a character that is written as itself is no escape
pub written_as_itself : (c : ℕ) → stands_as_itself c ≡ true → piece_text (written_piece c) ≡ c ∷ []
written_as_itself c h =
    let e8 : c == 8 ≡ false = grind (arith, nat_tests) in
    let e12 : c == 12 ≡ false = grind (arith, nat_tests) in
    let e10 : c == 10 ≡ false = grind (arith, nat_tests) in
    let e13 : c == 13 ≡ false = grind (arith, nat_tests) in
    let e9 : c == 9 ≡ false = grind (arith, nat_tests) in
    let e92 : c == 92 ≡ false = grind (arith, nat_tests) in
    let e34 : c == 34 ≡ false = grind (arith, nat_tests) in
    let control : is_control c ≡ false = grind (arith, nat_tests) in
    rw (e8, e12, e10, e13, e9, e92, e34, control) refl
