-- A decimal is written as it stands: its characters are ASCII.
use Rattle.std.proofs.Common.{◌≡◌, ◌<◌, ℕ, true, cond, List, [], ◌∷◌, encode_utf8_all, refl, sym}
use Rattle.std.proofs.Common.{◌∙◌, ap, arith}
use Rattle.std.specs.List.{AllByRecursion}
use Rattle.std.proofs.lemmas.Bool.Decides.{nat_tests}
use Rattle.std.proofs.lemmas.Str.{encode_ascii}
use Rattle.nano_json_tokens.specs.Written.{written_text}
use Rattle.nano_document.specs.Decimals.{is_decimal, decimal_text}
use Rattle.nano_document.specs.DecimalCodecs.{IsOfRun, decimal_characters}
use Rattle.nano_document.proofs.Deciding.{decimal_is}

is_ascii : (c : ℕ) → IsOfRun c → c < 128
is_ascii c h = grind (arith, nat_tests)

run_encodes : (cs : List ℕ) → AllByRecursion IsOfRun cs → encode_utf8_all cs ≡ cs
run_encodes [] h = refl
run_encodes (c ∷ cs) h = rw (encode_ascii c (is_ascii c h.0)) (ap (λ l. c ∷ l) (run_encodes cs h.1))

pub written_as_it_stands : (bytes : List ℕ) → is_decimal bytes ≡ true
    → bytes ≡ encode_utf8_all (decimal_text bytes)
written_as_it_stands bytes h =
    sym (ap (λ b. encode_utf8_all (cond b bytes (written_text bytes))) h
    ∙ run_encodes bytes (decimal_characters bytes (decimal_is bytes h)))
