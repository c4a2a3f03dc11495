use Rattle.std.proofs.Common.{◌≡◌, ◌++◌, ◌∷◌, [], string_bytes, encode_utf8, encode_utf8_all, ap, sym, ◌∙◌, map-id, arith}
use Rattle.std.proofs.lemmas.Grind.{common_steps}
use Rattle.std.proofs.lemmas.Iterator.{YieldsList-from_chars}
use Rattle.std.proofs.lemmas.Iterator.Consumers.{YieldsList-end}
use Rattle.derive_source.specs.Cases.{in_words}
use Rattle.derive_source.proofs.Cases.{in_words-first, in_words-small, in_words-capital}
use Rattle.derive_source.proofs.Cases.{is_none-more, chars_of}
use Rattle.derive_source.proofs.case.in_words.Goals as goal
use Rattle.derive_source.proofs.case.in_words.Goals.{then-is_ascii_uppercase+then-not-is_first+in_ok-push, else-is_ascii_uppercase, else-is_ascii_uppercase-via-then-is_ascii_uppercase+else-not-is_first, else-is_ascii_uppercase-via-else-is_ascii_uppercase}

pub loop-c-preserved : goal.loop-c-preserved
loop-c-preserved c =
    let cs = c.loop-c.yielded in
    let ch = c.in-Some.c in
    let more : string_bytes c.if-is_ascii_uppercase.text ++ encode_utf8 ch ≡ encode_utf8_all (in_words (cs ++ ch ∷ [])) =
    elim c.if-is_ascii_uppercase.branch [
      | then-is_ascii_uppercase+then-not-is_first+in_ok-push w ↦ in_words-capital cs ch _ (grind (arith, common_steps)) (grind (arith, common_steps)) (grind (arith, common_steps))
      | else-is_ascii_uppercase w ↦ elim w.else-is_ascii_uppercase.branch [
        | else-is_ascii_uppercase-via-then-is_ascii_uppercase+else-not-is_first w' ↦ in_words-first cs ch _ (grind (arith, common_steps)) (grind (arith, common_steps))
        | else-is_ascii_uppercase-via-else-is_ascii_uppercase w' ↦ in_words-small cs ch _ (grind (arith, common_steps)) (grind (arith, common_steps))
      ]
    ] in
    (c.in_ok-push-2.ensures.bytes ∙ more, sym (is_none-more cs ch))

pub returns : goal.returns
returns c =
    let cs = c.loop-c.yielded in
    let letters = YieldsList-from_chars c.args.name.now c.utf8.name cc in
    let done = YieldsList-end letters cs _ c.loop-c.yielded_by _ _ c.in-None.is c.next.ensures.steps in
    let all = ap (λ cs. encode_utf8_all (in_words cs)) (sym (map-id cs) ∙ done.0) in
    chars_of c.loop-c.text _ (c.loop-c.invariant.0 ∙ all)
