use Rattle.std.proofs.Common.{◌≡◌, ◌++◌, true, if◌then◌else◌, encode_utf8}
use Rattle.std.proofs.Common.{encode_utf8_all, ap, ap₂, sym, ◌∙◌, eq-eqb, ne_eqb, map-id, arith}
use Rattle.std.specs.Char.{to_ascii_uppercase as upper}
use Rattle.std.proofs.lemmas.Grind.{common_steps}
use Rattle.std.proofs.lemmas.Iterator.{YieldsList-from_chars}
use Rattle.std.proofs.lemmas.Iterator.Consumers.{YieldsList-end}
use Rattle.derive_source.specs.Cases.{capitalized}
use Rattle.derive_source.proofs.Cases.{capitalized-underscore, capitalized-letter, begins_after-more}
use Rattle.derive_source.proofs.Cases.{encodes-more, chars_of}
use Rattle.derive_source.proofs.case.capitalized.Goals as goal
use Rattle.derive_source.proofs.case.capitalized.Goals.{then-begins, else-begins}

pub loop-c-preserved-then-c-eq95 : goal.loop-c-preserved-then-c-eq95
loop-c-preserved-then-c-eq95 c =
    let cs = c.loop-c.yielded in
    let e = c.if-c-eq95.true in (
      c.loop-c.invariant.0 ∙ ap encode_utf8_all (sym (capitalized-underscore cs c.in-Some.c e)),
      sym (begins_after-more true cs c.in-Some.c ∙ eq-eqb c.in-Some.c 95 e),
    )

pub loop-c-preserved : goal.loop-c-preserved
loop-c-preserved c =
    let cs = c.loop-c.yielded in
    let ch = c.in-Some.c in
    let n = c.if-c-eq95.false in
    let pushed : c.if-begins.push ≡ (if c.loop-c.begins then upper ch else ch) =
    elim c.if-begins.branch [ then-begins w ↦ grind (arith, common_steps) | else-begins w ↦ grind (arith, common_steps) ] in
    let letter = pushed ∙ ap (λ b. if b then upper ch else ch) c.loop-c.invariant.1 in
    let bytes = c.in_ok-push.ensures.bytes ∙ ap₂ (λ s x. s ++ encode_utf8 x) c.loop-c.invariant.0 letter in (
      bytes ∙ sym (ap encode_utf8_all (capitalized-letter cs ch n) ∙ encodes-more _ _),
      sym (begins_after-more true cs ch ∙ ne_eqb ch 95 n),
    )

pub returns : goal.returns
returns c =
    let cs = c.loop-c.yielded in
    let letters = YieldsList-from_chars c.args.name.now c.utf8.name cc in
    let done = YieldsList-end letters cs _ c.loop-c.yielded_by _ _ c.in-None.is c.next.ensures.steps in
    let all = ap (λ cs. encode_utf8_all (capitalized true cs)) (sym (map-id cs) ∙ done.0) in
    chars_of c.loop-c.text _ (c.loop-c.invariant.0 ∙ all)
