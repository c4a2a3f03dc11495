use Rattle.std.proofs.Common.{◌/◌, ◌^◌, ◌<◌, ◌++◌, List, ℕ, drop, append_assoc, ap, sym, ◌∙◌, arith}
use Rattle.std.proofs.lemmas.Fmt.{decimal_nonempty}
use Rattle.std.specs.Fmt.{decimal}
use Rattle.nano_text.proofs.DigitValues.{decimal_thousand, length_thousand, short_written}
use Rattle.nano_text.proofs.digits.write_highest.Goals as goal

pub write_triple-requires-clause-within : goal.write_triple-requires-clause-within
write_triple-requires-clause-within c =
    let some = decimal_nonempty c.triples.rest (omega (arith, c.triples.auto.rest-fits.fits)) in
    (omega (arith, some, c.triples.invariant.below), omega (arith, c.triples.invariant.within, c.requires.within.1, c.triples.auto.buffer))

pub triples-preserved : goal.triples-preserved
triples-preserved c =
    let l = c.triples in
    let fits : l.rest < 2 ^ 64 = omega (arith, l.auto.rest-fits.fits) in
    let longer = length_thousand l.rest c.triples-test.true fits in
    let digits = decimal_thousand l.rest c.triples-test.true fits in record {
      below = omega (arith, longer, l.invariant.below);
      within = omega (arith, l.invariant.within);
      place = omega (arith, longer, l.invariant.below, l.invariant.place);
      written = ap (λ (bytes : List ℕ). decimal (l.rest / 1000) ++ bytes) c.write_triple.ensures
          ∙ (sym (append_assoc (decimal (l.rest / 1000)) _ _) ∙ (ap (λ (bytes : List ℕ). bytes ++ drop l.at l.buffer) (sym digits) ∙ l.invariant.written));
    }

pub write_triple-requires-2-clause-within : goal.write_triple-requires-2-clause-within
write_triple-requires-2-clause-within c =
    let some = decimal_nonempty c.triples.rest (omega (arith, c.triples.auto.rest-fits.fits)) in
    (omega (arith, some, c.triples.invariant.below), omega (arith, c.triples.invariant.within, c.requires.within.1, c.triples.auto.buffer))

pub returns-clause-written : goal.returns-clause-written
returns-clause-written c =
    let l = c.triples in
    short_written l.rest l.at _ _ (omega (arith, l.invariant.below)) c.write_triple-2.ensures c.digit_count.result (omega (arith, c.triples-test.false)) c.digit_count.ensures
    ∙ l.invariant.written
