use Rattle.std.proofs.Common.{◌/◌, ◌++◌, List, ℕ, drop, ap, ◌∙◌, arith}
use Rattle.std.proofs.lemmas.Fmt.{decimal_nonempty}
use Rattle.std.specs.Fmt.{decimal}
use Rattle.nano_text.proofs.DigitValues.{decimal_billion, length_billion}
use Rattle.nano_text.proofs.digits.write_digits.Goals as goal

pub write_nine-requires-clause-within : goal.write_nine-requires-clause-within
write_nine-requires-clause-within c =
    let l = c.nines in
    let longer = length_billion l.rest c.nines-test.true l.auto.rest-fits.fits in
    let some = decimal_nonempty (l.rest / 1000000000) (omega (arith, l.auto.rest-fits.fits)) in
    (omega (arith, longer, some, l.invariant.below), omega (arith, l.invariant.within, c.requires.within.1, l.auto.buffer))

pub nines-preserved : goal.nines-preserved
nines-preserved c =
    let l = c.nines in
    let fits = l.auto.rest-fits.fits in
    let longer = length_billion l.rest c.nines-test.true fits in
    let digits = decimal_billion l.rest c.nines-test.true fits (drop l.at l.buffer) in record {
      below = omega (arith, longer, l.invariant.below);
      within = omega (arith, l.invariant.within);
      place = omega (arith, longer, l.invariant.below, l.invariant.place);
      written = ap (λ (bytes : List ℕ). decimal (l.rest / 1000000000) ++ bytes) c.write_nine.ensures ∙ (digits ∙ l.invariant.written);
    }

pub write_highest-requires-clause-within : goal.write_highest-requires-clause-within
write_highest-requires-clause-within c =
    (omega (arith, c.nines.invariant.below), omega (arith, c.nines.invariant.within, c.requires.within.1, c.nines.auto.buffer))
