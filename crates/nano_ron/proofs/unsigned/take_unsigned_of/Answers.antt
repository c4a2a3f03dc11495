use Rattle.std.proofs.Common.{◌<◌, ◌^◌, arith, subst, sym, refl}
use Rattle.nano_value.specs.Meaning.{whole}
use Rattle.nano_grammar.specs.Plain.{TookPlainly}
use Rattle.nano_grammar.proofs.Plain.{taken_as}
use Rattle.nano_ron_tokens.specs.Cut.{Cut}
use Rattle.nano_text.specs.Place.{text_at}
use Rattle.nano_ron_tokens.specs.Scan.{AnUnsigned}
use Rattle.nano_ron_tokens.specs.Token.{u64}
use Rattle.nano_ron.specs.ScalarCodecs.{unsigned}
use Rattle.nano_ron.proofs.unsigned.take_unsigned_of.Goals as goal

pub narrow-requires : goal.narrow-requires
narrow-requires g c = let small = c.in_ok-number.ensures.0.1.1 in let capacity = c.requires in omega (arith, small, capacity)

pub returns : goal.returns
returns g c =
    let n = c.in_ok-number.number in
    let start = text_at c.args.place.now c.args.input.now in
    let end = text_at c.take_plain_unsigned.new.place c.take_plain_unsigned.new.input in
    let bits = g.T.Unsigned.bits in
    let small : n < 2 ^ bits = let low = c.in_ok-number.ensures.0.1.1 in let capacity = c.requires in omega (arith, low, capacity) in (
      subst (λ m. TookPlainly Cut (unsigned bits).encodes start end (whole m)) (sym c.narrow.ensures)
          (taken_as Cut (AnUnsigned c.args.max) (unsigned bits).encodes (λ ts is. record {
            part = n;
            has = record { token = u64 n; one = is.0; carries_it = refl; has = small };
            is = refl;
          }) c.in_ok-number.ensures.0),
      c.in_ok-number.ensures.1,
    )
