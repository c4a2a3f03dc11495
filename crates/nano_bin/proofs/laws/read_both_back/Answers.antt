use Rattle.std.proofs.Common.{arith, refl, length-append}
use Rattle.std.proofs.lemmas.Result.{err_from_is_err_and}
use Rattle.nano_bin.proofs.RoundTrip.{first_stands, next_stands}
use Rattle.nano_bin.proofs.laws.read_both_back.Goals as goal

pub returns-clause-ok : goal.returns-clause-ok
returns-clause-ok g c at =
    let V = g.A.BinCodec.bin.canonical.written c.args.first.now in
    let W = g.B.BinCodec.bin.canonical.written c.args.second.now in
    let one = c.in_ok-one.ensures.ok (first_stands _ _ _ _ at) in
    let other = c.in_ok-other.ensures.ok (next_stands _ _ _ _ _ at one.moved) in
    let first = one.moved in
    let second = other.moved in
    let parts = length-append V W in
    record {
      first_same = one.same;
      second_same = other.same;
      moved = omega (arith, first, second, parts);
    }

pub returns-in_err-other-clause-err : goal.returns-in_err-other-clause-err
returns-in_err-other-clause-err g c =
    let p = err_from_is_err_and c.from_residual-in_err-other.result c.from_residual-in_err-other.ensures.1 in
    rw (p.1, p.2) (record {
      memory = λ at.
          let moved = (c.in_ok-one.ensures.ok (first_stands _ _ _ _ at)).moved in
          c.in_err-other.ensures.err.memory (next_stands _ _ _ _ _ at moved);
      unchanged = refl;
    })

pub returns-in_err-one-clause-err : goal.returns-in_err-one-clause-err
returns-in_err-one-clause-err g c =
    let p = err_from_is_err_and c.from_residual.result c.from_residual.ensures.1 in
    rw (p.1, p.2) (record {
      memory = λ at. c.in_err-one.ensures.err.memory (first_stands _ _ _ _ at);
      unchanged = refl;
    })
