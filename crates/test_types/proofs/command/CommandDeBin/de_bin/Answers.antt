use Rattle.std.proofs.Common.{◌≢◌, ℕ, zero, suc, refl, List, arith}
use Rattle.std.proofs.lemmas.Bool.Decides.{nat_tests}
use Rattle.std.proofs.lemmas.Result.{err_from_is_err_and}
use Rattle.nano_value.specs.Meaning.{Meaning}
use Rattle.nano_bin.specs.Variants.{encoding_at}
use Rattle.nano_bin.proofs.Readers.{unit_reads}
use Rattle.nano_bin.proofs.Variants.{variant_reads, content_rejected, tag_rejected}
use Rattle.nano_bin.proofs.Variants.{unknown_rejected}
use Rattle.test_types.specs.CommandCodecs.{variants}
use Rattle.test_types.proofs.command.CommandDeBin.de_bin.Goals as goal
use Rattle.test_types.proofs.command.CommandDeBin.de_bin.Goals.{in-0, in-1+in_ok-steps-in-1}
use Rattle.test_types.proofs.command.CommandDeBin.de_bin.Goals.{in-2+in_ok-time-in-2}

pub returns-in_err-de_bin-clause-err : goal.returns-in_err-de_bin-clause-err
returns-in_err-de_bin-clause-err c =
    let p = err_from_is_err_and c.from_residual.result c.from_residual.ensures.1 in
    rw (p.1, p.2) (tag_rejected variants c.args.bytes.now c.args.offset.now _ _ c.in_err-de_bin.ensures.err.none)

pub returns-in_err-steps-in-1-clause-err : goal.returns-in_err-steps-in-1-clause-err
returns-in_err-steps-in-1-clause-err c =
    let p = err_from_is_err_and c.from_residual-in_err-steps-in-1.result c.from_residual-in_err-steps-in-1.ensures.1 in
    let tag = rw c.in-1.is at c.in_ok-de_bin.ensures.ok in
    rw (p.1, p.2) (content_rejected variants c.args.bytes.now c.args.offset.now c.de_bin.new.offset _ 1 _ tag c.in_err-steps-in-1.ensures.err)

pub returns-in_err-time-in-2-clause-err : goal.returns-in_err-time-in-2-clause-err
returns-in_err-time-in-2-clause-err c =
    let p = err_from_is_err_and c.from_residual-in_err-time-in-2.result c.from_residual-in_err-time-in-2.ensures.1 in
    let tag = rw c.in-2.is at c.in_ok-de_bin.ensures.ok in
    rw (p.1, p.2) (content_rejected variants c.args.bytes.now c.args.offset.now c.de_bin.new.offset _ 2 _ tag c.in_err-time-in-2.ensures.err.none)

-- no other tag has content
no_other : (tag : ℕ) → tag ≢ 0 → tag ≢ 1 → tag ≢ 2 → (bytes : List ℕ) (m : Meaning)
    → (encoding_at variants tag).encodes bytes m → ⊥
no_other zero a b c bytes m h = a refl
no_other (suc zero) a b c bytes m h = b refl
no_other (suc (suc zero)) a b c bytes m h = c refl
no_other (suc (suc (suc tag))) a b c bytes m h = h

pub returns-in_default-clause-err : goal.returns-in_default-clause-err
returns-in_default-clause-err c =
    let tag = c.in_ok-de_bin.field-0 in
    let t0 : tag ≢ 0 = λ e. first_of (omega (arith, e), cc e, grind (arith, nat_tests, e)) in
    let t1 : tag ≢ 1 = λ e. first_of (omega (arith, e), cc e, grind (arith, nat_tests, e)) in
    let t2 : tag ≢ 2 = λ e. first_of (omega (arith, e), cc e, grind (arith, nat_tests, e)) in
    unknown_rejected variants c.args.bytes.now c.args.offset.now c.de_bin.new.offset tag _ c.in_ok-de_bin.ensures.ok (no_other tag t0 t1 t2) refl

pub returns-clause-ok : goal.returns-clause-ok
returns-clause-ok c =
    let bytes = c.args.bytes.now in
    let start = c.args.offset.now in
    let mid = c.de_bin.new.offset in
    elim c.match-branch-2.branch [
      | in-0 w ↦
          let tag = rw w.in-0.is at c.in_ok-de_bin.ensures.ok in
          rw (w.at-is, w.command-is) (variant_reads variants bytes start mid mid 0 _ tag (unit_reads _ _))
      | in-1+in_ok-steps-in-1 w ↦
          let tag = rw w.in-1.is at c.in_ok-de_bin.ensures.ok in
          rw (w.at-is, w.command-is) (variant_reads variants bytes start mid _ 1 _ tag w.in_ok-steps-in-1.ensures.ok)
      | in-2+in_ok-time-in-2 w ↦
          let tag = rw w.in-2.is at c.in_ok-de_bin.ensures.ok in
          rw (w.at-is, w.command-is) (variant_reads variants bytes start mid _ 2 _ tag w.in_ok-time-in-2.ensures.ok)
    ]
