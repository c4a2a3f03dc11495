use Rattle.std.proofs.Common.{◌≡◌, ◌+◌, ◌≤◌, refl, Err, drop, sym, ◌∙◌, subst, ap, arith}
use Rattle.std.proofs.lemmas.Result.{err_from_is_err_and}
use Rattle.nano_value.specs.Meaning.{whole}
use Rattle.nano_value.specs.Sums.{tagged, count_variants}
use Rattle.nano_bin_bytes.specs.Scalars.{EncodesUnsigned}
use Rattle.nano_bin_bytes.specs.Reading.{Decodes}
use Rattle.nano_bin_bytes.specs.Variants.{legal_bodies, EncodesEnum}
use Rattle.nano_bin.proofs.Readers.{unsigned_reads, nothing_short}
use Rattle.nano_bin.proofs.Variants.{variant_reads, content_nothing, tag_rejected}
use Rattle.nano_bin_nested.proofs.ChoiceReaders.{one_tag, unknown_content}
use Rattle.nano_bin_nested.proofs.choice.read_choice_within.Goals as goal

pub returns-in_err-tag-clause-err : goal.returns-in_err-tag-clause-err
returns-in_err-tag-clause-err g c =
    let p = err_from_is_err_and c.from_residual.result c.from_residual.ensures.1 in
    let vs = g.V.BinChoicesWithin.chosen.bodies in
    rw (p.1, p.2) (tag_rejected vs c.args.bytes.now c.args.offset.now _ _ c.in_err-tag.ensures.err.none)

pub returns-in_err-values-clause-err : goal.returns-in_err-values-clause-err
returns-in_err-values-clause-err g c =
    let p = err_from_is_err_and c.from_residual-in_err-values.result c.from_residual-in_err-values.ensures.1 in
    let vs = g.V.BinChoicesWithin.chosen.bodies in
    let tag = c.in_ok-tag.ensures.ok in
    let none = c.in_err-values.ensures.err in
    let moved = tag.moved in
    rw (p.1, p.2) (record {
      rejects = λ more other fits. content_nothing vs c.args.bytes.now c.args.offset.now _ c.in_ok-tag.tag more tag (none.rejects more other fits);
      report = none.report (omega (arith, moved));
      unchanged = refl;
    })

pub returns-clause-ok : goal.returns-clause-ok
returns-clause-ok g c =
    let vs = g.V.BinChoicesWithin.chosen.bodies in
    let r = c.in_ok-values.ensures.ok in
    let tag = c.in_ok-tag.tag in
    let e : tag + 0 ≡ tag = omega arith in
    let means = r.meant 0 ∙ ap (λ n. tagged n r.content) e in
    rw c.make.ensures (subst (λ m. Decodes (EncodesEnum vs) c.args.bytes.now c.args.offset.now m c.read.new.offset) (sym means) (variant_reads vs c.args.bytes.now c.args.offset.now _ c.read.new.offset tag r.content c.in_ok-tag.ensures.ok r.reads))

pub returns-in_err-tag-clause-own : goal.returns-in_err-tag-clause-own
returns-in_err-tag-clause-own g c = λ h.
    let start = c.args.offset.now in
    let bytes = c.args.bytes.now in
    absurd (nothing_short (EncodesUnsigned 2) c.in_err-tag.ensures.err (whole h.tag) (record { prefix = h.stands.prefix; rest = drop h.end bytes; whole = h.stands.whole; is_encoded = record { part = h.tag; has = h.stands.is_encoded; is = refl } }))

pub returns-in_err-values-clause-own : goal.returns-in_err-values-clause-own
returns-in_err-values-clause-own g c =
    let p = err_from_is_err_and c.from_residual-in_err-values.result c.from_residual-in_err-values.ensures.1 in
    let vs = g.V.BinChoicesWithin.chosen.bodies in
    let start = c.args.offset.now in
    let bytes = c.args.bytes.now in
    let tag = c.in_ok-tag.tag in
    rw (p.1, p.2) (λ h.
    let same = one_tag bytes start h.end _ h.tag tag h.stands (unsigned_reads 2 bytes start _ tag c.in_ok-tag.ensures.ok) in
    ap Err (c.in_err-values.ensures.err.own (subst (λ t. count_variants (legal_bodies vs) ≤ t) same h.unknown)))

pub returns-clause-own : goal.returns-clause-own
returns-clause-own g c = λ h.
    let vs = g.V.BinChoicesWithin.chosen.bodies in
    let start = c.args.offset.now in
    let bytes = c.args.bytes.now in
    let tag = c.in_ok-tag.tag in
    let r = c.in_ok-values.ensures.ok in
    let same = one_tag bytes start h.end _ h.tag tag h.stands (unsigned_reads 2 bytes start _ tag c.in_ok-tag.ensures.ok) in
    let unknown = subst (λ t. count_variants (legal_bodies vs) ≤ t) same h.unknown in
    absurd (unknown_content vs tag unknown r.reads.prefix r.content r.reads.is_encoded)
