use Rattle.std.proofs.Common.{◌≡◌, ℕ, ◌+◌, ◌-◌, ◌≤◌, ◌∙◌, List, ap, sym, subst, arith, drop, take}
use Rattle.std.proofs.Common.{length}
use Rattle.std.proofs.Common.{length-drop, take_all}
use Rattle.std.proofs.lemmas.List.Sums.{count_by-le-length}
use Rattle.nano_text.specs.Characters.{prefix}
use Rattle.nano_text.specs.Place.{begins_character}
use Rattle.nano_text.specs.String.{is_plain_in_line}
use Rattle.nano_text.proofs.Measured.{IsMeasuredTo, measured_by, measured_all}
use Rattle.nano_text.proofs.Prefixes.{prefix_fits}
use Rattle.nano_text.proofs.body.line_run.Goals as goal

pub returns-then-lanes-lt-LANES-clause-len : goal.returns-then-lanes-lt-LANES-clause-len
returns-then-lanes-lt-LANES-clause-len c =
    let bytes = c.args.bytes.now in
    let lanes = c.plain_lanes-lanes in
    let inside : c.lanes.len + lanes.result.len ≤ length bytes = omega (arith, c.lanes-test.true, c.lanes.invariant.within, lanes.ensures.within) in
    let more = measured_by bytes c.lanes.len c.lanes.columns lanes.result.len c.lanes.invariant inside lanes.ensures.plain in
    (measured_all bytes _ _ more (omega (arith, c.lanes-test.true, c.lanes.invariant.within, c.if-lanes-lt-LANES.true)) (lanes.ensures.stops c.if-lanes-lt-LANES.true)).0

pub returns-then-lanes-lt-LANES-clause-columns : goal.returns-then-lanes-lt-LANES-clause-columns
returns-then-lanes-lt-LANES-clause-columns c =
    let bytes = c.args.bytes.now in
    let lanes = c.plain_lanes-lanes in
    let inside : c.lanes.len + lanes.result.len ≤ length bytes = omega (arith, c.lanes-test.true, c.lanes.invariant.within, lanes.ensures.within) in
    let more = measured_by bytes c.lanes.len c.lanes.columns lanes.result.len c.lanes.invariant inside lanes.ensures.plain in
    let all = (measured_all bytes _ _ more (omega (arith, c.lanes-test.true, c.lanes.invariant.within, c.if-lanes-lt-LANES.true)) (lanes.ensures.stops c.if-lanes-lt-LANES.true)).1 in
    ap (λ n. c.lanes.columns + n) lanes.ensures.columns ∙ all

pub lanes-preserved : goal.lanes-preserved
lanes-preserved c =
    let bytes = c.args.bytes.now in
    let lanes = c.plain_lanes-lanes in
    let inside : c.lanes.len + lanes.result.len ≤ length bytes = omega (arith, c.lanes-test.true, c.lanes.invariant.within, lanes.ensures.within) in
    let more = measured_by bytes c.lanes.len c.lanes.columns lanes.result.len c.lanes.invariant inside lanes.ensures.plain in
    let whole : lanes.result.len ≡ 16 = omega (arith, lanes.ensures.within, c.if-lanes-lt-LANES.false) in
    subst (λ n. IsMeasuredTo bytes (c.lanes.len + n) (c.lanes.columns + lanes.result.columns)) whole
    (subst (λ n. IsMeasuredTo bytes (c.lanes.len + lanes.result.len) (c.lanes.columns + n)) (sym lanes.ensures.columns) more)

-- what is left is no longer than the bytes
left : (bytes : List ℕ) (n : ℕ) → take (length bytes - n) (drop n bytes) ≡ drop n bytes
left bytes n = take_all (length bytes - n) (drop n bytes) (omega (arith, length-drop n bytes))

pub overflow_add-result : goal.overflow_add-result
overflow_add-result c =
    let bytes = c.args.bytes.now in
    let n = c.lanes.len in
    let few = prefix_fits is_plain_in_line (take (length bytes - n) (drop n bytes)) in
    record { fits = omega (arith, c.last_run-rest.ensures.len, few, ap length (left bytes n), length-drop n bytes, c.lanes.invariant.within) }

pub overflow_add-result-2 : goal.overflow_add-result-2
overflow_add-result-2 c =
    let bytes = c.args.bytes.now in
    let n = c.lanes.len in
    let rest = take (length bytes - n) (drop n bytes) in
    let few = prefix_fits is_plain_in_line rest in
    let fewer = count_by-le-length begins_character (prefix is_plain_in_line rest) in
    record { fits = omega (arith, c.last_run-rest.ensures.columns, few, fewer, ap length (left bytes n), length-drop n bytes, c.lanes.invariant.within, c.lanes.invariant.few) }
