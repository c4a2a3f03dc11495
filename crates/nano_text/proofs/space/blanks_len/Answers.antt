use Rattle.std.proofs.Common.{◌≡◌, ℕ, ◌+◌, ◌-◌, ◌∙◌, ap, arith, length, length-drop}
use Rattle.std.proofs.Common.{List, sym, take, drop, take_all}
use Rattle.nano_text.specs.Characters.{prefix}
use Rattle.nano_text.specs.Scan.{is_blank}
use Rattle.nano_text.proofs.Prefixes.{prefix_fits, prefix_past, prefix_ends}
use Rattle.nano_text.proofs.Spaces.{blank_to}
use Rattle.nano_text.proofs.space.blanks_len.Goals as goal

pub returns-then-blanks-lt-LANES : goal.returns-then-blanks-lt-LANES
returns-then-blanks-lt-LANES c =
    let bytes = c.args.bytes.now in
    let run = c.blank_lanes-blanks.ensures in
    let lanes_fit = c.lanes-test.true in
    sym (prefix_ends is_blank bytes (c.lanes.len + c.blank_lanes-blanks.result)
    (omega (arith, lanes_fit, c.if-blanks-lt-LANES.true, c.lanes.invariant.within))
    (blank_to bytes c.lanes.len c.blank_lanes-blanks.result c.lanes.invariant.blanks run.blanks)
    (run.stops c.if-blanks-lt-LANES.true))

pub overflow_add-result : goal.overflow_add-result
overflow_add-result c =
    let bytes = c.args.bytes.now in
    let n = c.lanes.len in
    let few = prefix_fits is_blank (take (length bytes - n) (drop n bytes)) in
    let rest : take (length bytes - n) (drop n bytes) ≡ drop n bytes =
    take_all (length bytes - n) (drop n bytes) (omega (arith, length-drop n bytes)) in
    record { fits = omega (arith, c.few_blanks.ensures, few, ap length rest, length-drop n bytes, c.lanes.invariant.within) }

pub returns : goal.returns
returns c =
    let bytes = c.args.bytes.now in
    let n = c.lanes.len in
    let past = prefix_past is_blank bytes n c.lanes.invariant.within c.lanes.invariant.blanks in
    let rest : take (length bytes - n) (drop n bytes) ≡ drop n bytes =
    take_all (length bytes - n) (drop n bytes) (omega (arith, length-drop n bytes)) in
    let more = c.few_blanks.ensures ∙ ap (λ (l : List ℕ). length (prefix is_blank l)) rest in
    omega (arith, past, more)
