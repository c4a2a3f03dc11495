use Rattle.std.proofs.Common.{◌≢◌, ◌<◌, ◌≤◌, ◌⊎◌, inl, inr, refl, arith}
use Rattle.nano_text.specs.String.{scalar, pair, unit_value}
use Rattle.nano_text.proofs.RemainingText.{remaining-first}
use Rattle.nano_text.proofs.Strings.{IfSome-from_SomeIff, unit_of_piece, paired, same_after_first}
use Rattle.nano_text.proofs.PlaceLaws.{moves_append}
use Rattle.std.proofs.Common.{ne_eqb}
use Rattle.nano_text.specs.Breaks.{is_backslash, is_letter_u, no_unit, trails, no_pair}
use Rattle.nano_text.specs.Breaks.{no_backslash, no_letter, no_second, no_trailing}
use Rattle.nano_text.proofs.RemainingText.{remaining_stop}
use Rattle.nano_text.proofs.string.take_unicode.Goals.{then-trail-lt56320-via-then-trail-lt56320}
use Rattle.nano_text.proofs.string.take_unicode.Goals.{then-trail-lt56320-via-else-trail-lt56320+then-trail-gt57343}
use Rattle.nano_text.proofs.string.take_unicode.Goals as goal
use Rattle.nano_text.proofs.string.take_unicode.Goals.{then-lead-lt55296-via-then-lead-lt55296}
use Rattle.nano_text.proofs.string.take_unicode.Goals.{then-lead-lt55296-via-else-lead-lt55296+then-lead-gt57343}
use Rattle.nano_text.proofs.string.take_unicode.Goals.{then-lead-gt56319-via-then-lead-gt56319}
use Rattle.nano_text.proofs.string.take_unicode.Goals.{then-lead-gt56319-via-else-lead-gt56319+then-p-ne92}

pub returns-in_err-lead-clause-none : goal.returns-in_err-lead-clause-none
returns-in_err-lead-clause-none c none piece rest good text =
    let unit = unit_of_piece piece _ rest good text in
    c.in_err-lead.ensures.none refl unit.0 unit.2 unit.1 unit.3

pub returns-then-lead-lt55296-clause-taken : goal.returns-then-lead-lt55296-clause-taken
returns-then-lead-lt55296-clause-taken c =
    let unit = c.in_ok-lead.ensures.taken in
    let alone : (unit_value unit.0 < 0xD800) ⊎ (0xE000 ≤ unit_value unit.0) = elim c.then-lead-lt55296.branch [
      | then-lead-lt55296-via-then-lead-lt55296 w ↦ inl (omega (arith, unit.2, w.if-lead-lt55296.true))
      | then-lead-lt55296-via-else-lead-lt55296+then-lead-gt57343 w ↦ inr (omega (arith, unit.2, w.if-lead-gt57343.true))
    ] in
    IfSome-from_SomeIff c.from_u32.result _ _ _ c.from_u32.ensures.value (scalar unit.0, (unit.1, alone), unit.2, rw unit.3 refl)

pub returns-then-lead-gt56319-clause-none : goal.returns-then-lead-gt56319-clause-none
returns-then-lead-gt56319-clause-none c none piece rest good text =
    let unit = c.in_ok-lead.ensures.taken in
    let low : 0xD800 ≤ unit_value unit.0 = omega (arith, unit.2, c.if-lead-lt55296.false) in
    let high : unit_value unit.0 < 0xE000 = omega (arith, unit.2, c.if-lead-gt57343.false) in
    let pair = paired piece unit.0 _ _ rest good text unit.3 low high in
    elim c.then-lead-gt56319.branch [
      | then-lead-gt56319-via-then-lead-gt56319 w ↦ omega (arith, unit.2, pair.leads, w.if-lead-gt56319.true)
      | then-lead-gt56319-via-else-lead-gt56319+then-p-ne92 w ↦ w.if-p-ne92.true (remaining-first c.take_code_unit.new.p.cur 92 c.take_code_unit.new.i _ pair.split)
    ]

pub returns-then-p-ne117-clause-none : goal.returns-then-p-ne117-clause-none
returns-then-p-ne117-clause-none c none piece rest good text =
    let unit = c.in_ok-lead.ensures.taken in
    let low : 0xD800 ≤ unit_value unit.0 = omega (arith, unit.2, c.if-lead-lt55296.false) in
    let high : unit_value unit.0 < 0xE000 = omega (arith, unit.2, c.if-lead-gt57343.false) in
    let pair = paired piece unit.0 _ _ rest good text unit.3 low high in
    let some : c.take_code_unit.new.p.cur ≢ 0 = λ e. omega (arith, e, c.if-p-ne92.false) in
    let following = same_after_first _ _ _ _ _ (c.next.ensures.taken some) pair.split in
    c.if-p-ne117.true (remaining-first c.next.new.self.cur 117 c.next.new.i _ following)

pub returns-in_err-trail-clause-none : goal.returns-in_err-trail-clause-none
returns-in_err-trail-clause-none c none piece rest good text =
    let unit = c.in_ok-lead.ensures.taken in
    let low : 0xD800 ≤ unit_value unit.0 = omega (arith, unit.2, c.if-lead-lt55296.false) in
    let high : unit_value unit.0 < 0xE000 = omega (arith, unit.2, c.if-lead-gt57343.false) in
    let pair = paired piece unit.0 _ _ rest good text unit.3 low high in
    let some : c.take_code_unit.new.p.cur ≢ 0 = λ e. omega (arith, e, c.if-p-ne92.false) in
    let following = same_after_first _ _ _ _ _ (c.next.ensures.taken some) pair.split in
    let more : c.next.new.self.cur ≢ 0 = λ e. omega (arith, e, c.if-p-ne117.false) in
    let digits = same_after_first _ _ _ _ _ (c.next-2.ensures.taken more) following in
    c.in_err-trail.ensures.none refl pair.trail rest pair.trail_hex digits

pub returns-clause-taken : goal.returns-clause-taken
returns-clause-taken c =
    let lead = c.in_ok-lead.ensures.taken in
    let trail = c.in_ok-trail.ensures.taken in
    let some : c.take_code_unit.new.p.cur ≢ 0 = λ e. omega (arith, e, c.if-p-ne92.false) in
    let more : c.next.new.self.cur ≢ 0 = λ e. omega (arith, e, c.if-p-ne117.false) in
    let bounds : (0xD800 ≤ unit_value lead.0) × (unit_value lead.0 < 0xDC00) × (0xDC00 ≤ unit_value trail.0) × (unit_value trail.0 < 0xE000) =
    (omega (arith, lead.2, c.if-lead-lt55296.false), omega (arith, lead.2, c.if-lead-gt56319.false), omega (arith, trail.2, c.if-trail-lt56320.false), omega (arith, trail.2, c.if-trail-gt57343.false)) in
    IfSome-from_SomeIff c.from_u32-2.result _ _ _ c.from_u32-2.ensures.value (
      pair lead.0 trail.0,
      (lead.1, trail.1, bounds.0, bounds.1, bounds.2, bounds.3),
      rw (lead.2, trail.2) refl,
      rw (lead.3, c.next.ensures.taken some, c.next-2.ensures.taken more, c.if-p-ne92.false, c.if-p-ne117.false, trail.3) refl,
    )

pub returns-in_err-lead-clause-place : goal.returns-in_err-lead-clause-place
returns-in_err-lead-clause-place c = c.in_err-lead.ensures.place

pub returns-then-lead-lt55296-clause-place : goal.returns-then-lead-lt55296-clause-place
returns-then-lead-lt55296-clause-place c = c.in_ok-lead.ensures.place

pub returns-then-lead-gt56319-clause-place : goal.returns-then-lead-gt56319-clause-place
returns-then-lead-gt56319-clause-place c = c.in_ok-lead.ensures.place

pub returns-then-p-ne117-clause-place : goal.returns-then-p-ne117-clause-place
returns-then-p-ne117-clause-place c =
    moves_append c.in_ok-lead.ensures.place (c.next.ensures.counts (λ e. omega (arith, e, c.if-p-ne92.false)))

pub returns-in_err-trail-clause-place : goal.returns-in_err-trail-clause-place
returns-in_err-trail-clause-place c =
    moves_append c.in_ok-lead.ensures.place (moves_append (c.next.ensures.counts (λ e. omega (arith, e, c.if-p-ne92.false)))
    (moves_append (c.next-2.ensures.counts (λ e. omega (arith, e, c.if-p-ne117.false))) c.in_err-trail.ensures.place))

pub returns-then-trail-lt56320-clause-place : goal.returns-then-trail-lt56320-clause-place
returns-then-trail-lt56320-clause-place c =
    moves_append c.in_ok-lead.ensures.place (moves_append (c.next.ensures.counts (λ e. omega (arith, e, c.if-p-ne92.false)))
    (moves_append (c.next-2.ensures.counts (λ e. omega (arith, e, c.if-p-ne117.false))) c.in_ok-trail.ensures.place))

pub returns-clause-place : goal.returns-clause-place
returns-clause-place c =
    moves_append c.in_ok-lead.ensures.place (moves_append (c.next.ensures.counts (λ e. omega (arith, e, c.if-p-ne92.false)))
    (moves_append (c.next-2.ensures.counts (λ e. omega (arith, e, c.if-p-ne117.false))) c.in_ok-trail.ensures.place))

pub returns-in_err-lead-clause-breaks : goal.returns-in_err-lead-clause-breaks
returns-in_err-lead-clause-breaks c none = no_unit (c.in_err-lead.ensures.breaks refl)

pub returns-then-lead-gt56319-clause-breaks : goal.returns-then-lead-gt56319-clause-breaks
returns-then-lead-gt56319-clause-breaks c none =
    let unit = c.in_ok-lead.ensures.taken in
    let low : 0xD800 ≤ unit_value unit.0 = omega (arith, unit.2, c.if-lead-lt55296.false) in
    let high : unit_value unit.0 < 0xE000 = omega (arith, unit.2, c.if-lead-gt57343.false) in
    elim c.then-lead-gt56319.branch [
      | then-lead-gt56319-via-then-lead-gt56319 w ↦
          trails unit.0 unit.1 (omega (arith, unit.2, w.if-lead-gt56319.true), high) unit.3
      | then-lead-gt56319-via-else-lead-gt56319+then-p-ne92 w ↦
          no_pair unit.0 _ unit.1 (low, omega (arith, unit.2, w.if-lead-gt56319.false)) unit.3
          (no_backslash refl (remaining_stop is_backslash c.take_code_unit.new.p.cur c.take_code_unit.new.i refl (ne_eqb _ 92 w.if-p-ne92.true)))
    ]

pub returns-then-p-ne117-clause-breaks : goal.returns-then-p-ne117-clause-breaks
returns-then-p-ne117-clause-breaks c none =
    let unit = c.in_ok-lead.ensures.taken in
    let low : 0xD800 ≤ unit_value unit.0 = omega (arith, unit.2, c.if-lead-lt55296.false) in
    let some : c.take_code_unit.new.p.cur ≢ 0 = λ e. omega (arith, e, c.if-p-ne92.false) in
    no_pair unit.0 _ unit.1 (low, omega (arith, unit.2, c.if-lead-gt56319.false)) unit.3
    (no_letter (rw (c.next.ensures.taken some, c.if-p-ne92.false) refl)
    (remaining_stop is_letter_u c.next.new.self.cur c.next.new.i refl (ne_eqb _ 117 c.if-p-ne117.true)))

pub returns-in_err-trail-clause-breaks : goal.returns-in_err-trail-clause-breaks
returns-in_err-trail-clause-breaks c none =
    let unit = c.in_ok-lead.ensures.taken in
    let low : 0xD800 ≤ unit_value unit.0 = omega (arith, unit.2, c.if-lead-lt55296.false) in
    let some : c.take_code_unit.new.p.cur ≢ 0 = λ e. omega (arith, e, c.if-p-ne92.false) in
    let more : c.next.new.self.cur ≢ 0 = λ e. omega (arith, e, c.if-p-ne117.false) in
    no_pair unit.0 _ unit.1 (low, omega (arith, unit.2, c.if-lead-gt56319.false)) unit.3
    (no_second _ (rw (c.next.ensures.taken some, c.next-2.ensures.taken more, c.if-p-ne92.false, c.if-p-ne117.false) refl)
    (c.in_err-trail.ensures.breaks refl))

pub returns-then-trail-lt56320-clause-breaks : goal.returns-then-trail-lt56320-clause-breaks
returns-then-trail-lt56320-clause-breaks c none =
    let unit = c.in_ok-lead.ensures.taken in
    let trail = c.in_ok-trail.ensures.taken in
    let low : 0xD800 ≤ unit_value unit.0 = omega (arith, unit.2, c.if-lead-lt55296.false) in
    let some : c.take_code_unit.new.p.cur ≢ 0 = λ e. omega (arith, e, c.if-p-ne92.false) in
    let more : c.next.new.self.cur ≢ 0 = λ e. omega (arith, e, c.if-p-ne117.false) in
    no_pair unit.0 _ unit.1 (low, omega (arith, unit.2, c.if-lead-gt56319.false)) unit.3
    (no_trailing trail.0 trail.1 (λ trails. elim c.then-trail-lt56320.branch [
      | then-trail-lt56320-via-then-trail-lt56320 w ↦ omega (arith, trail.2, trails.0, w.if-trail-lt56320.true)
      | then-trail-lt56320-via-else-trail-lt56320+then-trail-gt57343 w ↦ omega (arith, trail.2, trails.1, w.if-trail-gt57343.true)
    ]) (rw (c.next.ensures.taken some, c.next-2.ensures.taken more, c.if-p-ne92.false, c.if-p-ne117.false, trail.3) refl))
