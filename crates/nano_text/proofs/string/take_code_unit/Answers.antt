use Rattle.std.proofs.Common.{refl}
use Rattle.nano_text.proofs.Strings.{same_after_first}
use Rattle.nano_text.proofs.PlaceLaws.{moves_append}
use Rattle.std.proofs.Common.{◌∷◌, [], arith}
use Rattle.nano_text.proofs.BreaksLaws.{unit_breaks}
use Rattle.nano_text.proofs.string.take_code_unit.Goals as goal

pub returns-in_err-first-clause-none : goal.returns-in_err-first-clause-none
returns-in_err-first-clause-none c none unit rest hex text = c.in_err-first.ensures.none refl unit.a _ hex.0 text

pub returns-in_err-second-clause-none : goal.returns-in_err-second-clause-none
returns-in_err-second-clause-none c none unit rest hex text =
    let text1 = same_after_first _ _ _ _ _ c.in_ok-first.ensures.taken text in
    c.in_err-second.ensures.none refl unit.b _ hex.1 text1

pub returns-in_err-third-clause-none : goal.returns-in_err-third-clause-none
returns-in_err-third-clause-none c none unit rest hex text =
    let text1 = same_after_first _ _ _ _ _ c.in_ok-first.ensures.taken text in
    let text2 = same_after_first _ _ _ _ _ c.in_ok-second.ensures.taken text1 in
    c.in_err-third.ensures.none refl unit.c _ hex.2 text2

pub returns-in_err-fourth-clause-none : goal.returns-in_err-fourth-clause-none
returns-in_err-fourth-clause-none c none unit rest hex text =
    let text1 = same_after_first _ _ _ _ _ c.in_ok-first.ensures.taken text in
    let text2 = same_after_first _ _ _ _ _ c.in_ok-second.ensures.taken text1 in
    let text3 = same_after_first _ _ _ _ _ c.in_ok-third.ensures.taken text2 in
    c.in_err-fourth.ensures.none refl unit.d _ hex.3 text3

pub returns-clause-taken : goal.returns-clause-taken
returns-clause-taken c = (
  record { a = c.args.p.now.cur; b = c.take_hex_digit.new.p.cur; c = c.take_hex_digit-2.new.p.cur; d = c.take_hex_digit-3.new.p.cur },
  (c.in_ok-first.ensures.digit.0, c.in_ok-second.ensures.digit.0, c.in_ok-third.ensures.digit.0, c.in_ok-fourth.ensures.digit.0),
  rw (c.in_ok-first.ensures.digit.1, c.in_ok-second.ensures.digit.1, c.in_ok-third.ensures.digit.1, c.in_ok-fourth.ensures.digit.1) refl,
  rw (c.in_ok-first.ensures.taken, c.in_ok-second.ensures.taken, c.in_ok-third.ensures.taken, c.in_ok-fourth.ensures.taken) refl,
)

pub returns-in_err-first-clause-place : goal.returns-in_err-first-clause-place
returns-in_err-first-clause-place c = c.in_err-first.ensures.place

pub returns-in_err-second-clause-place : goal.returns-in_err-second-clause-place
returns-in_err-second-clause-place c = moves_append c.in_ok-first.ensures.place c.in_err-second.ensures.place

pub returns-in_err-third-clause-place : goal.returns-in_err-third-clause-place
returns-in_err-third-clause-place c =
    moves_append c.in_ok-first.ensures.place (moves_append c.in_ok-second.ensures.place c.in_err-third.ensures.place)

pub returns-in_err-fourth-clause-place : goal.returns-in_err-fourth-clause-place
returns-in_err-fourth-clause-place c =
    moves_append c.in_ok-first.ensures.place (moves_append c.in_ok-second.ensures.place
    (moves_append c.in_ok-third.ensures.place c.in_err-fourth.ensures.place))

pub returns-clause-place : goal.returns-clause-place
returns-clause-place c =
    moves_append c.in_ok-first.ensures.place (moves_append c.in_ok-second.ensures.place
    (moves_append c.in_ok-third.ensures.place c.in_ok-fourth.ensures.place))

pub returns-in_err-first-clause-breaks : goal.returns-in_err-first-clause-breaks
returns-in_err-first-clause-breaks c none =
    let same = c.in_err-first.ensures.unchanged refl in
    unit_breaks _ _ _ [] tt (omega arith) refl (rw (same.0, same.1) refl) (c.in_err-first.ensures.none refl)

pub returns-in_err-second-clause-breaks : goal.returns-in_err-second-clause-breaks
returns-in_err-second-clause-breaks c none =
    let same = c.in_err-second.ensures.unchanged refl in
    unit_breaks _ _ _ (c.args.p.now.cur ∷ []) (c.in_ok-first.ensures.digit.0, tt) (omega arith)
    c.in_ok-first.ensures.taken (rw (same.0, same.1) refl) (c.in_err-second.ensures.none refl)

pub returns-in_err-third-clause-breaks : goal.returns-in_err-third-clause-breaks
returns-in_err-third-clause-breaks c none =
    let same = c.in_err-third.ensures.unchanged refl in
    unit_breaks _ _ _ (c.args.p.now.cur ∷ (c.take_hex_digit.new.p.cur ∷ []))
    (c.in_ok-first.ensures.digit.0, (c.in_ok-second.ensures.digit.0, tt)) (omega arith)
    (rw (c.in_ok-first.ensures.taken, c.in_ok-second.ensures.taken) refl) (rw (same.0, same.1) refl) (c.in_err-third.ensures.none refl)

pub returns-in_err-fourth-clause-breaks : goal.returns-in_err-fourth-clause-breaks
returns-in_err-fourth-clause-breaks c none =
    let same = c.in_err-fourth.ensures.unchanged refl in
    unit_breaks _ _ _ (c.args.p.now.cur ∷ (c.take_hex_digit.new.p.cur ∷ (c.take_hex_digit-2.new.p.cur ∷ [])))
    (c.in_ok-first.ensures.digit.0, (c.in_ok-second.ensures.digit.0, (c.in_ok-third.ensures.digit.0, tt))) (omega arith)
    (rw (c.in_ok-first.ensures.taken, c.in_ok-second.ensures.taken, c.in_ok-third.ensures.taken) refl) (rw (same.0, same.1) refl)
    (c.in_err-fourth.ensures.none refl)
