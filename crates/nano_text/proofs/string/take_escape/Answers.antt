use Rattle.std.proofs.Common.{◌≡◌, ◌≢◌, ◌∷◌, [], refl, sym, ◌∙◌, arith}
use Rattle.nano_text.specs.Place.{text_at}
use Rattle.nano_text.specs.String.{escaped}
use Rattle.nano_text.proofs.RemainingText.{remaining_end}
use Rattle.nano_text.proofs.Strings.{piece_longer}
use Rattle.nano_text.proofs.PlaceLaws.{moves_append}
use Rattle.nano_text.specs.Breaks.{unicode, nothing}
use Rattle.nano_text.proofs.string.take_escape.Goals as goal

pub returns-then-p-eq0-clause-none : goal.returns-then-p-eq0-clause-none
returns-then-p-eq0-clause-none c none piece rest good text =
    let some : c.args.p.now.cur ≢ 0 = λ e. omega (arith, e, c.requires) in
    let at_end : text_at c.next.new.self c.next.new.i ≡ [] = rw c.if-p-eq0.true (remaining_end c.next.new.i) in
    let alone : text_at c.args.p.now c.args.i.now ≡ 92 ∷ [] = rw (c.next.ensures.taken some, at_end, c.requires) refl in
    piece_longer piece rest good (sym alone ∙ text)

pub returns-clause-taken : goal.returns-clause-taken
returns-clause-taken c =
    let some : c.args.p.now.cur ≢ 0 = λ e. omega (arith, e, c.requires) in
    (escaped c.next.new.self.cur, (c.if-p-eq117.false, c.if-p-eq0.false), c.escaped_char-c.ensures, rw (c.next.ensures.taken some, c.next-2.ensures.taken c.if-p-eq0.false, c.requires) refl)

pub returns-then-p-eq117-clause-place : goal.returns-then-p-eq117-clause-place
returns-then-p-eq117-clause-place c =
    moves_append (c.next.ensures.counts (λ e. omega (arith, e, c.requires)))
    (moves_append (c.next-then-p-eq117.ensures.counts (λ e. omega (arith, e, c.if-p-eq117.true))) c.take_unicode.ensures.place)

pub returns-then-p-eq0-clause-place : goal.returns-then-p-eq0-clause-place
returns-then-p-eq0-clause-place c = c.next.ensures.counts (λ e. omega (arith, e, c.requires))

pub returns-clause-place : goal.returns-clause-place
returns-clause-place c =
    moves_append (c.next.ensures.counts (λ e. omega (arith, e, c.requires))) (c.next-2.ensures.counts c.if-p-eq0.false)

pub returns-then-p-eq117-clause-breaks : goal.returns-then-p-eq117-clause-breaks
returns-then-p-eq117-clause-breaks c none =
    let some : c.args.p.now.cur ≢ 0 = λ e. omega (arith, e, c.requires) in
    let more : c.next.new.self.cur ≢ 0 = λ e. omega (arith, e, c.if-p-eq117.true) in (
      text_at c.next.new.self c.next.new.i,
      rw (c.next.ensures.taken some, c.requires) refl,
      unicode (text_at c.next-then-p-eq117.new.self c.next-then-p-eq117.new.i) (rw (c.next-then-p-eq117.ensures.taken more, c.if-p-eq117.true) refl) (c.take_unicode.ensures.breaks none),
    )

pub returns-then-p-eq0-clause-breaks : goal.returns-then-p-eq0-clause-breaks
returns-then-p-eq0-clause-breaks c none =
    let some : c.args.p.now.cur ≢ 0 = λ e. omega (arith, e, c.requires) in
    let at_end : text_at c.next.new.self c.next.new.i ≡ [] = rw c.if-p-eq0.true (remaining_end c.next.new.i) in
    (text_at c.next.new.self c.next.new.i, rw (c.next.ensures.taken some, c.requires) refl, nothing at_end at_end)
