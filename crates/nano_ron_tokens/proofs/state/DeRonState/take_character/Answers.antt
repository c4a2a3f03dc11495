use Rattle.std.proofs.Common.{◌≡◌, [], arith, refl, subst, ne_eqb}
use Rattle.nano_text.specs.Place.{remaining}
use Rattle.nano_text.specs.Breaks.{is_backslash}
use Rattle.nano_text.proofs.RemainingText.{remaining_stop, remaining_end}
use Rattle.nano_ron_tokens.specs.Breaks.{Opens, itself, escaped, ended, unclosed, is_apostrophe}
use Rattle.nano_text.proofs.PlaceLaws.{moves_append}
use Rattle.nano_ron_tokens.specs.Outcomes.{Moved}
use Rattle.nano_ron_tokens.proofs.state.DeRonState.take_character.Goals.{then-self-eq92}
use Rattle.nano_ron_tokens.proofs.state.DeRonState.take_character.Goals.{else-self-eq92}
use Rattle.nano_ron_tokens.proofs.state.DeRonState.take_character.Goals as goal

pub returns-then-c-eq0-clause-place : goal.returns-then-c-eq0-clause-place
returns-then-c-eq0-clause-place c =
    let first = c.next.ensures.counts (λ e. omega (arith, e, c.requires)) in
    elim c.if-self-eq92.branch [
      | then-self-eq92 w ↦ rw (w.self-is, w.i-is)
          (moves_append first (w.next-then-self-eq92.ensures.counts (λ e. omega (arith, e, w.if-self-eq92.true))))
      | else-self-eq92 w ↦ rw (w.self-is, w.i-is) first
    ]

pub returns-then-self-ne39-clause-place : goal.returns-then-self-ne39-clause-place
returns-then-self-ne39-clause-place c =
    let first = c.next.ensures.counts (λ e. omega (arith, e, c.requires)) in
    let following : Moved c.args.self.now c.args.i.now c.if-self-eq92.self c.if-self-eq92.i = elim c.if-self-eq92.branch [
      | then-self-eq92 w ↦ rw (w.self-is, w.i-is)
          (moves_append first (w.next-then-self-eq92.ensures.counts (λ e. omega (arith, e, w.if-self-eq92.true))))
      | else-self-eq92 w ↦ rw (w.self-is, w.i-is) first
    ] in
    moves_append following (c.next-2.ensures.counts c.if-c-eq0.false)

pub returns-clause-place : goal.returns-clause-place
returns-clause-place c =
    let first = c.next.ensures.counts (λ e. omega (arith, e, c.requires)) in
    let following : Moved c.args.self.now c.args.i.now c.if-self-eq92.self c.if-self-eq92.i = elim c.if-self-eq92.branch [
      | then-self-eq92 w ↦ rw (w.self-is, w.i-is)
          (moves_append first (w.next-then-self-eq92.ensures.counts (λ e. omega (arith, e, w.if-self-eq92.true))))
      | else-self-eq92 w ↦ rw (w.self-is, w.i-is) first
    ] in
    moves_append (moves_append following (c.next-2.ensures.counts c.if-c-eq0.false))
    (c.next-3.ensures.counts (λ e. omega (arith, e, c.if-self-ne39.false)))

pub returns-then-c-eq0-clause-broken : goal.returns-then-c-eq0-clause-broken
returns-then-c-eq0-clause-broken c =
    let first = c.next.ensures.taken (λ e. omega (arith, e, c.requires)) in
    let text = remaining c.args.self.now.cur c.args.i.now in
    let opens : Opens text (remaining c.if-self-eq92.self.cur c.if-self-eq92.i) = elim c.if-self-eq92.branch [
      | then-self-eq92 w ↦ rw (w.self-is, w.i-is)
          (escaped (rw (first, c.requires, w.next-then-self-eq92.ensures.taken (λ e. omega (arith, e, w.if-self-eq92.true)), w.if-self-eq92.true) refl))
      | else-self-eq92 w ↦ rw (w.self-is, w.i-is)
          (itself (rw (first, c.requires) refl) (remaining_stop is_backslash c.next.new.self.cur c.next.new.i refl (ne_eqb _ 92 w.if-self-eq92.false)))
    ] in
    let end : remaining c.if-self-eq92.self.cur c.if-self-eq92.i ≡ [] = rw c.if-c-eq0.true (remaining_end c.if-self-eq92.i) in
    ended (subst (Opens text) end opens) end

pub returns-then-self-ne39-clause-broken : goal.returns-then-self-ne39-clause-broken
returns-then-self-ne39-clause-broken c =
    let first = c.next.ensures.taken (λ e. omega (arith, e, c.requires)) in
    let text = remaining c.args.self.now.cur c.args.i.now in
    let opens : Opens text (remaining c.if-self-eq92.self.cur c.if-self-eq92.i) = elim c.if-self-eq92.branch [
      | then-self-eq92 w ↦ rw (w.self-is, w.i-is)
          (escaped (rw (first, c.requires, w.next-then-self-eq92.ensures.taken (λ e. omega (arith, e, w.if-self-eq92.true)), w.if-self-eq92.true) refl))
      | else-self-eq92 w ↦ rw (w.self-is, w.i-is)
          (itself (rw (first, c.requires) refl) (remaining_stop is_backslash c.next.new.self.cur c.next.new.i refl (ne_eqb _ 92 w.if-self-eq92.false)))
    ] in
    unclosed c.if-self-eq92.self.cur (subst (Opens text) (c.next-2.ensures.taken c.if-c-eq0.false) opens)
    (remaining_stop is_apostrophe c.next-2.new.self.cur c.next-2.new.i refl (ne_eqb _ 39 c.if-self-ne39.true))
