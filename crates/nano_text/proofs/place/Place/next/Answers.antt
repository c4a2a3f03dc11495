use Rattle.std.proofs.Common.{◌≡◌, rules, refl, subst, IsUtf8, ne_eqb}
use Rattle.nano_text.specs.Place.{held, tail, place_after}
use Rattle.nano_text.proofs.PlaceLaws.{passes_next, moves_next}
use Rattle.nano_text.proofs.RemainingText.{held_next, held_none, remaining_next, remaining_last}
use Rattle.nano_text.proofs.RemainingText.{remaining_taken, remaining_none}
use Rattle.nano_text.proofs.place.Place.next.Goals as goal

pub returns-then-c-eq10-clause-place : goal.returns-then-c-eq10-clause-place
returns-then-c-eq10-clause-place c =
    let text = subst IsUtf8 c.as_str-text.ensures c.as_str-text.utf8 in
    let e = held_next c.args.i.now c.next.new.self c.in-Some.c text c.in-Some.ensures.steps.0 in
    rw (e, c.if-c-eq10.true, c.saturating_add-self.ensures) refl

pub returns-then-c-eq10-clause-held : goal.returns-then-c-eq10-clause-held
returns-then-c-eq10-clause-held c =
    let text = subst IsUtf8 c.as_str-text.ensures c.as_str-text.utf8 in
    rw (held_next c.args.i.now c.next.new.self c.in-Some.c text c.in-Some.ensures.steps.0) refl

pub returns-else-c-eq10-clause-place : goal.returns-else-c-eq10-clause-place
returns-else-c-eq10-clause-place c =
    let text = subst IsUtf8 c.as_str-text.ensures c.as_str-text.utf8 in
    let e = held_next c.args.i.now c.next.new.self c.in-Some.c text c.in-Some.ensures.steps.0 in
    rw (e, ne_eqb c.in-Some.c 10 c.if-c-eq10.false, c.saturating_add-self-else-c-eq10.ensures) refl

pub returns-else-c-eq10-clause-held : goal.returns-else-c-eq10-clause-held
returns-else-c-eq10-clause-held c =
    let text = subst IsUtf8 c.as_str-text.ensures c.as_str-text.utf8 in
    rw (held_next c.args.i.now c.next.new.self c.in-Some.c text c.in-Some.ensures.steps.0) refl

pub returns-then-c-eq10-clause-taken : goal.returns-then-c-eq10-clause-taken
returns-then-c-eq10-clause-taken c =
    let text = subst IsUtf8 c.as_str-text.ensures c.as_str-text.utf8 in
    remaining_next _ _ _ _ (held_next c.args.i.now c.next.new.self c.in-Some.c text c.in-Some.ensures.steps.0)

pub returns-else-c-eq10-clause-taken : goal.returns-else-c-eq10-clause-taken
returns-else-c-eq10-clause-taken c =
    let text = subst IsUtf8 c.as_str-text.ensures c.as_str-text.utf8 in
    remaining_next _ _ _ _ (held_next c.args.i.now c.next.new.self c.in-Some.c text c.in-Some.ensures.steps.0)

pub returns-in-None-clause-taken : goal.returns-in-None-clause-taken
returns-in-None-clause-taken c = remaining_last _ _ _ (held_none c.args.i.now c.in-None.ensures.steps.0.0)

pub returns-then-c-eq10-clause-rest : goal.returns-then-c-eq10-clause-rest
returns-then-c-eq10-clause-rest c =
    let text = subst IsUtf8 c.as_str-text.ensures c.as_str-text.utf8 in
    remaining_taken c.in-Some.c c.args.i.now c.next.new.self (held_next c.args.i.now c.next.new.self c.in-Some.c text c.in-Some.ensures.steps.0)

pub returns-else-c-eq10-clause-rest : goal.returns-else-c-eq10-clause-rest
returns-else-c-eq10-clause-rest c =
    let text = subst IsUtf8 c.as_str-text.ensures c.as_str-text.utf8 in
    remaining_taken c.in-Some.c c.args.i.now c.next.new.self (held_next c.args.i.now c.next.new.self c.in-Some.c text c.in-Some.ensures.steps.0)

pub returns-in-None-clause-rest : goal.returns-in-None-clause-rest
returns-in-None-clause-rest c = remaining_none c.args.i.now c.next.new.self (held_none c.args.i.now c.in-None.ensures.steps.0.0)

pub returns-then-c-eq10-clause-passes : goal.returns-then-c-eq10-clause-passes
returns-then-c-eq10-clause-passes c =
    passes_next _ _ _ _ (returns-then-c-eq10-clause-place c) (returns-then-c-eq10-clause-held c)

pub returns-else-c-eq10-clause-passes : goal.returns-else-c-eq10-clause-passes
returns-else-c-eq10-clause-passes c =
    passes_next _ _ _ _ (returns-else-c-eq10-clause-place c) (returns-else-c-eq10-clause-held c)

pub returns-then-c-eq10-clause-counts : goal.returns-then-c-eq10-clause-counts
returns-then-c-eq10-clause-counts c some =
    moves_next _ _ _ _ (returns-then-c-eq10-clause-passes c) (returns-then-c-eq10-clause-held c)
    (returns-then-c-eq10-clause-taken c some)

pub returns-else-c-eq10-clause-counts : goal.returns-else-c-eq10-clause-counts
returns-else-c-eq10-clause-counts c some =
    moves_next _ _ _ _ (returns-else-c-eq10-clause-passes c) (returns-else-c-eq10-clause-held c)
    (returns-else-c-eq10-clause-taken c some)

pub returns-in-None-clause-counts : goal.returns-in-None-clause-counts
returns-in-None-clause-counts c some =
    let none = held_none c.args.i.now c.in-None.ensures.steps.0.0 in
    let place : record c.args.self.now { cur = 0 } ≡ place_after c.args.self.now (held c.args.i.now) = rw none refl in
    let left : held c.next.new.self ≡ tail (held c.args.i.now) = search rules in
    moves_next _ _ _ _ (passes_next _ _ _ _ place left) left (returns-in-None-clause-taken c some)
