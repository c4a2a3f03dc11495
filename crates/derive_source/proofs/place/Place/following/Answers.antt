use Rattle.std.proofs.Common.{◌∙◌, ap, sym, arith, chars}
use Rattle.std.proofs.lemmas.Iterator.{YieldsList-from_chars}
use Rattle.std.proofs.lemmas.Iterator.Consumers.{YieldsList-turn, YieldsList-end}
use Rattle.std.proofs.lemmas.List.{map-id}
use Rattle.derive_source.specs.Place.{line_of, column_of}
use Rattle.derive_source.proofs.Places.{line_of-feed, line_of-other, column_of-feed}
use Rattle.derive_source.proofs.Places.{column_of-other, line_fits, column_fits, length_chars}
use Rattle.derive_source.proofs.place.Place.following.Goals as goal

pub overflow_add-line : goal.overflow_add-line
overflow_add-line c =
    let text = c.args.before.now in
    let chain = YieldsList-from_chars text c.utf8.before (cc) in
    let turn = YieldsList-turn chain c.loop-c.yielded _ c.loop-c.yielded_by _ _ c.in-Some.c c.in-Some.is c.next.ensures.steps in
    line_fits c.loop-c.yielded (chars text) c.loop-c.line turn.0 c.loop-c.invariant.0
    (omega (arith, length_chars text c.utf8.before, c.type_inv.before))

pub overflow_add-column : goal.overflow_add-column
overflow_add-column c =
    let text = c.args.before.now in
    let chain = YieldsList-from_chars text c.utf8.before (cc) in
    let turn = YieldsList-turn chain c.loop-c.yielded _ c.loop-c.yielded_by _ _ c.in-Some.c c.in-Some.is c.next.ensures.steps in
    column_fits c.loop-c.yielded (chars text) c.loop-c.column turn.0 c.loop-c.invariant.1
    (omega (arith, length_chars text c.utf8.before, c.type_inv.before))

pub loop-c-preserved-then-c-eq10 : goal.loop-c-preserved-then-c-eq10
loop-c-preserved-then-c-eq10 c =
    let seen = c.loop-c.yielded in
    (omega (arith, line_of-feed seen c.in-Some.c c.if-c-eq10.true, c.loop-c.invariant.0), sym (column_of-feed seen c.in-Some.c c.if-c-eq10.true))

pub loop-c-preserved : goal.loop-c-preserved
loop-c-preserved c =
    let seen = c.loop-c.yielded in
    (omega (arith, line_of-other seen c.in-Some.c c.if-c-eq10.false, c.loop-c.invariant.0), omega (arith, column_of-other seen c.in-Some.c c.if-c-eq10.false, c.loop-c.invariant.1))

pub returns-clause-line : goal.returns-clause-line
returns-clause-line c =
    let text = c.args.before.now in
    let chain = YieldsList-from_chars text c.utf8.before (cc) in
    let end = YieldsList-end chain c.loop-c.yielded _ c.loop-c.yielded_by _ _ c.in-None.is c.next.ensures.steps in
    c.loop-c.invariant.0 ∙ ap line_of (sym (map-id c.loop-c.yielded) ∙ end.0)

pub returns-clause-column : goal.returns-clause-column
returns-clause-column c =
    let text = c.args.before.now in
    let chain = YieldsList-from_chars text c.utf8.before (cc) in
    let end = YieldsList-end chain c.loop-c.yielded _ c.loop-c.yielded_by _ _ c.in-None.is c.next.ensures.steps in
    c.loop-c.invariant.1 ∙ ap column_of (sym (map-id c.loop-c.yielded) ∙ end.0)
