use Rattle.std.proofs.Common.{subst, IsUtf8, sym, ◌∙◌}
use Rattle.nano_toml.proofs.Places.{held_next, held_none, remaining_next, remaining_nul}
use Rattle.nano_toml.proofs.Places.{remaining_none, remaining_same}
use Rattle.nano_toml.proofs.state.Cursor.next.Goals as goal

pub returns-then-c-ne0-clause-taken : goal.returns-then-c-ne0-clause-taken
returns-then-c-ne0-clause-taken c =
    let ahead = c.chars-ahead.result in
    let same = c.chars-ahead.ensures.rest ∙ c.as_str.ensures in
    let text = subst IsUtf8 (sym c.chars-ahead.ensures.rest) c.as_str.utf8 in
    λ n. remaining_same c.args.self.now.rest ahead (sym same) ∙ remaining_next ahead c.next.new.self c.in-Some.c (held_next ahead c.next.new.self c.in-Some.c text c.in-Some.ensures.steps.0) n

pub returns-else-c-ne0-clause-end : goal.returns-else-c-ne0-clause-end
returns-else-c-ne0-clause-end c =
    let ahead = c.chars-ahead.result in
    let same = c.chars-ahead.ensures.rest ∙ c.as_str.ensures in
    let text = subst IsUtf8 (sym c.chars-ahead.ensures.rest) c.as_str.utf8 in
    λ z. remaining_same c.args.self.now.rest ahead (sym same) ∙ remaining_nul ahead c.next.new.self c.in-Some.c (held_next ahead c.next.new.self c.in-Some.c text c.in-Some.ensures.steps.0) z

pub returns-else-c-ne0-clause-unchanged : goal.returns-else-c-ne0-clause-unchanged
returns-else-c-ne0-clause-unchanged c =
    let ahead = c.chars-ahead.result in
    let same = c.chars-ahead.ensures.rest ∙ c.as_str.ensures in
    let text = subst IsUtf8 (sym c.chars-ahead.ensures.rest) c.as_str.utf8 in
    λ z. remaining_same c.args.self.now.rest ahead (sym same) ∙ remaining_nul ahead c.next.new.self c.in-Some.c (held_next ahead c.next.new.self c.in-Some.c text c.in-Some.ensures.steps.0) z

pub returns-in-None-clause-end : goal.returns-in-None-clause-end
returns-in-None-clause-end c =
    let ahead = c.chars-ahead.result in
    let same = c.chars-ahead.ensures.rest ∙ c.as_str.ensures in
    λ _. remaining_same c.args.self.now.rest ahead (sym same) ∙ remaining_none ahead (held_none ahead c.in-None.ensures.steps.0.0)

pub returns-in-None-clause-unchanged : goal.returns-in-None-clause-unchanged
returns-in-None-clause-unchanged c =
    let ahead = c.chars-ahead.result in
    let same = c.chars-ahead.ensures.rest ∙ c.as_str.ensures in
    λ _. remaining_same c.args.self.now.rest ahead (sym same) ∙ remaining_none ahead (held_none ahead c.in-None.ensures.steps.0.0)
