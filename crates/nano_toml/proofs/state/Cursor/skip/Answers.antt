use Rattle.std.proofs.Common.{ap, sym, ◌∙◌, length, arith, ne_eqb, eq-eqb, ◌==◌, ℕ, false}
use Rattle.nano_toml.specs.Characters.{is_space}
use Rattle.nano_toml.specs.Place.{remaining}
use Rattle.nano_toml.specs.Scan.{after_gaps}
use Rattle.nano_toml.proofs.ByteTests.{comment_test, space_test}
use Rattle.nano_toml.proofs.Gaps.{comment_shorter, gaps_from_comment, gaps_at_space, gaps_stop}
use Rattle.nano_toml.proofs.Places.{past_first}
use Rattle.nano_toml.proofs.state.Cursor.skip.Goals as goal

pub gaps-smaller-then-first-eq35 : goal.gaps-smaller-then-first-eq35
gaps-smaller-then-first-eq35 c =
    let here = c.first-first.ensures.test (λ (d : ℕ). d == 35) comment_test ∙ eq-eqb _ 35 c.if-first-eq35.true in
    omega (arith, ap length c.skip_line.ensures, comment_shorter (remaining c.gaps.self) here)

pub gaps-preserved-then-first-eq35 : goal.gaps-preserved-then-first-eq35
gaps-preserved-then-first-eq35 c =
    let here = c.first-first.ensures.test (λ (d : ℕ). d == 35) comment_test ∙ eq-eqb _ 35 c.if-first-eq35.true in
    record {
      rest = ap (after_gaps false) c.skip_line.ensures ∙ (sym (gaps_from_comment (remaining c.gaps.self) here) ∙ c.gaps.invariant.rest);
    }

pub gaps-smaller : goal.gaps-smaller
gaps-smaller c =
    let here = c.first-first.ensures.test is_space space_test ∙ sym c.if-is_space.ensures in
    omega (arith, ap length (past_first is_space (remaining c.gaps.self) (remaining c.next.new.self) c.next.result c.next.ensures.taken c.next.ensures.end here))

pub gaps-preserved : goal.gaps-preserved
gaps-preserved c =
    let here = c.first-first.ensures.test is_space space_test ∙ sym c.if-is_space.ensures in
    let no_comment = c.first-first.ensures.test (λ (d : ℕ). d == 35) comment_test ∙ ne_eqb _ 35 c.if-first-eq35.false in
    let past = past_first is_space (remaining c.gaps.self) (remaining c.next.new.self) c.next.result c.next.ensures.taken c.next.ensures.end here in
    record { rest = sym (gaps_at_space c.next.result (remaining c.gaps.self) (remaining c.next.new.self) past no_comment here) ∙ c.gaps.invariant.rest }

pub returns-else-is_space : goal.returns-else-is_space
returns-else-is_space c =
    let no_comment = c.first-first.ensures.test (λ (d : ℕ). d == 35) comment_test ∙ ne_eqb _ 35 c.if-first-eq35.false in
    let no_space = c.first-first.ensures.test is_space space_test ∙ sym c.if-is_space.ensures in
    sym (gaps_stop _ no_comment no_space) ∙ c.gaps.invariant.rest
