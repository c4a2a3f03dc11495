use Rattle.std.proofs.Common.{◌∙◌, ℕ, List, ap, refl, subst, ne_eqb, arith, length, ◌==◌}
use Rattle.std.proofs.lemmas.Bool.{or_from}
use Rattle.nano_text.proofs.RemainingText.{remaining_stop, remaining_more}
use Rattle.nano_text.specs.Place.{remaining}
use Rattle.nano_text.specs.Characters.{is_space}
use Rattle.nano_ron_tokens.specs.Scan.{starts_gap, AfterGap}
use Rattle.nano_text.proofs.Spaces.{no_space, after_fewer}
use Rattle.nano_ron_tokens.proofs.Comments.{gap_over, spaces_more, comment_more, comment_shorter}
use Rattle.nano_ron_tokens.specs.Breaks.{slash}
use Rattle.nano_ron_tokens.proofs.AfterGaps.{none_cut, gap_breaks}
use Rattle.nano_ron_tokens.proofs.Scanning.{passed_append}
use Rattle.nano_ron_tokens.proofs.LexemeKinds.{kind_of, kind_remaining, kind_slash}
use Rattle.nano_ron_tokens.proofs.state.DeRonState.skip_gaps.Goals as goal

pub comments-init : goal.comments-init
comments-init c =
    let e = c.skip_space.ensures in
    let text = remaining c.args.self.now.cur c.args.i.now in
    record {
      following = λ rest h. spaces_more text rest (subst (λ (t : List ℕ). AfterGap t rest) e.remaining h);
      no_space = no_space c.skip_space.new.self.cur c.skip_space.new.i text e.remaining;
      passed = e.passed;
    }

pub returns-then-not-skip_comment-clause-skipped : goal.returns-then-not-skip_comment-clause-skipped
returns-then-not-skip_comment-clause-skipped c =
    let cur = c.comments.self.cur in
    let text = remaining c.args.self.now.cur c.args.i.now in
    let between = remaining cur c.comments.i in
    let after = c.comments.invariant.following between (gap_over between) in
    let kind = kind_remaining cur c.comments.i ∙ (ap kind_of c.comments-test.true ∙ kind_slash) in
    let stops = c.if-not-skip_comment.ensures.skipped in (
      none_cut text between after kind stops.0,
      gap_breaks text between (remaining c.skip_comment.new.self.cur c.skip_comment.new.i) after
          (remaining_stop is_space cur c.comments.i refl c.comments.invariant.no_space) (slash stops.1),
    )

pub returns-then-not-skip_comment-clause-passed : goal.returns-then-not-skip_comment-clause-passed
returns-then-not-skip_comment-clause-passed c = passed_append c.comments.invariant.passed c.skip_comment.ensures.passed

pub comments-smaller : goal.comments-smaller
comments-smaller c =
    let cur = c.comments.self.cur in
    let text = remaining cur c.comments.i in
    let rest = remaining c.skip_comment.new.self.cur c.skip_comment.new.i in
    let some = remaining_more cur c.comments.i (λ z. omega (arith, z, c.comments-test.true)) in
    let comment = comment_shorter text rest (omega (arith, ap length some)) c.if-not-skip_comment.ensures.skipped in
    omega (arith, comment, after_fewer is_space rest, ap length c.skip_space-in-comments.ensures.remaining)

pub comments-preserved : goal.comments-preserved
comments-preserved c =
    let e = c.skip_space-in-comments.ensures in
    let text = remaining c.comments.self.cur c.comments.i in
    let between = remaining c.skip_comment.new.self.cur c.skip_comment.new.i in
    record {
      following = λ rest h. c.comments.invariant.following rest
          (comment_more text between rest c.if-not-skip_comment.ensures.skipped
          (spaces_more between rest (subst (λ (t : List ℕ). AfterGap t rest) e.remaining h)));
      no_space = no_space c.skip_space-in-comments.new.self.cur c.skip_space-in-comments.new.i between e.remaining;
      passed = passed_append (passed_append c.comments.invariant.passed c.skip_comment.ensures.passed) e.passed;
    }

pub returns-clause-skipped : goal.returns-clause-skipped
returns-clause-skipped c =
    let cur = c.comments.self.cur in
    let rest = remaining cur c.comments.i in (
      c.comments.invariant.following rest (gap_over rest),
      remaining_stop starts_gap cur c.comments.i refl (or_from (is_space cur) (cur == 47) c.comments.invariant.no_space (ne_eqb cur 47 c.comments-test.false)),
    )
