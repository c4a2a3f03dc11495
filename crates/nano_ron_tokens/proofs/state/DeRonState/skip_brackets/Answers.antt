use Rattle.std.proofs.Common.{◌≡◌, ℕ, arith, sym, subst, refl}
use Rattle.nano_text.proofs.RemainingText.{remaining_fewer}
use Rattle.nano_text.proofs.PlaceLaws.{moves_append, moves_none}
use Rattle.nano_grammar.specs.Faults.{uncut}
use Rattle.nano_grammar.proofs.FaultLaws.{uncut_token, broken_there}
use Rattle.nano_ron_tokens.specs.Cut.{Cut}
use Rattle.nano_ron_tokens.specs.Outcomes.{position}
use Rattle.nano_ron_tokens.specs.Skipped.{Brackets}
use Rattle.nano_grammar.proofs.TokenCalls.{passed_on}
use Rattle.nano_grammar.proofs.BracketLaws.{Counting, start, step, found, bracket_some, one_less}
use Rattle.nano_grammar.proofs.BracketLaws.{end_in_brackets, uncut_in_brackets}
use Rattle.nano_grammar.proofs.BracketLaws.{capacity_start, capacity_step, capacity_below}
use Rattle.nano_ron_tokens.specs.State.{at}
use Rattle.nano_ron_tokens.proofs.BracketTokens.{opening_one}
use Rattle.nano_ron_tokens.proofs.BracketCounts.{brackets}
use Rattle.nano_ron_tokens.proofs.state.DeRonState.skip_brackets.Goals as goal

pub returns-in_err-scan_after_value : goal.returns-in_err-scan_after_value
returns-in_err-scan_after_value c =
    passed_on _ _ c.from_residual.result c.from_residual.ensures.1 (record {
      rejected = λ known.
          let start = position c.args.self.now c.args.i.now in
          let none = c.in_err-scan_after_value.ensures.rejected known in
          record {
            here = start;
            text = refl;
            moved = moves_none start.place start.input;
            reason = uncut none;
            fault = uncut_token Cut Brackets start.at none (λ _. bracket_some brackets);
            stands = broken_there (c.in_err-scan_after_value.ensures.broken known) c.in_err-scan_after_value.ensures.place;
          };
      place = c.in_err-scan_after_value.ensures.place;
    })

pub returns : goal.returns
returns c =
    let s0 = at c.args.self.now c.args.i.now in
    let s = at c.tokens.self c.tokens.i in
    let closed : c.tokens.depth ≡ 0 = omega (arith, c.tokens-test.false) in
    let all = found brackets s0 s (subst (λ (depth : ℕ). Counting brackets s0 s depth) closed c.tokens.invariant.counting) in
    (all.0, (all.1, record { taken = all.2; buffers = tt; place = c.tokens.invariant.place }))

pub tokens-init : goal.tokens-init
tokens-init c =
    let s0 = at c.args.self.now c.args.i.now in
    let s = at c.scan_after_value.new.self c.scan_after_value.new.i in
    record {
      counting = start brackets s0 s (opening_one s0.token c.requires) c.in_ok-scan_after_value.ensures.taken;
      place = c.in_ok-scan_after_value.ensures.place;
      capacity = capacity_start brackets s0 s (omega (arith, remaining_fewer c.args.self.now.cur c.args.i.now, c.bytes_left-capacity.ensures.value, c.bytes_left-capacity.ensures.small)) c.in_ok-scan_after_value.ensures.taken;
    }

pub returns-then-is_end : goal.returns-then-is_end
returns-then-is_end c = record {
  rejected = λ known.
      end_in_brackets brackets (position c.args.self.now c.args.i.now) (position c.tokens.self c.tokens.i) c.tokens.depth
      c.tokens.invariant.counting c.tokens-test.true (sym c.if-is_end.ensures) refl
      c.tokens.invariant.place;
  place = c.tokens.invariant.place;
}

pub depth_after-depth-requires-clause-capacity : goal.depth_after-depth-requires-clause-capacity
depth_after-depth-requires-clause-capacity c =
    omega (arith, capacity_below brackets (at c.tokens.self c.tokens.i) c.tokens.depth c.tokens.invariant.capacity (sym c.if-is_end.ensures))

pub tokens-smaller : goal.tokens-smaller
tokens-smaller c =
    one_less brackets (at c.tokens.self c.tokens.i) (at c.scan_after_value-in-tokens.new.self c.scan_after_value-in-tokens.new.i) (sym c.if-is_end.ensures) c.in_ok-scan_after_value-2.ensures.taken

pub tokens-preserved : goal.tokens-preserved
tokens-preserved c =
    let s0 = at c.args.self.now c.args.i.now in
    let s = at c.tokens.self c.tokens.i in
    let m = at c.scan_after_value-in-tokens.new.self c.scan_after_value-in-tokens.new.i in
    let more = sym c.if-is_end.ensures in
    record {
      counting = step brackets s0 s m c.tokens.depth c.depth_after-depth.result c.tokens.invariant.counting c.tokens-test.true more c.in_ok-scan_after_value-2.ensures.taken c.depth_after-depth.ensures;
      place = moves_append c.tokens.invariant.place c.in_ok-scan_after_value-2.ensures.place;
      capacity = capacity_step brackets s m c.tokens.depth c.depth_after-depth.result c.tokens.invariant.capacity more c.in_ok-scan_after_value-2.ensures.taken c.depth_after-depth.ensures;
    }

pub returns-in_err-scan_after_value-2 : goal.returns-in_err-scan_after_value-2
returns-in_err-scan_after_value-2 c =
    passed_on _ _ c.from_residual-in_err-scan_after_value-2.result c.from_residual-in_err-scan_after_value-2.ensures.1 (record {
      rejected = λ known.
          uncut_in_brackets brackets (position c.args.self.now c.args.i.now) (position c.tokens.self c.tokens.i)
          (position c.scan_after_value-in-tokens.new.self c.scan_after_value-in-tokens.new.i) c.tokens.depth
          c.tokens.invariant.counting c.tokens-test.true (c.in_err-scan_after_value-2.ensures.rejected known)
          (c.in_err-scan_after_value-2.ensures.broken known) refl
          c.tokens.invariant.place c.in_err-scan_after_value-2.ensures.place;
      place = moves_append c.tokens.invariant.place c.in_err-scan_after_value-2.ensures.place;
    })
