use Rattle.std.proofs.Common.{◌≡◌, ◌++◌, List, ℕ, ◌∙◌, ap, subst, chars, refl, append_assoc, length}
use Rattle.std.proofs.Common.{length-append, string_bytes, encode_utf8_all, arith}
use Rattle.std.proofs.lemmas.Result.{err_from_is_err_and}
use Rattle.std.specs.List.{AllWithin}
use Rattle.nano_text.specs.declared.place.Place.{Place}
use Rattle.nano_text.specs.Place.{IsInLine, Passes, held, passed, text_at}
use Rattle.nano_text.specs.Characters.{prefix}
use Rattle.nano_text.specs.String.{is_plain}
use Rattle.nano_text.proofs.Prefixes.{prefix_boundary, remaining_after, prefix_bytes}
use Rattle.nano_text.proofs.Prefixes.{prefix_capacity, plain_cut, passes_prefix, passes_in_line}
use Rattle.nano_text.proofs.Prefixes.{advances_over}
use Rattle.nano_text.proofs.RemainingText.{not_nul}
use Rattle.nano_text.proofs.PlaceLaws.{moves_none}
use Rattle.nano_text.proofs.InLine.{taken_in_line}
use Rattle.nano_text.proofs.string.take_plain.Goals.{then-run-lt128, else-run-lt128}
use Rattle.nano_text.proofs.string.take_plain.Goals as goal

pub split_at-requires : goal.split_at-requires
split_at-requires c =
    prefix_boundary is_plain refl plain_cut c.as_str-text.result.now c.plain_run-run.result.len c.as_str-text.utf8 (c.plain_run-run.ensures.len ∙ ap (λ (bs : List ℕ). length (prefix is_plain bs)) c.as_bytes.ensures.value)

pub returns-clause-rest : goal.returns-clause-rest
returns-clause-rest c =
    let count = c.plain_run-run.ensures.len ∙ ap (λ (bs : List ℕ). length (prefix is_plain bs)) c.as_bytes.ensures.value in
    c.next.ensures.rest ∙ remaining_after is_plain refl plain_cut c.args.p.now.cur c.plain_run-run.result.len c.args.i.now c.chars.result c.as_str-text.result.now c.requires c.as_str-text.utf8 c.as_str-text.ensures count (c.chars.ensures.rest ∙ c.split_at.ensures.back)

pub returns-clause-taken : goal.returns-clause-taken
returns-clause-taken c =
    let count = c.plain_run-run.ensures.len ∙ ap (λ (bs : List ℕ). length (prefix is_plain bs)) c.as_bytes.ensures.value in
    let prefix_is = prefix_bytes is_plain refl plain_cut c.args.p.now.cur c.plain_run-run.result.len c.args.i.now c.as_str-text.result.now c.requires c.as_str-text.utf8 c.as_str-text.ensures count in
    rw (c.in_ok-push_str.ensures.bytes, c.in_ok-push.ensures.bytes, c.split_at.ensures.front, append_assoc, prefix_is) refl

pub returns-in_err-push-clause-full : goal.returns-in_err-push-clause-full
returns-in_err-push-clause-full c =
    let error = err_from_is_err_and c.from_residual.result c.from_residual.ensures.1 in
    let first = prefix_capacity is_plain refl plain_cut c.args.p.now.cur c.args.i.now c.requires in
    rw error.1 (omega (arith, first, c.in_err-push.ensures.full, c.args.strbuf.now.bytes.ok.0, length-append (string_bytes c.args.strbuf.now) (encode_utf8_all (prefix is_plain (text_at c.args.p.now c.args.i.now)))))

pub returns-in_err-push_str-clause-full : goal.returns-in_err-push_str-clause-full
returns-in_err-push_str-clause-full c =
    let error = err_from_is_err_and c.from_residual-in_err-push_str.result c.from_residual-in_err-push_str.ensures.1 in
    let count = c.plain_run-run.ensures.len ∙ ap (λ (bs : List ℕ). length (prefix is_plain bs)) c.as_bytes.ensures.value in
    let prefix_is = prefix_bytes is_plain refl plain_cut c.args.p.now.cur c.plain_run-run.result.len c.args.i.now c.as_str-text.result.now c.requires c.as_str-text.utf8 c.as_str-text.ensures count in
    let all : string_bytes c.push.new.self ++ c.split_at.result.0.now ≡ string_bytes c.args.strbuf.now ++ encode_utf8_all (prefix is_plain (text_at c.args.p.now c.args.i.now)) = rw (c.in_ok-push.ensures.bytes, c.split_at.ensures.front, append_assoc, prefix_is) refl in
    rw error.1 (omega (arith, c.in_err-push_str.ensures.full, c.in_ok-push.ensures.capacity, c.push.new.self.bytes.ok.0, ap length all, length-append (string_bytes c.push.new.self) c.split_at.result.0.now))

pub returns-in_err-push-clause-place : goal.returns-in_err-push-clause-place
returns-in_err-push-clause-place c = moves_none c.args.p.now c.args.i.now

pub returns-in_err-push_str-clause-place : goal.returns-in_err-push_str-clause-place
returns-in_err-push_str-clause-place c = moves_none c.args.p.now c.args.i.now

pub returns-clause-place : goal.returns-clause-place
returns-clause-place c =
    let p = c.args.p.now in
    let q = c.if-run-lt128.p in
    let n = c.plain_run-run.result.len in
    let text = c.as_str-text.result.now in
    let utf8 = c.as_str-text.utf8 in
    let is = c.as_str-text.ensures in
    let count = c.plain_run-run.ensures.len ∙ ap (λ (bs : List ℕ). length (prefix is_plain bs)) c.as_bytes.ensures.value in
    let left = c.chars.ensures.rest ∙ c.split_at.ensures.back in
    let passes : Passes p (held c.args.i.now) c.next.new.self (held c.next.new.i) = elim c.if-run-lt128.branch [
      | then-run-lt128 w ↦
          let within = subst (λ (bs : List ℕ). AllWithin IsInLine bs 0 n) c.as_bytes.ensures.value
          (c.plain_run-run.ensures.in_line w.if-run-lt128.true) in
          passes_in_line is_plain refl plain_cut p q c.next.new.self n c.args.i.now c.chars.result text (held c.next.new.i)
          utf8 is count left
          (taken_in_line is_plain text (subst (λ (k : ℕ). AllWithin IsInLine text 0 k) count within)) (omega arith)
          (ap (λ (s : Place). s.line) w.p-is)
          (ap (λ (s : Place). s.col) w.p-is ∙ w.saturating_add-p.ensures) c.next.ensures.passes
      | else-run-lt128 w ↦
          let run = c.split_at.ensures.front in
          passes_prefix is_plain refl plain_cut p q c.next.new.self n c.args.i.now c.chars.result text (held c.next.new.i)
          utf8 is count left
          (ap (λ (s : Place). s.line) w.p-is ∙ (w.pass.ensures.line ∙ ap (λ (bs : List ℕ). (passed p (chars bs)).line) run))
          (ap (λ (s : Place). s.col) w.p-is ∙ (w.pass.ensures.col ∙ ap (λ (bs : List ℕ). (passed p (chars bs)).col) run))
          c.next.ensures.passes
    ] in
    advances_over is_plain refl plain_cut p c.next.new.self n c.args.i.now c.chars.result c.next.new.i text (not_nul is_plain p.cur refl c.requires)
    utf8 is count left c.next.ensures.held c.next.ensures.rest passes
