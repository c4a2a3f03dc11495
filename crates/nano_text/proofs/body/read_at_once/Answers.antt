use Rattle.std.proofs.Common.{ℕ, List, refl, sym, ◌∙◌, ap, subst, arith, string_bytes, chars}
use Rattle.std.proofs.Common.{encode_utf8, ◌++◌, take}
use Rattle.nano_text.specs.declared.place.Place.{Place}
use Rattle.nano_text.specs.Place.{Passes, held, text_at}
use Rattle.nano_text.proofs.PlaceLaws.{passes_append, moves_none}
use Rattle.nano_text.proofs.Bodies.{at_column, nothing_yet, run_boundary, reads_run, quote_boundary}
use Rattle.nano_text.proofs.Bodies.{string_read_at_once, passes_quote, advances_quote, unmoved}
use Rattle.nano_text.proofs.Bodies.{escape_boundary, reads_escape}
use Rattle.nano_text.proofs.body.read_at_once.Goals as goal

-- where nothing is taken
pub returns-then-p-ne34-clause-place : goal.returns-then-p-ne34-clause-place
returns-then-p-ne34-clause-place c = moves_none c.args.p.now c.args.i.now

pub returns-in_default-clause-place : goal.returns-in_default-clause-place
returns-in_default-clause-place c = unmoved c.args.p.now c.runs.p c.args.i.now c.runs.i c.runs.invariant.place c.runs.invariant.input

pub returns-in_default-short_escape-clause-place : goal.returns-in_default-short_escape-clause-place
returns-in_default-short_escape-clause-place c = unmoved c.args.p.now c.runs.p c.args.i.now c.runs.i c.runs.invariant.place c.runs.invariant.input

pub returns-in_default-push-clause-place : goal.returns-in_default-push-clause-place
returns-in_default-push-clause-place c = unmoved c.args.p.now c.runs.p c.args.i.now c.runs.i c.runs.invariant.place c.runs.invariant.input

pub returns-in_default-clause-unchanged : goal.returns-in_default-clause-unchanged
returns-in_default-clause-unchanged c e = (c.runs.invariant.place, c.runs.invariant.input)

pub returns-in_default-short_escape-clause-unchanged : goal.returns-in_default-short_escape-clause-unchanged
returns-in_default-short_escape-clause-unchanged c e = (c.runs.invariant.place, c.runs.invariant.input)

pub returns-in_default-push-clause-unchanged : goal.returns-in_default-push-clause-unchanged
returns-in_default-push-clause-unchanged c e = (c.runs.invariant.place, c.runs.invariant.input)

pub runs-init : goal.runs-init
runs-init c = record {
  read = nothing_yet c.args.i.now c.args.p.now _ _ c.as_str-rest.utf8 c.as_str-rest.ensures c.clear.ensures.bytes (omega arith);
  place = refl;
  input = refl;
  capacity = omega arith;
}

pub append_prefix-requires : goal.append_prefix-requires
append_prefix-requires c =
    run_boundary c.runs.rest.now _ c.line_run-run.result.len c.runs.invariant.read.utf8 c.as_bytes.ensures.value c.line_run-run.ensures.len

pub split_at-requires : goal.split_at-requires
split_at-requires c =
    run_boundary c.runs.rest.now _ c.line_run-run.result.len c.runs.invariant.read.utf8 c.as_bytes.ensures.value c.line_run-run.ensures.len

pub split_at-requires-then-begins_with_quote : goal.split_at-requires-then-begins_with_quote
split_at-requires-then-begins_with_quote c =
    let q = at_column c.args.p.now c.saturating_add-col.result in
    let run = reads_run (held c.args.i.now) c.args.p.now (at_column c.args.p.now c.runs.col) q (string_bytes c.runs.strbuf) c.runs.rest.now c.as_bytes.result.now
    (take c.line_run-run.result.len c.runs.rest.now) c.split_at.result.1.now (string_bytes c.append_prefix.new.out) c.line_run-run.result.len c.line_run-run.result.columns
    c.runs.invariant.read c.as_bytes.ensures.value c.line_run-run.ensures.len c.line_run-run.ensures.columns refl
    c.split_at.ensures.back c.in-Ok.ensures.ok refl c.saturating_add-col.ensures in
    let quote = c.begins_with_quote.ensures.yes c.if-begins_with_quote.true in
    quote_boundary c.split_at.result.1.now _ quote.0 run.utf8 c.as_bytes-in-runs.ensures.value quote.1

pub returns-then-begins_with_quote-clause-found : goal.returns-then-begins_with_quote-clause-found
returns-then-begins_with_quote-clause-found c e =
    let q = at_column c.args.p.now c.saturating_add-col.result in
    let run = reads_run (held c.args.i.now) c.args.p.now (at_column c.args.p.now c.runs.col) q (string_bytes c.runs.strbuf) c.runs.rest.now c.as_bytes.result.now
    (take c.line_run-run.result.len c.runs.rest.now) c.split_at.result.1.now (string_bytes c.append_prefix.new.out) c.line_run-run.result.len c.line_run-run.result.columns
    c.runs.invariant.read c.as_bytes.ensures.value c.line_run-run.ensures.len c.line_run-run.ensures.columns refl
    c.split_at.ensures.back c.in-Ok.ensures.ok refl c.saturating_add-col.ensures in
    let quote = c.begins_with_quote.ensures.yes c.if-begins_with_quote.true in
    string_read_at_once c.args.p.now.cur c.args.i.now c.chars.result c.args.p.now q (string_bytes c.append_prefix.new.out) c.split_at.result.1.now
    c.as_bytes-in-runs.result.now quote.0 (text_at c.next.new.self c.next.new.i) run c.if-p-ne34.false c.as_bytes-in-runs.ensures.value quote.1
    (c.chars.ensures.rest ∙ c.split_at-then-begins_with_quote.ensures.back) c.next.ensures.rest

pub returns-then-begins_with_quote-clause-place : goal.returns-then-begins_with_quote-clause-place
returns-then-begins_with_quote-clause-place c =
    let q = at_column c.args.p.now c.saturating_add-col.result in
    let r : Place = record c.runs.p { col = c.saturating_add-p.result } in
    let run = reads_run (held c.args.i.now) c.args.p.now (at_column c.args.p.now c.runs.col) q (string_bytes c.runs.strbuf) c.runs.rest.now c.as_bytes.result.now
    (take c.line_run-run.result.len c.runs.rest.now) c.split_at.result.1.now (string_bytes c.append_prefix.new.out) c.line_run-run.result.len c.line_run-run.result.columns
    c.runs.invariant.read c.as_bytes.ensures.value c.line_run-run.ensures.len c.line_run-run.ensures.columns refl
    c.split_at.ensures.back c.in-Ok.ensures.ok refl c.saturating_add-col.ensures in
    let quote = c.begins_with_quote.ensures.yes c.if-begins_with_quote.true in
    let passed = passes_quote (held c.args.i.now) c.args.p.now q r (string_bytes c.append_prefix.new.out) c.split_at.result.1.now
    c.as_bytes-in-runs.result.now quote.0 c.split_at-then-begins_with_quote.result.1.now run c.as_bytes-in-runs.ensures.value quote.1
    c.split_at-then-begins_with_quote.ensures.back (ap (λ (s : Place). s.line) c.runs.invariant.place) c.saturating_add-p.ensures in
    let passes = passes_append {q = r} (subst (λ (l : List ℕ). Passes c.args.p.now (held c.args.i.now) r (chars l)) (sym c.chars.ensures.rest) passed) c.next.ensures.passes in
    advances_quote c.args.i.now c.chars.result c.next.new.i c.args.p.now q c.next.new.self (string_bytes c.append_prefix.new.out) c.split_at.result.1.now
    c.as_bytes-in-runs.result.now quote.0 run c.if-p-ne34.false c.as_bytes-in-runs.ensures.value quote.1
    (c.chars.ensures.rest ∙ c.split_at-then-begins_with_quote.ensures.back) c.next.ensures.held c.next.ensures.rest passes

pub split_at-requires-in-runs : goal.split_at-requires-in-runs
split_at-requires-in-runs c =
    let q = at_column c.args.p.now c.saturating_add-col.result in
    let run = reads_run (held c.args.i.now) c.args.p.now (at_column c.args.p.now c.runs.col) q (string_bytes c.runs.strbuf) c.runs.rest.now c.as_bytes.result.now
    (take c.line_run-run.result.len c.runs.rest.now) c.split_at.result.1.now (string_bytes c.append_prefix.new.out) c.line_run-run.result.len c.line_run-run.result.columns
    c.runs.invariant.read c.as_bytes.ensures.value c.line_run-run.ensures.len c.line_run-run.ensures.columns refl
    c.split_at.ensures.back c.in-Ok.ensures.ok refl c.saturating_add-col.ensures in
    let escape = c.in-Some.ensures in
    escape_boundary c.split_at.result.1.now _ escape.1 escape.0 run.utf8 c.as_bytes-in-runs-2.ensures.value escape.2 escape.4

pub runs-preserved : goal.runs-preserved
runs-preserved c =
    let q = at_column c.args.p.now c.saturating_add-col.result in
    let r = at_column c.args.p.now c.saturating_add-col-in-runs.result in
    let run = reads_run (held c.args.i.now) c.args.p.now (at_column c.args.p.now c.runs.col) q (string_bytes c.runs.strbuf) c.runs.rest.now c.as_bytes.result.now
    (take c.line_run-run.result.len c.runs.rest.now) c.split_at.result.1.now (string_bytes c.append_prefix.new.out) c.line_run-run.result.len c.line_run-run.result.columns
    c.runs.invariant.read c.as_bytes.ensures.value c.line_run-run.ensures.len c.line_run-run.ensures.columns refl
    c.split_at.ensures.back c.in-Ok.ensures.ok refl c.saturating_add-col.ensures in
    let escape = c.in-Some.ensures in
    record {
      read = reads_escape (held c.args.i.now) c.args.p.now q r (string_bytes c.append_prefix.new.out) c.split_at.result.1.now
          c.as_bytes-in-runs-2.result.now escape.1 c.split_at-in-runs.result.1.now (string_bytes c.push.new.self) escape.0 run
          c.as_bytes-in-runs-2.ensures.value escape.2 escape.3 escape.4 escape.5 c.split_at-in-runs.ensures.back
          (c.in-Ok-push.ensures.bytes ∙ ap (λ (k : ℕ). string_bytes c.append_prefix.new.out ++ encode_utf8 k) escape.6)
          refl c.saturating_add-col-in-runs.ensures;
      place = c.runs.invariant.place;
      input = c.runs.invariant.input;
      capacity = omega arith;
    }
