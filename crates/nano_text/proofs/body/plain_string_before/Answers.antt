use Rattle.std.proofs.Common.{List, ℕ, refl, sym, ◌∙◌, subst, chars, arith, []}
use Rattle.nano_text.specs.Place.{Passes, held, text_at}
use Rattle.nano_text.proofs.PlaceLaws.{passes_append, moves_none}
use Rattle.nano_text.proofs.Bodies.{at_column, nothing_yet, run_boundary, reads_run, quote_boundary}
use Rattle.nano_text.proofs.Bodies.{string_read_at_once, passes_quote, advances_quote}
use Rattle.nano_text.proofs.PlainStrings.{no_plain_string, no_plain_string_before, next_remains}
use Rattle.nano_text.proofs.PlainStrings.{utf8_following}
use Rattle.nano_text.proofs.RemainingText.{remaining-first}
use Rattle.nano_text.proofs.body.plain_string_before.Goals as goal

-- where nothing is taken
pub returns-then-p-ne34-clause-place : goal.returns-then-p-ne34-clause-place
returns-then-p-ne34-clause-place c = moves_none c.args.p.now c.args.i.now

pub returns-then-not-begins_with_quote-clause-place : goal.returns-then-not-begins_with_quote-clause-place
returns-then-not-begins_with_quote-clause-place c = moves_none c.args.p.now c.args.i.now

pub returns-then-not-goes_on-clause-place : goal.returns-then-not-goes_on-clause-place
returns-then-not-goes_on-clause-place c = moves_none c.args.p.now c.args.i.now

pub returns-then-p-ne34-clause-none : goal.returns-then-p-ne34-clause-none
returns-then-p-ne34-clause-none c = λ none characters rest s given.
    c.if-p-ne34.true (remaining-first c.args.p.now.cur 34 c.args.i.now _ s.split)

pub returns-then-not-begins_with_quote-clause-none : goal.returns-then-not-begins_with_quote-clause-none
returns-then-not-begins_with_quote-clause-none c = λ none characters rest s given.
    no_plain_string c.args.p.now.cur c.line_run-run.result.len c.args.i.now c.as_str-rest.result.now c.as_bytes.result.now
    c.split_at.result.1.now c.as_str-rest.utf8 c.as_str-rest.ensures c.as_bytes.ensures.value
    c.line_run-run.ensures.len c.split_at.ensures.back characters rest s c.as_bytes-2.result.now c.as_bytes-2.ensures.value
    (c.begins_with_quote.ensures.no c.if-not-begins_with_quote.true)

pub returns-then-not-goes_on-clause-none : goal.returns-then-not-goes_on-clause-none
returns-then-not-goes_on-clause-none c = λ none characters rest s given.
    let quote = c.begins_with_quote.ensures.yes c.if-not-begins_with_quote.false in
    no_plain_string_before c.args.p.now.cur c.line_run-run.result.len c.args.i.now c.as_str-rest.result.now c.as_bytes.result.now
    c.split_at.result.1.now c.as_str-rest.utf8 c.as_str-rest.ensures c.as_bytes.ensures.value
    c.line_run-run.ensures.len c.split_at.ensures.back characters rest s c.args.next quote.0 c.split_at-2.result.1.now c.as_bytes-3.result.now
    c.requires.ascii (sym c.as_bytes-2.ensures.value ∙ quote.1) c.split_at-2.ensures.back c.as_bytes-3.ensures.value
    (c.goes_on.ensures.no c.if-not-goes_on.true) given

pub split_at-requires : goal.split_at-requires
split_at-requires c =
    run_boundary c.as_str-rest.result.now c.as_bytes.result.now c.line_run-run.result.len c.as_str-rest.utf8 c.as_bytes.ensures.value c.line_run-run.ensures.len

pub split_at-requires-2 : goal.split_at-requires-2
split_at-requires-2 c =
    let quote = c.begins_with_quote.ensures.yes c.if-not-begins_with_quote.false in
    let utf8 = utf8_following c.as_str-rest.result.now c.as_bytes.result.now c.split_at.result.1.now c.line_run-run.result.len
    c.as_str-rest.utf8 c.as_bytes.ensures.value c.line_run-run.ensures.len c.split_at.ensures.back in
    quote_boundary c.split_at.result.1.now c.as_bytes-2.result.now quote.0 utf8 c.as_bytes-2.ensures.value quote.1

pub returns-clause-next : goal.returns-clause-next
returns-clause-next c =
    let quote = c.begins_with_quote.ensures.yes c.if-not-begins_with_quote.false in
    let utf8 = utf8_following c.as_str-rest.result.now c.as_bytes.result.now c.split_at.result.1.now c.line_run-run.result.len
    c.as_str-rest.utf8 c.as_bytes.ensures.value c.line_run-run.ensures.len c.split_at.ensures.back in
    next_remains c.args.next c.chars.result c.split_at.result.1.now quote.0 c.split_at-2.result.1.now c.as_bytes-3.result.now
    (text_at c.next.new.self c.next.new.i) c.requires.ascii utf8 (sym c.as_bytes-2.ensures.value ∙ quote.1) c.split_at-2.ensures.back c.as_bytes-3.ensures.value
    c.chars.ensures.rest c.next.ensures.rest (c.goes_on.ensures.yes c.if-not-goes_on.false)

pub returns-clause-found : goal.returns-clause-found
returns-clause-found c =
    let p = c.args.p.now in
    let q = at_column p c.saturating_add.result in
    let begun = nothing_yet c.args.i.now p [] c.as_str-rest.result.now c.as_str-rest.utf8 c.as_str-rest.ensures refl (omega arith) in
    let run = reads_run (held c.args.i.now) p p q [] c.as_str-rest.result.now c.as_bytes.result.now c.split_at.result.0.now
    c.split_at.result.1.now c.split_at.result.0.now c.line_run-run.result.len c.line_run-run.result.columns begun c.as_bytes.ensures.value
    c.line_run-run.ensures.len c.line_run-run.ensures.columns c.split_at.ensures.front c.split_at.ensures.back refl refl c.saturating_add.ensures in
    let quote = c.begins_with_quote.ensures.yes c.if-not-begins_with_quote.false in
    string_read_at_once p.cur c.args.i.now c.chars.result p q c.split_at.result.0.now c.split_at.result.1.now
    c.as_bytes-2.result.now quote.0 (text_at c.next.new.self c.next.new.i) run c.if-p-ne34.false c.as_bytes-2.ensures.value quote.1
    (c.chars.ensures.rest ∙ c.split_at-2.ensures.back) c.next.ensures.rest

pub returns-clause-place : goal.returns-clause-place
returns-clause-place c =
    let p = c.args.p.now in
    let q = at_column p c.saturating_add.result in
    let r = at_column p c.saturating_add-p.result in
    let begun = nothing_yet c.args.i.now p [] c.as_str-rest.result.now c.as_str-rest.utf8 c.as_str-rest.ensures refl (omega arith) in
    let run = reads_run (held c.args.i.now) p p q [] c.as_str-rest.result.now c.as_bytes.result.now c.split_at.result.0.now
    c.split_at.result.1.now c.split_at.result.0.now c.line_run-run.result.len c.line_run-run.result.columns begun c.as_bytes.ensures.value
    c.line_run-run.ensures.len c.line_run-run.ensures.columns c.split_at.ensures.front c.split_at.ensures.back refl refl c.saturating_add.ensures in
    let quote = c.begins_with_quote.ensures.yes c.if-not-begins_with_quote.false in
    let passed = passes_quote (held c.args.i.now) p q r c.split_at.result.0.now c.split_at.result.1.now
    c.as_bytes-2.result.now quote.0 c.split_at-2.result.1.now run c.as_bytes-2.ensures.value quote.1
    c.split_at-2.ensures.back refl c.saturating_add-p.ensures in
    let passes = passes_append {q = r} (subst (λ (l : List ℕ). Passes p (held c.args.i.now) r (chars l)) (sym c.chars.ensures.rest) passed) c.next.ensures.passes in
    advances_quote c.args.i.now c.chars.result c.next.new.i p q c.next.new.self c.split_at.result.0.now c.split_at.result.1.now
    c.as_bytes-2.result.now quote.0 run c.if-p-ne34.false c.as_bytes-2.ensures.value quote.1
    (c.chars.ensures.rest ∙ c.split_at-2.ensures.back) c.next.ensures.held c.next.ensures.rest passes
