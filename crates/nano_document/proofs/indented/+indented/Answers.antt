use Rattle.std.proofs.Common.{◌≡◌, [], ◌∷◌, ◌++◌, false, drop, arith, string_bytes, codes, encode_utf8, encode_utf8_all, refl, rules, sym, ap, subst, ◌∙◌, OnOk}
use Rattle.std.proofs.lemmas.List.{drop_all, nil_from_length}
use Rattle.std.proofs.lemmas.Result.{on_ok_weaker}
use Rattle.nano_text.specs.Place.{saturating_next}
use Rattle.nano_grammar.specs.Items.{laid_out}
use Rattle.nano_grammar.proofs.WrittenLists.{list_begun, write_end, write_next, pushed, parts_written}
use Rattle.nano_json_tokens.specs.Token.{block_punctuation, curly_punctuation}
use Rattle.nano_document.specs.DocumentCodecs.{string_codec}
use Rattle.nano_document.specs.Indented.{lines}
use Rattle.nano_document.specs.IndentedCodecs.{indented, entry_text, items_text, entries_text}
use Rattle.nano_document.proofs.Indenting.{text-Null, text-Bool, text-U64, text-I64, text-Decimal, text-Text, text-List, text-Object}
use Rattle.nano_document.proofs.Indenting.{items_some, entries_some, closed_by, item_started, no_items_bytes, no_entries_bytes}
use Rattle.nano_document.proofs.indented.+indented.Goals as goal

pub append_items-loop-item-init : goal.append_items-loop-item-init
append_items-loop-item-init t c = list_begun (lines c.args.d) block_punctuation (indented (saturating_next c.args.d)) refl (string_bytes c.args.s.now.out) (string_bytes c.push.new.self) c.deref-item-items.result.now c.deref-item-items.result.now c.in_ok-push.ensures.bytes refl

pub append_items-loop-item-preserved : goal.append_items-loop-item-preserved
append_items-loop-item-preserved t c = write_next false (lines c.args.d) block_punctuation (indented (saturating_next c.args.d)) _ _ _ _ _ _ c.item-item.result c.loop-item-test.true c.item-item.is c.loop-item.invariant c.in_ok-append_item.ensures.ok

pub append_entries-loop-entry-init : goal.append_entries-loop-entry-init
append_entries-loop-entry-init t c = list_begun (lines c.args.d) curly_punctuation (entry_text (saturating_next c.args.d)) refl (string_bytes c.args.s.now.out) (string_bytes c.push.new.self) c.deref-entry-items.result.now c.deref-entry-items.result.now c.in_ok-push.ensures.bytes refl

pub append_entries-loop-entry-preserved : goal.append_entries-loop-entry-preserved
append_entries-loop-entry-preserved t c = write_next false (lines c.args.d) curly_punctuation (entry_text (saturating_next c.args.d)) _ _ _ _ _ _ c.entry-item.result c.loop-entry-test.true c.entry-item.is c.loop-entry.invariant c.in_ok-append_entry.ensures.ok

pub append_document-returns-in-Null-clause-ok : goal.append_document-returns-in-Null-clause-ok
append_document-returns-in-Null-clause-ok t c = rw (c.in-Null.is, text-Null c.args.d) c.ser_json.ensures.ok

pub append_document-returns-in-Bool-clause-ok : goal.append_document-returns-in-Bool-clause-ok
append_document-returns-in-Bool-clause-ok t c = rw (c.in-Bool.is, text-Bool c.args.d c.in-Bool.truth) c.ser_json-in-Bool.ensures.ok

pub append_document-returns-in-U64-clause-ok : goal.append_document-returns-in-U64-clause-ok
append_document-returns-in-U64-clause-ok t c = rw (c.in-U64.is, text-U64 c.args.d c.in-U64.number) c.ser_json-in-U64.ensures.ok

pub append_document-returns-in-I64-clause-ok : goal.append_document-returns-in-I64-clause-ok
append_document-returns-in-I64-clause-ok t c = rw (c.in-I64.is, text-I64 c.args.d c.in-I64.number) c.ser_json-in-I64.ensures.ok

pub append_document-returns-in-Decimal-clause-ok : goal.append_document-returns-in-Decimal-clause-ok
append_document-returns-in-Decimal-clause-ok t c = rw (c.in-Decimal.is, text-Decimal c.args.d c.in-Decimal.text) c.append_decimal.ensures.ok

pub append_document-returns-in-Text-clause-ok : goal.append_document-returns-in-Text-clause-ok
append_document-returns-in-Text-clause-ok t c = rw (c.in-Text.is, text-Text c.args.d c.in-Text.text) c.ser_json-in-Text.ensures.ok

pub append_document-returns-in-List-clause-ok : goal.append_document-returns-in-List-clause-ok
append_document-returns-in-List-clause-ok t c = rw (c.in-List.is, text-List c.args.d c.in-List.items) c.append_items.ensures.ok

pub append_document-returns-in-Object-clause-ok : goal.append_document-returns-in-Object-clause-ok
append_document-returns-in-Object-clause-ok t c = rw (c.in-Object.is, text-Object c.args.d c.in-Object.entries) c.append_entries.ensures.ok

pub append_item-returns-clause-ok : goal.append_item-returns-clause-ok
append_item-returns-clause-ok t c =
    on_ok_weaker c.append_document.result (λ last. item_started (string_bytes c.args.s.now.out) (string_bytes c.append_start.new.s.out) (string_bytes c.append_document.new.s.out) c.args.first c.args.d c.saturating_add-inner.result block_punctuation refl (λ n. indented n c.args.item.now) c.saturating_add-inner.ensures c.in_ok-append_start.ensures.ok last) c.append_document.ensures.ok

pub append_entry-returns-clause-ok : goal.append_entry-returns-clause-ok
append_entry-returns-clause-ok t c =
    let one = string_bytes c.append_start.new.s.out in
    let two = string_bytes c.append_name.new.s.out in
    let three = string_bytes c.append_document.new.s.out in
    let inner = c.saturating_add-inner.result in
    on_ok_weaker c.append_document.result (λ last. item_started (string_bytes c.args.s.now.out) one three c.args.first c.args.d inner curly_punctuation refl (λ n. entry_text n (c.args.name.now, c.args.value.now)) c.saturating_add-inner.ensures c.in_ok-append_start.ensures.ok
    (parts_written one two three (string_codec.canonical.text inner c.args.name.now) (58 ∷ (32 ∷ [])) (indented inner c.args.value.now) c.in_ok-append_name.ensures.ok last)) c.append_document.ensures.ok

pub append_items-returns-then-is_empty-clause-ok : goal.append_items-returns-then-is_empty-clause-ok
append_items-returns-then-is_empty-clause-ok t c =
    let old = string_bytes c.args.s.now.out in
    let new = string_bytes c.push_str.new.self in
    let none = nil_from_length c.args.items.now.items (search rules) in
    subst (λ xs. OnOk c.push_str.result (new ≡ old ++ encode_utf8_all (items_text c.args.d xs))) (sym none)
    (on_ok_weaker c.push_str.result (λ e. no_items_bytes old new e) (pushed c.push_str.result old new (codes "[]") c.push_str.ensures.bytes))

pub append_entries-returns-then-is_empty-clause-ok : goal.append_entries-returns-then-is_empty-clause-ok
append_entries-returns-then-is_empty-clause-ok t c =
    let old = string_bytes c.args.s.now.out in
    let new = string_bytes c.push_str.new.self in
    let none = nil_from_length c.args.entries.now.items (search rules) in
    subst (λ xs. OnOk c.push_str.result (new ≡ old ++ encode_utf8_all (entries_text c.args.d xs))) (sym none)
    (on_ok_weaker c.push_str.result (λ e. no_entries_bytes old new e) (pushed c.push_str.result old new (codes "{}") c.push_str.ensures.bytes))

pub append_items-returns-clause-ok : goal.append_items-returns-clause-ok
append_items-returns-clause-ok t c =
    let items = c.deref-item-items.result.now in
    let old = string_bytes c.args.s.now.out in
    let now = string_bytes c.loop-item.s.out in
    let mid = string_bytes c.append_line.new.s.out in
    let new = string_bytes c.push-2.new.self in
    let some : c.args.items.now.items ≡ [] → ⊥ = search rules in
    let same = c.deref-item-items.ensures.value in
    on_ok_weaker c.push-2.result (λ closed.
    write_end false (lines c.args.d) block_punctuation (indented (saturating_next c.args.d)) old now new c.loop-item.first (drop c.loop-item.item-index items) items c.loop-item.invariant (drop_all c.loop-item.item-index items (omega arith))
    (closed_by c.args.d block_punctuation (indented (saturating_next c.args.d)) c.loop-item.first now mid new c.in_ok-append_line.ensures.ok closed)
    ∙ (ap (λ xs. old ++ encode_utf8_all (laid_out false (lines c.args.d) block_punctuation (indented (saturating_next c.args.d)) xs)) same
    ∙ ap (λ l. old ++ encode_utf8_all l) (items_some c.args.d c.args.items.now.items some)))
    (pushed c.push-2.result mid new (encode_utf8 93) c.push-2.ensures.bytes)

pub append_entries-returns-clause-ok : goal.append_entries-returns-clause-ok
append_entries-returns-clause-ok t c =
    let items = c.deref-entry-items.result.now in
    let old = string_bytes c.args.s.now.out in
    let now = string_bytes c.loop-entry.s.out in
    let mid = string_bytes c.append_line.new.s.out in
    let new = string_bytes c.push-2.new.self in
    let some : c.args.entries.now.items ≡ [] → ⊥ = search rules in
    let same = c.deref-entry-items.ensures.value in
    on_ok_weaker c.push-2.result (λ closed.
    write_end false (lines c.args.d) curly_punctuation (entry_text (saturating_next c.args.d)) old now new c.loop-entry.first (drop c.loop-entry.entry-index items) items c.loop-entry.invariant (drop_all c.loop-entry.entry-index items (omega arith))
    (closed_by c.args.d curly_punctuation (entry_text (saturating_next c.args.d)) c.loop-entry.first now mid new c.in_ok-append_line.ensures.ok closed)
    ∙ (ap (λ xs. old ++ encode_utf8_all (laid_out false (lines c.args.d) curly_punctuation (entry_text (saturating_next c.args.d)) xs)) same
    ∙ ap (λ l. old ++ encode_utf8_all l) (entries_some c.args.d c.args.entries.now.items some)))
    (pushed c.push-2.result mid new (encode_utf8 125) c.push-2.ensures.bytes)
