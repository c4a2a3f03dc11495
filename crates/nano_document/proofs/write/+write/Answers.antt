use Rattle.std.specs.Prelude.{OnOk}
use Rattle.nano_text.specs.Outcomes.{Appends}
use Rattle.nano_json.specs.Lists.{written_list}
use Rattle.nano_json.specs.Lists.{written_entries}
use Rattle.std.proofs.Common.{false, drop, arith, string_bytes, encode_utf8, refl, rules, append_assoc, subst}
use Rattle.std.proofs.lemmas.List.{drop_all}
use Rattle.std.proofs.lemmas.Result.{on_ok_weaker}
use Rattle.std.proofs.lemmas.Str.{encodes-append}
use Rattle.nano_grammar.specs.Items.{no_gaps}
use Rattle.nano_grammar.proofs.WrittenLists.{list_begun, list_ended}
use Rattle.nano_grammar.proofs.WrittenLists.{write_next, pushed, entry_in_list}
use Rattle.nano_json_tokens.specs.Token.{block_punctuation, curly_punctuation}
use Rattle.nano_json.specs.Lists.{written_entry}
use Rattle.nano_document.specs.DocumentCodecs.{json_codec, string_codec}
use Rattle.nano_document.proofs.Documents.{text-Null, text-Bool, text-U64, text-I64, text-Decimal, text-Text, text-List, text-Object}
use Rattle.nano_document.proofs.write.+write.Goals as goal

pub append_entry-returns-clause-ok : goal.append_entry-returns-clause-ok
append_entry-returns-clause-ok t c =
    let join = entry_in_list no_gaps curly_punctuation c.args.first in
    search (rules, append_assoc, encodes-append, join)

pub append_items-loop-item-init : goal.append_items-loop-item-init
append_items-loop-item-init t c = list_begun no_gaps block_punctuation (json_codec.canonical.text c.args.d) refl (string_bytes c.args.s.now.out) (string_bytes c.push.new.self) c.deref-item-items.result.now c.deref-item-items.result.now c.in_ok-push.ensures.bytes refl

pub append_items-loop-item-preserved : goal.append_items-loop-item-preserved
append_items-loop-item-preserved t c = write_next false no_gaps block_punctuation (json_codec.canonical.text c.args.d) _ _ _ _ _ _ c.item-item.result c.loop-item-test.true c.item-item.is c.loop-item.invariant c.in_ok-append_item.ensures.ok

pub append_items-returns-clause-ok : goal.append_items-returns-clause-ok
append_items-returns-clause-ok t c =
    let items = c.deref-item-items.result.now in
    subst (λ xs. OnOk c.push-2.result (Appends c.args.s.now.out c.push-2.new.self (written_list (json_codec.canonical.text c.args.d) xs))) c.deref-item-items.ensures.value (
    on_ok_weaker c.push-2.result (λ closed. list_ended no_gaps block_punctuation (json_codec.canonical.text c.args.d) refl (string_bytes c.args.s.now.out) (string_bytes c.loop-item.s.out) (string_bytes c.push-2.new.self) c.loop-item.first (drop c.loop-item.item-index items) items c.loop-item.invariant (drop_all c.loop-item.item-index items (omega arith)) closed) (pushed c.push-2.result (string_bytes c.loop-item.s.out) (string_bytes c.push-2.new.self) (encode_utf8 93) c.push-2.ensures.bytes))

pub append_entries-loop-entry-init : goal.append_entries-loop-entry-init
append_entries-loop-entry-init t c = list_begun no_gaps curly_punctuation (written_entry (string_codec.canonical.text c.args.d) (json_codec.canonical.text c.args.d)) refl (string_bytes c.args.s.now.out) (string_bytes c.push.new.self) c.deref-entry-items.result.now c.deref-entry-items.result.now c.in_ok-push.ensures.bytes refl

pub append_entries-loop-entry-preserved : goal.append_entries-loop-entry-preserved
append_entries-loop-entry-preserved t c = write_next false no_gaps curly_punctuation (written_entry (string_codec.canonical.text c.args.d) (json_codec.canonical.text c.args.d)) _ _ _ _ _ _ c.entry-item.result c.loop-entry-test.true c.entry-item.is c.loop-entry.invariant c.in_ok-append_entry.ensures.ok

pub append_entries-returns-clause-ok : goal.append_entries-returns-clause-ok
append_entries-returns-clause-ok t c =
    let items = c.deref-entry-items.result.now in
    subst (λ xs. OnOk c.push-2.result (Appends c.args.s.now.out c.push-2.new.self (written_entries (string_codec.canonical.text c.args.d) (json_codec.canonical.text c.args.d) xs))) c.deref-entry-items.ensures.value (
    on_ok_weaker c.push-2.result (λ closed. list_ended no_gaps curly_punctuation (written_entry (string_codec.canonical.text c.args.d) (json_codec.canonical.text c.args.d)) refl (string_bytes c.args.s.now.out) (string_bytes c.loop-entry.s.out) (string_bytes c.push-2.new.self) c.loop-entry.first (drop c.loop-entry.entry-index items) items c.loop-entry.invariant (drop_all c.loop-entry.entry-index items (omega arith)) closed) (pushed c.push-2.result (string_bytes c.loop-entry.s.out) (string_bytes c.push-2.new.self) (encode_utf8 125) c.push-2.ensures.bytes))

pub append_json-returns-in-Null-clause-ok : goal.append_json-returns-in-Null-clause-ok
append_json-returns-in-Null-clause-ok t c = rw (c.in-Null.is, text-Null c.args.d) c.ser_json.ensures.ok

pub append_json-returns-in-Bool-clause-ok : goal.append_json-returns-in-Bool-clause-ok
append_json-returns-in-Bool-clause-ok t c = rw (c.in-Bool.is, text-Bool c.args.d c.in-Bool.truth) c.ser_json-in-Bool.ensures.ok

pub append_json-returns-in-U64-clause-ok : goal.append_json-returns-in-U64-clause-ok
append_json-returns-in-U64-clause-ok t c = rw (c.in-U64.is, text-U64 c.args.d c.in-U64.number) c.ser_json-in-U64.ensures.ok

pub append_json-returns-in-I64-clause-ok : goal.append_json-returns-in-I64-clause-ok
append_json-returns-in-I64-clause-ok t c = rw (c.in-I64.is, text-I64 c.args.d c.in-I64.number) c.ser_json-in-I64.ensures.ok

pub append_json-returns-in-Decimal-clause-ok : goal.append_json-returns-in-Decimal-clause-ok
append_json-returns-in-Decimal-clause-ok t c = rw (c.in-Decimal.is, text-Decimal c.args.d c.in-Decimal.text) c.append_decimal.ensures.ok

pub append_json-returns-in-Text-clause-ok : goal.append_json-returns-in-Text-clause-ok
append_json-returns-in-Text-clause-ok t c = rw (c.in-Text.is, text-Text c.args.d c.in-Text.text) c.ser_json-in-Text.ensures.ok

pub append_json-returns-in-List-clause-ok : goal.append_json-returns-in-List-clause-ok
append_json-returns-in-List-clause-ok t c =
    let written = subst (λ n. OnOk c.append_items.result (Appends c.args.s.now.out c.append_items.new.s.out (written_list (json_codec.canonical.text n) c.in-List.items.items))) c.saturating_add.ensures c.append_items.ensures.ok in
    rw (c.in-List.is, text-List c.args.d c.in-List.items) written

pub append_json-returns-in-Object-clause-ok : goal.append_json-returns-in-Object-clause-ok
append_json-returns-in-Object-clause-ok t c =
    let written = subst (λ n. OnOk c.append_entries.result (Appends c.args.s.now.out c.append_entries.new.s.out (written_entries (string_codec.canonical.text n) (json_codec.canonical.text n) c.in-Object.entries.items))) c.saturating_add-in-Object.ensures c.append_entries.ensures.ok in
    rw (c.in-Object.is, text-Object c.args.d c.in-Object.entries) written
