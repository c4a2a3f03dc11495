use Rattle.std.proofs.Common.{◌≡◌, ◌++◌, ◌∙◌, take, refl, sym, ap, subst, rules}
use Rattle.std.proofs.lemmas.Result.{on_err_weaker}
use Rattle.std.specs.List.{flat_map}
use Rattle.std.specs.Int.{w64}
use Rattle.std.proofs.lemmas.Int.{to_z-of_z}
use Rattle.nano_value.proofs.ByRank.{was_ok}
use Rattle.nano_bin_bytes.proofs.CodecLaws.{write_start, write_place, write_places, cut_back}
use Rattle.nano_bin_bytes.specs.Containers.{written_pair}
use Rattle.nano_bin.specs.ScalarCodecs.{string_codec}
use Rattle.nano_document.specs.BinCodecs.{bin_codec}
use Rattle.nano_document.proofs.BinDocuments.{no_success, written-Null, written-Bool, written-U64, written-I64, written-Text, written-List, written-Object}
use Rattle.nano_document.proofs.write_bin.+write.Goals as goal

-- ---- append_json

pub append_json-returns-in-Null-clause-ok : goal.append_json-returns-in-Null-clause-ok
append_json-returns-in-Null-clause-ok t c = rw (c.in-Null.is, written-Null) c.append_variant.ensures.ok

pub append_json-returns-in-Bool-clause-ok : goal.append_json-returns-in-Bool-clause-ok
append_json-returns-in-Bool-clause-ok t c = rw (c.in-Bool.is, written-Bool c.in-Bool.truth) c.append_variant-in-Bool.ensures.ok

pub append_json-returns-in-U64-clause-ok : goal.append_json-returns-in-U64-clause-ok
append_json-returns-in-U64-clause-ok t c = rw (c.in-U64.is, written-U64 c.in-U64.number) c.append_variant-in-U64.ensures.ok

pub append_json-returns-in-I64-clause-ok : goal.append_json-returns-in-I64-clause-ok
append_json-returns-in-I64-clause-ok t c =
    let written = rw (to_z-of_z w64 c.in-I64.number (search rules)) at c.append_signed.ensures.ok in
    rw (c.in-I64.is, written-I64 c.in-I64.number) written

pub append_json-returns-in-Decimal-clause-ok : goal.append_json-returns-in-Decimal-clause-ok
append_json-returns-in-Decimal-clause-ok t c = rw c.in-Decimal.is c.append_decimal.ensures.ok

pub append_json-returns-in-Text-clause-ok : goal.append_json-returns-in-Text-clause-ok
append_json-returns-in-Text-clause-ok t c = rw (c.in-Text.is, written-Text c.in-Text.text) c.append_variant-in-Text.ensures.ok

pub append_json-returns-in-List-clause-ok : goal.append_json-returns-in-List-clause-ok
append_json-returns-in-List-clause-ok t c = rw (c.in-List.is, written-List c.in-List.items) c.append_list.ensures.ok

pub append_json-returns-in-Object-clause-ok : goal.append_json-returns-in-Object-clause-ok
append_json-returns-in-Object-clause-ok t c = rw (c.in-Object.is, written-Object c.in-Object.entries) c.append_object.ensures.ok

-- ---- append_items

pub append_items-loop-item-init : goal.append_items-loop-item-init
append_items-loop-item-init t c = write_start bin_codec.canonical.written c.args.output.now.items c.deref-item-items.result.now c.deref-item-items.result.now refl

pub append_items-loop-item-preserved : goal.append_items-loop-item-preserved
append_items-loop-item-preserved t c =
    let written = was_ok c.append_json-written.result (sym c.if-is_err.ensures.value) c.append_json-written.ensures.ok in
    write_place bin_codec.canonical.written c.args.output.now.items c.loop-item.output.items c.append_json-written.new.output.items c.deref-item-items.result.now c.loop-item.item-index c.item-item.result c.loop-item.invariant c.loop-item-test.true c.item-item.is written

pub append_items-returns-clause-ok : goal.append_items-returns-clause-ok
append_items-returns-clause-ok t c =
    subst (λ xs. c.loop-item.output.items ≡ c.args.output.now.items ++ flat_map bin_codec.canonical.written xs) c.deref-item-items.ensures.value
    (write_places bin_codec.canonical.written c.args.output.now.items c.loop-item.output.items c.deref-item-items.result.now c.loop-item.item-index c.loop-item.invariant c.loop-item-test.false)

pub append_items-returns-then-is_err-clause-ok : goal.append_items-returns-then-is_err-clause-ok
append_items-returns-then-is_err-clause-ok t c = no_success _ c.append_json-written.result (sym c.if-is_err.ensures.value)

pub append_items-returns-then-is_err-clause-err : goal.append_items-returns-then-is_err-clause-err
append_items-returns-then-is_err-clause-err t c =
    let cut = cut_back bin_codec.canonical.written c.args.start c.args.output.now.items c.loop-item.output.items _ c.deref-item-items.result.now c.requires c.loop-item.invariant in
    on_err_weaker c.append_json-written.result (λ e. c.truncate.ensures.items ∙ (ap (take c.args.start) e ∙ cut)) c.append_json-written.ensures.err

-- ---- append_entries

pub append_entries-loop-entry-init : goal.append_entries-loop-entry-init
append_entries-loop-entry-init t c = write_start (written_pair string_codec.canonical.written bin_codec.canonical.written) c.args.output.now.items c.deref-entry-items.result.now c.deref-entry-items.result.now refl

pub append_entries-loop-entry-preserved : goal.append_entries-loop-entry-preserved
append_entries-loop-entry-preserved t c =
    let written = was_ok c.append_entry-written.result (sym c.if-is_err.ensures.value) c.append_entry-written.ensures.ok in
    write_place (written_pair string_codec.canonical.written bin_codec.canonical.written) c.args.output.now.items c.loop-entry.output.items c.append_entry-written.new.output.items c.deref-entry-items.result.now c.loop-entry.entry-index c.entry-item.result c.loop-entry.invariant c.loop-entry-test.true c.entry-item.is written

pub append_entries-returns-clause-ok : goal.append_entries-returns-clause-ok
append_entries-returns-clause-ok t c =
    subst (λ xs. c.loop-entry.output.items ≡ c.args.output.now.items ++ flat_map (written_pair string_codec.canonical.written bin_codec.canonical.written) xs) c.deref-entry-items.ensures.value
    (write_places (written_pair string_codec.canonical.written bin_codec.canonical.written) c.args.output.now.items c.loop-entry.output.items c.deref-entry-items.result.now c.loop-entry.entry-index c.loop-entry.invariant c.loop-entry-test.false)

pub append_entries-returns-then-is_err-clause-ok : goal.append_entries-returns-then-is_err-clause-ok
append_entries-returns-then-is_err-clause-ok t c = no_success _ c.append_entry-written.result (sym c.if-is_err.ensures.value)

pub append_entries-returns-then-is_err-clause-err : goal.append_entries-returns-then-is_err-clause-err
append_entries-returns-then-is_err-clause-err t c =
    let cut = cut_back (written_pair string_codec.canonical.written bin_codec.canonical.written) c.args.start c.args.output.now.items c.loop-entry.output.items _ c.deref-entry-items.result.now c.requires c.loop-entry.invariant in
    on_err_weaker c.append_entry-written.result (λ e. c.truncate.ensures.items ∙ (ap (take c.args.start) e ∙ cut)) c.append_entry-written.ensures.err
