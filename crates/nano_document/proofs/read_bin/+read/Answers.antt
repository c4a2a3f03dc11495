use Rattle.std.proofs.Common.{◌≡◌, ◌≢◌, ◌++◌, ◌∷◌, [], ◌-◌, map, string_bytes, ◌∙◌, ap, subst, arith, rules}
use Rattle.std.specs.Int.{w64}
use Rattle.std.proofs.lemmas.Bool.Decides.{nat_tests}
use Rattle.std.proofs.lemmas.Grind.{common_steps}
use Rattle.std.proofs.lemmas.Int.{to_z-of_z}
use Rattle.std.proofs.lemmas.List.{map-append}
use Rattle.std.proofs.lemmas.Result.{err_from_is_err_and}
use Rattle.nano_value.specs.Meaning.{number, text, paired}
use Rattle.nano_value.specs.Sums.{tagged}
use Rattle.nano_bin_bytes.specs.Reading.{Decodes}
use Rattle.nano_bin_bytes.specs.Containers.{EncodesCount, EncodesPair}
use Rattle.nano_bin.specs.ScalarCodecs.{string_codec}
use Rattle.nano_bin.proofs.Readers.{unit_reads, count_reads_push, image_reads, image_rejected, pair_reads, pair_rejected, second_rejected}
use Rattle.nano_bin_levels.proofs.LevelsLaws.{level_within}
use Rattle.nano_document.specs.Documents.{json_means, entry_means}
use Rattle.nano_document.specs.BinCodecs.{bin_nested, bin_level, bin_codec, bin_entry}
use Rattle.nano_document.specs.declared.json.Json as J
use Rattle.nano_document.proofs.Documents.{means-Null, means-Bool, means-U64, means-Text, means-List, means-Object}
use Rattle.nano_document.proofs.BinReading.{one_below, document_reads, no_tag, no_content, unknown_tag, no_variant, item_rejected, no_count, items_read, entry_within, decimal_means}
use Rattle.nano_document.proofs.read_bin.+read.Goals as goal

-- ---- read_items

pub read_items-returns-in_err-count-clause-err : goal.read_items-returns-in_err-count-clause-err
read_items-returns-in_err-count-clause-err t c =
    let p = err_from_is_err_and c.from_residual.result c.from_residual.ensures.1 in
    rw (p.1, p.2) (no_count bin_codec.encoding c.args.bytes.now c.args.offset.now _ _ c.in_err-count.ensures.err.none)

pub read_items-returns-in_err-item-clause-err : goal.read_items-returns-in_err-item-clause-err
read_items-returns-in_err-item-clause-err t c =
    let p = err_from_is_err_and c.from_residual-in_err-item.result c.from_residual-in_err-item.ensures.1 in
    rw (p.1, p.2) (
    item_rejected (bin_level c.args.levels).encoding bin_codec.encoding (level_within bin_nested c.args.levels) c.args.bytes.now c.args.offset.now
    c.de_bin.new.offset c.loop.offset c.in_ok-count.count c.loop.counter (map json_means c.loop.items.items)
    _ c.in_ok-count.ensures.ok c.loop.invariant c.loop-test.true c.in_err-item.ensures.err)

pub read_items-loop-preserved : goal.read_items-loop-preserved
read_items-loop-preserved t c =
    let item = c.in_ok-item.item in
    let grown : c.push.new.self.items ≡ c.loop.items.items ++ item ∷ [] = grind (arith, common_steps) in
    rw (ap (map json_means) grown ∙ map-append json_means c.loop.items.items (item ∷ [])) (count_reads_push (bin_level c.args.levels).encoding.encodes _ _ _ _ _ _ _ c.loop.invariant c.in_ok-item.ensures.ok)

pub read_items-returns-clause-ok : goal.read_items-returns-clause-ok
read_items-returns-clause-ok t c =
    let s = (bin_level c.args.levels).encoding in
    let less = c.loop.auto.counter-end in
    let more = c.loop-test.false in
    let all : c.loop.counter ≡ c.in_ok-count.count = omega (arith, less, more) in
    let items = subst (λ n. Decodes (EncodesCount n s.encodes) c.args.bytes.now c.de_bin.new.offset (map json_means c.loop.items.items) c.loop.offset) all c.loop.invariant in
    items_read s c.args.bytes.now c.args.offset.now c.de_bin.new.offset c.loop.offset c.in_ok-count.count (map json_means c.loop.items.items) c.in_ok-count.ensures.ok items

-- ---- read_entries

pub read_entries-returns-in_err-count-clause-err : goal.read_entries-returns-in_err-count-clause-err
read_entries-returns-in_err-count-clause-err t c =
    let p = err_from_is_err_and c.from_residual.result c.from_residual.ensures.1 in
    rw (p.1, p.2) (no_count (bin_entry bin_codec) c.args.bytes.now c.args.offset.now _ _ c.in_err-count.ensures.err.none)

pub read_entries-returns-in_err-entry-clause-err : goal.read_entries-returns-in_err-entry-clause-err
read_entries-returns-in_err-entry-clause-err t c =
    let p = err_from_is_err_and c.from_residual-in_err-entry.result c.from_residual-in_err-entry.ensures.1 in
    rw (p.1, p.2) (
    item_rejected (bin_entry (bin_level c.args.levels)) (bin_entry bin_codec) (entry_within c.args.levels) c.args.bytes.now c.args.offset.now
    c.de_bin.new.offset c.loop.offset c.in_ok-count.count c.loop.counter (map (entry_means json_means) c.loop.entries.items)
    _ c.in_ok-count.ensures.ok c.loop.invariant c.loop-test.true c.in_err-entry.ensures.err)

pub read_entries-loop-preserved : goal.read_entries-loop-preserved
read_entries-loop-preserved t c =
    let entry = c.in_ok-entry.entry in
    let means = entry_means json_means in
    let grown : c.push.new.self.items ≡ c.loop.entries.items ++ entry ∷ [] = grind (arith, common_steps) in
    rw (ap (map means) grown ∙ map-append means c.loop.entries.items (entry ∷ [])) (count_reads_push (bin_entry (bin_level c.args.levels)).encodes _ _ _ _ _ _ _ c.loop.invariant c.in_ok-entry.ensures.ok)

pub read_entries-returns-clause-ok : goal.read_entries-returns-clause-ok
read_entries-returns-clause-ok t c =
    let s = bin_entry (bin_level c.args.levels) in
    let less = c.loop.auto.counter-end in
    let more = c.loop-test.false in
    let all : c.loop.counter ≡ c.in_ok-count.count = omega (arith, less, more) in
    let means = map (entry_means json_means) c.loop.entries.items in
    let entries = subst (λ n. Decodes (EncodesCount n s.encodes) c.args.bytes.now c.de_bin.new.offset means c.loop.offset) all c.loop.invariant in
    items_read s c.args.bytes.now c.args.offset.now c.de_bin.new.offset c.loop.offset c.in_ok-count.count means c.in_ok-count.ensures.ok entries

-- ---- read_entry

pub read_entry-returns-in_err-name-clause-err : goal.read_entry-returns-in_err-name-clause-err
read_entry-returns-in_err-name-clause-err t c =
    let p = err_from_is_err_and c.from_residual.result c.from_residual.ensures.1 in
    let S = string_codec.encoding.encodes in
    let R = bin_codec.encoding.encodes in
    rw (p.1, p.2) (image_rejected (EncodesPair S R) paired (pair_rejected S R c.in_err-name.ensures.err.none))

pub read_entry-returns-in_err-value-clause-err : goal.read_entry-returns-in_err-value-clause-err
read_entry-returns-in_err-value-clause-err t c =
    let p = err_from_is_err_and c.from_residual-in_err-value.result c.from_residual-in_err-value.ensures.1 in
    let S = string_codec.encoding in
    let R = bin_codec.encoding.encodes in
    rw (p.1, p.2) (image_rejected (EncodesPair S.encodes R) paired (second_rejected S.encodes R S.laws c.in_ok-name.ensures.ok c.in_err-value.ensures.err))

pub read_entry-returns-clause-ok : goal.read_entry-returns-clause-ok
read_entry-returns-clause-ok t c =
    let S = string_codec.encoding.encodes in
    let R = (bin_level c.args.levels).encoding.encodes in
    let name = text (string_bytes c.in_ok-name.name) in
    let value = json_means c.in_ok-value.value in
    image_reads paired c.args.bytes.now c.args.offset.now c.read_json.new.offset (name, value)
    (pair_reads S R c.args.bytes.now c.args.offset.now c.de_bin.new.offset c.read_json.new.offset name value c.in_ok-name.ensures.ok c.in_ok-value.ensures.ok)

-- ---- read_json

pub read_json-returns-in_err-de_bin-clause-err : goal.read_json-returns-in_err-de_bin-clause-err
read_json-returns-in_err-de_bin-clause-err t c =
    let p = err_from_is_err_and c.from_residual.result c.from_residual.ensures.1 in
    rw (p.1, p.2) (no_tag c.args.bytes.now c.args.offset.now _ _ c.in_err-de_bin.ensures.err.none)

pub read_json-returns-in-0-clause-ok : goal.read_json-returns-in-0-clause-ok
read_json-returns-in-0-clause-ok t c =
    let tag = rw c.in-0.is at c.in_ok-de_bin.ensures.ok in
    document_reads c.args.levels (c.args.levels - 1) (one_below c.args.levels c.if-levels-eq0.false) c.args.bytes.now c.args.offset.now c.de_bin.new.offset c.de_bin.new.offset 0 _ J.Null means-Null tag (unit_reads c.args.bytes.now c.de_bin.new.offset)

pub read_json-returns-in_err-de_bin-in-1-clause-err : goal.read_json-returns-in_err-de_bin-in-1-clause-err
read_json-returns-in_err-de_bin-in-1-clause-err t c =
    let p = err_from_is_err_and c.from_residual-in_err-de_bin-in-1.result c.from_residual-in_err-de_bin-in-1.ensures.1 in
    let tag = rw c.in-1.is at c.in_ok-de_bin.ensures.ok in
    rw (p.1, p.2) (no_content c.args.bytes.now c.args.offset.now c.de_bin.new.offset _ 1 _ tag c.in_err-de_bin-in-1.ensures.err.none)

pub read_json-returns-in_ok-de_bin-in-1-clause-ok : goal.read_json-returns-in_ok-de_bin-in-1-clause-ok
read_json-returns-in_ok-de_bin-in-1-clause-ok t c =
    let tag = rw c.in-1.is at c.in_ok-de_bin.ensures.ok in
    document_reads c.args.levels (c.args.levels - 1) (one_below c.args.levels c.if-levels-eq0.false) c.args.bytes.now c.args.offset.now c.de_bin.new.offset _ 1 _ (J.Bool c.in_ok-de_bin-in-1.field-0) (means-Bool c.in_ok-de_bin-in-1.field-0) tag c.in_ok-de_bin-in-1.ensures.ok

pub read_json-returns-in_err-de_bin-in-2-clause-err : goal.read_json-returns-in_err-de_bin-in-2-clause-err
read_json-returns-in_err-de_bin-in-2-clause-err t c =
    let p = err_from_is_err_and c.from_residual-in_err-de_bin-in-2.result c.from_residual-in_err-de_bin-in-2.ensures.1 in
    let tag = rw c.in-2.is at c.in_ok-de_bin.ensures.ok in
    rw (p.1, p.2) (no_content c.args.bytes.now c.args.offset.now c.de_bin.new.offset _ 2 _ tag c.in_err-de_bin-in-2.ensures.err.none)

pub read_json-returns-in_ok-de_bin-in-2-clause-ok : goal.read_json-returns-in_ok-de_bin-in-2-clause-ok
read_json-returns-in_ok-de_bin-in-2-clause-ok t c =
    let tag = rw c.in-2.is at c.in_ok-de_bin.ensures.ok in
    document_reads c.args.levels (c.args.levels - 1) (one_below c.args.levels c.if-levels-eq0.false) c.args.bytes.now c.args.offset.now c.de_bin.new.offset _ 2 _ (J.U64 c.in_ok-de_bin-in-2.field-0) (means-U64 c.in_ok-de_bin-in-2.field-0) tag c.in_ok-de_bin-in-2.ensures.ok

pub read_json-returns-in_err-de_bin-in-3-clause-err : goal.read_json-returns-in_err-de_bin-in-3-clause-err
read_json-returns-in_err-de_bin-in-3-clause-err t c =
    let p = err_from_is_err_and c.from_residual-in_err-de_bin-in-3.result c.from_residual-in_err-de_bin-in-3.ensures.1 in
    let tag = rw c.in-3.is at c.in_ok-de_bin.ensures.ok in
    rw (p.1, p.2) (no_content c.args.bytes.now c.args.offset.now c.de_bin.new.offset _ 3 _ tag c.in_err-de_bin-in-3.ensures.err.none)

pub read_json-returns-in_ok-de_bin-in-3-clause-ok : goal.read_json-returns-in_ok-de_bin-in-3-clause-ok
read_json-returns-in_ok-de_bin-in-3-clause-ok t c =
    let tag = rw c.in-3.is at c.in_ok-de_bin.ensures.ok in
    let is = c.signed.ensures ∙ ap (λ z. tagged 2 (number z)) (to_z-of_z w64 c.in_ok-de_bin-in-3.field-0 (search rules)) in
    document_reads c.args.levels (c.args.levels - 1) (one_below c.args.levels c.if-levels-eq0.false) c.args.bytes.now c.args.offset.now c.de_bin.new.offset _ 3 _ c.signed.result is tag c.in_ok-de_bin-in-3.ensures.ok

pub read_json-returns-in_err-read_decimal-in-4-clause-err : goal.read_json-returns-in_err-read_decimal-in-4-clause-err
read_json-returns-in_err-read_decimal-in-4-clause-err t c =
    let p = err_from_is_err_and c.from_residual-in_err-read_decimal-in-4.result c.from_residual-in_err-read_decimal-in-4.ensures.1 in
    let tag = rw c.in-4.is at c.in_ok-de_bin.ensures.ok in
    rw (p.1, p.2) (no_content c.args.bytes.now c.args.offset.now c.de_bin.new.offset _ 4 _ tag c.in_err-read_decimal-in-4.ensures.err)

pub read_json-returns-in_ok-read_decimal-in-4-clause-ok : goal.read_json-returns-in_ok-read_decimal-in-4-clause-ok
read_json-returns-in_ok-read_decimal-in-4-clause-ok t c =
    let tag = rw c.in-4.is at c.in_ok-de_bin.ensures.ok in
    let is = decimal_means c.args.bytes.now c.de_bin.new.offset _ c.in_ok-read_decimal-in-4.field-0 c.in_ok-read_decimal-in-4.ensures.ok in
    document_reads c.args.levels (c.args.levels - 1) (one_below c.args.levels c.if-levels-eq0.false) c.args.bytes.now c.args.offset.now c.de_bin.new.offset _ 4 _ (J.Decimal c.in_ok-read_decimal-in-4.field-0) is tag c.in_ok-read_decimal-in-4.ensures.ok

pub read_json-returns-in_err-de_bin-in-5-clause-err : goal.read_json-returns-in_err-de_bin-in-5-clause-err
read_json-returns-in_err-de_bin-in-5-clause-err t c =
    let p = err_from_is_err_and c.from_residual-in_err-de_bin-in-5.result c.from_residual-in_err-de_bin-in-5.ensures.1 in
    let tag = rw c.in-5.is at c.in_ok-de_bin.ensures.ok in
    rw (p.1, p.2) (no_content c.args.bytes.now c.args.offset.now c.de_bin.new.offset _ 5 _ tag c.in_err-de_bin-in-5.ensures.err.none)

pub read_json-returns-in_ok-de_bin-in-5-clause-ok : goal.read_json-returns-in_ok-de_bin-in-5-clause-ok
read_json-returns-in_ok-de_bin-in-5-clause-ok t c =
    let tag = rw c.in-5.is at c.in_ok-de_bin.ensures.ok in
    document_reads c.args.levels (c.args.levels - 1) (one_below c.args.levels c.if-levels-eq0.false) c.args.bytes.now c.args.offset.now c.de_bin.new.offset _ 5 _ (J.Text c.in_ok-de_bin-in-5.field-0) (means-Text c.in_ok-de_bin-in-5.field-0) tag c.in_ok-de_bin-in-5.ensures.ok

pub read_json-returns-in_err-read_items-in-6-clause-err : goal.read_json-returns-in_err-read_items-in-6-clause-err
read_json-returns-in_err-read_items-in-6-clause-err t c =
    let p = err_from_is_err_and c.from_residual-in_err-read_items-in-6.result c.from_residual-in_err-read_items-in-6.ensures.1 in
    let tag = rw c.in-6.is at c.in_ok-de_bin.ensures.ok in
    rw (p.1, p.2) (no_content c.args.bytes.now c.args.offset.now c.de_bin.new.offset _ 6 _ tag c.in_err-read_items-in-6.ensures.err)

pub read_json-returns-in_ok-read_items-in-6-clause-ok : goal.read_json-returns-in_ok-read_items-in-6-clause-ok
read_json-returns-in_ok-read_items-in-6-clause-ok t c =
    let tag = rw c.in-6.is at c.in_ok-de_bin.ensures.ok in
    document_reads c.args.levels (c.args.levels - 1) (one_below c.args.levels c.if-levels-eq0.false) c.args.bytes.now c.args.offset.now c.de_bin.new.offset _ 6 _ (J.List c.in_ok-read_items-in-6.field-0) (means-List c.in_ok-read_items-in-6.field-0) tag c.in_ok-read_items-in-6.ensures.ok

pub read_json-returns-in_err-read_entries-in-7-clause-err : goal.read_json-returns-in_err-read_entries-in-7-clause-err
read_json-returns-in_err-read_entries-in-7-clause-err t c =
    let p = err_from_is_err_and c.from_residual-in_err-read_entries-in-7.result c.from_residual-in_err-read_entries-in-7.ensures.1 in
    let tag = rw c.in-7.is at c.in_ok-de_bin.ensures.ok in
    rw (p.1, p.2) (no_content c.args.bytes.now c.args.offset.now c.de_bin.new.offset _ 7 _ tag c.in_err-read_entries-in-7.ensures.err)

pub read_json-returns-in_ok-read_entries-in-7-clause-ok : goal.read_json-returns-in_ok-read_entries-in-7-clause-ok
read_json-returns-in_ok-read_entries-in-7-clause-ok t c =
    let tag = rw c.in-7.is at c.in_ok-de_bin.ensures.ok in
    document_reads c.args.levels (c.args.levels - 1) (one_below c.args.levels c.if-levels-eq0.false) c.args.bytes.now c.args.offset.now c.de_bin.new.offset _ 7 _ (J.Object c.in_ok-read_entries-in-7.field-0) (means-Object c.in_ok-read_entries-in-7.field-0) tag c.in_ok-read_entries-in-7.ensures.ok

pub read_json-returns-in_default-clause-err : goal.read_json-returns-in_default-clause-err
read_json-returns-in_default-clause-err t c =
    let tag = c.in_ok-de_bin.field-0 in
    let t0 : tag ≢ 0 = λ e. first_of (omega (arith, e), cc e, grind (arith, nat_tests, e)) in
    let t1 : tag ≢ 1 = λ e. first_of (omega (arith, e), cc e, grind (arith, nat_tests, e)) in
    let t2 : tag ≢ 2 = λ e. first_of (omega (arith, e), cc e, grind (arith, nat_tests, e)) in
    let t3 : tag ≢ 3 = λ e. first_of (omega (arith, e), cc e, grind (arith, nat_tests, e)) in
    let t4 : tag ≢ 4 = λ e. first_of (omega (arith, e), cc e, grind (arith, nat_tests, e)) in
    let t5 : tag ≢ 5 = λ e. first_of (omega (arith, e), cc e, grind (arith, nat_tests, e)) in
    let t6 : tag ≢ 6 = λ e. first_of (omega (arith, e), cc e, grind (arith, nat_tests, e)) in
    let t7 : tag ≢ 7 = λ e. first_of (omega (arith, e), cc e, grind (arith, nat_tests, e)) in
    unknown_tag c.args.bytes.now c.args.offset.now c.de_bin.new.offset tag _ c.in_ok-de_bin.ensures.ok (no_variant tag t0 t1 t2 t3 t4 t5 t6 t7) c.no_document.ensures
