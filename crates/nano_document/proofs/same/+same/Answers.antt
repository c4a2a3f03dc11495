use Rattle.std.proofs.Common.{◌<◌, ◌^◌, FitsSigned, Some, map, sym, ◌∙◌, ap, arith, rules, true≢false}
use Rattle.nano_document.specs.Documents.{json_means, entry_means}
use Rattle.nano_document.proofs.Comparing.{one_same}
use Rattle.std.specs.Int.{w64}
use Rattle.std.specs.Option.{option_eq}
use Rattle.std.specs.Ordering.{int_eq}
use Rattle.std.proofs.lemmas.Int.{to_z-of_z}
use Rattle.nano_document.proofs.Documents.{means-Text}
use Rattle.nano_document.proofs.Sameness.{turned, u64_is, i64_is, u64_same, i64_same, lists_same, no_list_same, objects_same, no_object_same}
use Rattle.nano_document.proofs.same.+same.Goals as goal

pub same_entries-returns-then-not-same_entry : goal.same_entries-returns-then-not-same_entry
same_entries-returns-then-not-same_entry t c = (
  λ e. absurd (true≢false (sym e)),
  λ e.
      sym c.if-not-same_entry.true ∙ c.same_entry.ensures.1 (
      one_same (entry_means json_means) c.args.entries.now c.args.others.now c.loop-i.i c.index-entries-i.result c.index-others-i.result (omega arith) (omega arith) c.index-entries-i.is c.index-others-i.is e),
)

pub same_items-returns-then-not-same_json : goal.same_items-returns-then-not-same_json
same_items-returns-then-not-same_json t c = (
  λ e. absurd (true≢false (sym e)),
  λ e.
      sym c.if-not-same_json.true ∙ c.same_json.ensures.1 (
      one_same json_means c.args.items.now c.args.others.now c.loop-i.i c.index-items-i.result c.index-others-i.result (omega arith) (omega arith) c.index-items-i.is c.index-others-i.is e),
)

pub same_json-returns-in-U64 : goal.same_json-returns-in-U64
same_json-returns-in-U64 t c =
    let small : c.in-U64.number < 2 ^ 64 = search rules in
    let both = u64_same c.args.one.now c.args.other.now c.in-U64.number small c.in-U64.is c.as_u64.result c.as_u64.ensures in
    let decides = u64_is c.as_u64.result c.in-U64.number in
    (λ h. both.0 (decides.0 (sym c.eq-in-U64.ensures ∙ h)), λ e. c.eq-in-U64.ensures ∙ decides.1 (both.1 e))

pub same_json-returns-in-I64 : goal.same_json-returns-in-I64
same_json-returns-in-I64 t c =
    let small : FitsSigned w64 c.in-I64.number = search rules in
    let both = i64_same c.args.one.now c.args.other.now c.in-I64.number small c.in-I64.is c.as_i64.result c.as_i64.ensures in
    let decides = i64_is c.as_i64.result c.in-I64.number in
    let answer = c.eq-in-I64.ensures ∙ ap (λ z. option_eq int_eq c.as_i64.result (Some z)) (to_z-of_z w64 c.in-I64.number small) in
    (λ h. both.0 (decides.0 (sym answer ∙ h)), λ e. answer ∙ decides.1 (both.1 e))

pub same_json-returns-in-Some : goal.same_json-returns-in-Some
same_json-returns-in-Some t c =
    let both = lists_same c.args.one.now c.args.other.now c.in-List.items c.in-Some.others.now c.in-List.is c.in-Some.ensures in
    let left = ap (map json_means) c.as_slice-left_items.ensures.value in
    let right = ap (map json_means) c.as_slice-right_items.ensures.value in
    (λ h. both.0 (sym left ∙ (c.same_items.ensures.0 h ∙ right)), λ e. c.same_items.ensures.1 (left ∙ (both.1 e ∙ sym right)))

pub same_json-returns-in-None : goal.same_json-returns-in-None
same_json-returns-in-None t c = no_list_same c.args.one.now c.args.other.now c.in-List.items c.in-List.is c.in-None.ensures

pub same_json-returns-in-Some-as_object : goal.same_json-returns-in-Some-as_object
same_json-returns-in-Some-as_object t c =
    let both = objects_same c.args.one.now c.args.other.now c.in-Object.entries c.in-Some-as_object.others.now c.in-Object.is c.in-Some-as_object.ensures in
    let left = ap (map (entry_means json_means)) c.as_slice-left_entries.ensures.value in
    let right = ap (map (entry_means json_means)) c.as_slice-right_entries.ensures.value in
    (λ h. both.0 (sym left ∙ (c.same_entries.ensures.0 h ∙ right)), λ e. c.same_entries.ensures.1 (left ∙ (both.1 e ∙ sym right)))

pub same_json-returns-in-None-as_object : goal.same_json-returns-in-None-as_object
same_json-returns-in-None-as_object t c = no_object_same c.args.one.now c.args.other.now c.in-Object.entries c.in-Object.is c.in-None-as_object.ensures

pub same_json-returns-in-Text : goal.same_json-returns-in-Text
same_json-returns-in-Text t c =
    turned c.args.one.now c.args.other.now _ (ap json_means c.in-Text.is ∙ means-Text c.in-Text.text) c.is_text.ensures

pub same_json-returns-in-Decimal : goal.same_json-returns-in-Decimal
same_json-returns-in-Decimal t c = rw c.in-Decimal.is c.same_decimal.ensures
