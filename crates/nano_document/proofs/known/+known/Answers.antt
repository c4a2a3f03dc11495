use Rattle.std.proofs.Common.{◌≡◌, ◌+◌, ◌∷◌, pos, map, drop, subst, sym, ◌∙◌, refl, String, Global}
use Rattle.std.specs.Int.{w64}
use Rattle.std.specs.List.{AllByRecursion}
use Rattle.std.proofs.Math.Numerals.{add-one}
use Rattle.std.proofs.Math.Seq.{drop-cons}
use Rattle.nano_value.specs.Meaning.{LegalList, LegalPair, LegalText, LegalSigned, LegalUnsigned}
use Rattle.nano_value.specs.Meaning.{Meaning, listed, nothing}
use Rattle.nano_meaning.proofs.MeaningLaws.{list_is_legal, all_walked, pair_is_legal}
use Rattle.nano_document.specs.Documents.{json_means, entry_means}
use Rattle.nano_document.specs.DocumentCodecs.{json_codec}
use Rattle.nano_document.specs.IntegerCodecs.{integers}
use Rattle.nano_document.specs.declared.json.Json as J
use Rattle.nano_document.specs.declared.json.Json.{Json}
use Rattle.nano_document.specs.BinScalarImpls.{signed_fits}
use Rattle.nano_document.proofs.Documents.{legal_at, legal_decimal, means-Null, means-Bool, means-U64, means-I64, means-Text, means-List, means-Object}
use Rattle.nano_document.proofs.known.+known.Goals as goal

unsigned_is_legal : (m : Meaning) → LegalUnsigned 64 m → integers.legal m
unsigned_is_legal m h = record { part = pos h.part; has = h.has; is = h.is }

signed_is_legal : (m : Meaning) → LegalSigned w64 m → integers.legal m
signed_is_legal m h = record { part = h.part; has = signed_fits h.part h.has; is = h.is }

pub known_json-returns-in-Null : goal.known_json-returns-in-Null
known_json-returns-in-Null t c = rw c.in-Null.is (legal_at 0 J.Null nothing means-Null refl)

pub known_json-returns-in-Bool : goal.known_json-returns-in-Bool
known_json-returns-in-Bool t c = rw c.in-Bool.is (legal_at 1 (J.Bool c.in-Bool.truth) _ (means-Bool c.in-Bool.truth) c.known.ensures)

pub known_json-returns-in-U64 : goal.known_json-returns-in-U64
known_json-returns-in-U64 t c =
    rw c.in-U64.is (legal_at 2 (J.U64 c.in-U64.number) _ (means-U64 c.in-U64.number) (unsigned_is_legal _ c.known-in-U64.ensures))

pub known_json-returns-in-I64 : goal.known_json-returns-in-I64
known_json-returns-in-I64 t c =
    rw c.in-I64.is (legal_at 2 (J.I64 c.in-I64.number) _ (means-I64 c.in-I64.number) (signed_is_legal _ c.known-in-I64.ensures))

pub known_json-returns-in-Decimal : goal.known_json-returns-in-Decimal
known_json-returns-in-Decimal t c = rw c.in-Decimal.is (legal_decimal c.in-Decimal.text c.known-in-Decimal.ensures)

pub known_json-returns-in-Text : goal.known_json-returns-in-Text
known_json-returns-in-Text t c = rw c.in-Text.is (legal_at 3 (J.Text c.in-Text.text) _ (means-Text c.in-Text.text) c.known-in-Text.ensures)

pub known_json-returns-in-List : goal.known_json-returns-in-List
known_json-returns-in-List t c = rw c.in-List.is (legal_at 4 (J.List c.in-List.items) _ (means-List c.in-List.items) c.known_items.ensures)

pub known_json-returns-in-Object : goal.known_json-returns-in-Object
known_json-returns-in-Object t c = rw c.in-Object.is (legal_at 5 (J.Object c.in-Object.entries) _ (means-Object c.in-Object.entries) c.known_entries.ensures)

pub known_items-returns : goal.known_items-returns
known_items-returns t c =
    let legal = json_codec.encoding.legal in
    let P = λ (x : Json). legal (json_means x) in
    let items = c.deref-item-items.result.now in
    let all = all_walked P c.loop-item.item-index items c.loop-item-test.false c.loop-item.invariant in
    subst (λ xs. LegalList legal (listed (map json_means xs))) c.deref-item-items.ensures.value (list_is_legal json_means legal items c.deref-item-items.type_inv.0 all)

pub known_entries-loop-entry-preserved : goal.known_entries-loop-entry-preserved
known_entries-loop-entry-preserved t c h =
    let P = λ (x : String Global × Json). LegalPair LegalText json_codec.encoding.legal (entry_means json_means x) in
    let items = c.deref-entry-items.result.now in
    let i = c.loop-entry.entry-index in
    let x = c.entry-item.result in
    let next : drop i items ≡ x ∷ drop (i + 1) items = drop-cons items i x c.loop-entry-test.true ∙ (λ j. sym c.entry-item.is j ∷ drop (sym (add-one i) j) items) in
    let first = pair_is_legal LegalText json_codec.encoding.legal _ _ c.known.ensures c.known_json.ensures in
    c.loop-entry.invariant (subst (AllByRecursion P) (sym next) (first, h))

pub known_entries-returns : goal.known_entries-returns
known_entries-returns t c =
    let legal = LegalPair LegalText json_codec.encoding.legal in
    let means = entry_means json_means in
    let P = λ (x : String Global × Json). legal (means x) in
    let items = c.deref-entry-items.result.now in
    let all = all_walked P c.loop-entry.entry-index items c.loop-entry-test.false c.loop-entry.invariant in
    subst (λ xs. LegalList legal (listed (map means xs))) c.deref-entry-items.ensures.value (list_is_legal means legal items c.deref-entry-items.type_inv.0 all)
