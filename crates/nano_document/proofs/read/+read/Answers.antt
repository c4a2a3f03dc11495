use Rattle.std.proofs.Common.{◌-◌, ◌<◌, ◌^◌, ◌∷◌, [], pos, FitsSigned, map, refl, sym, ◌∙◌, ap, rules}
use Rattle.std.specs.Int.{w64}
use Rattle.std.proofs.lemmas.Int.{to_z-of_z}
use Rattle.nano_value.specs.Meaning.{number, truth, nothing, listed}
use Rattle.nano_meaning.specs.Sums.{tagged}
use Rattle.nano_meaning.proofs.LastValuesLaws.{one_more_listed}
use Rattle.nano_grammar.proofs.CollectingCalls.{turn_shorter, filled_none, filled_next, filled_no_more, all_read}
use Rattle.nano_grammar.proofs.TokenCalls.{passed_on, fails_as}
use Rattle.nano_grammar.proofs.ReadingCalls.{one_read, one_stopped, unit_read, unit_stopped, entry_read}
use Rattle.nano_json_tokens.specs.Token.{blocks, curlies}
use Rattle.nano_json_tokens.proofs.JsonLaws.{json, block_brackets, curly_brackets}
use Rattle.nano_json_tokens.proofs.ScalarsLaws.{truth_tokens, signed_tokens}
use Rattle.nano_json_tokens.specs.State.{pending}
use Rattle.nano_json_tokens.specs.Token.{null, colon, comma, integer_of, block_open, block_close, curly_open, curly_close}
use Rattle.nano_json_tokens.specs.declared.token.DeJsonTok.TheVariants as T
use Rattle.nano_json.proofs.Json.{json_laws, few_left, close_is, not_close, curly_is, not_curly}
use Rattle.nano_document.specs.Documents.{json_means, entry_means}
use Rattle.nano_document.specs.DocumentCodecs.{level_codec, string_codec}
use Rattle.nano_document.specs.IntegerCodecs.{IsInteger}
use Rattle.nano_document.specs.declared.json.Json as J
use Rattle.nano_document.specs.BinScalarImpls.{signed_fits}
use Rattle.nano_document.proofs.Documents.{means-Null, means-Bool, means-U64, means-Text, means-List, means-Object}
use Rattle.nano_document.proofs.FirstFaults.{not_taken, none_after_token, unmoved, one_alone, is_colon, is_comma, is_block_open, is_curly_open}
use Rattle.nano_document.proofs.FirstLists.{few_more, opening_first, item_first, comma_first, closing_first}
use Rattle.nano_document.proofs.Reading.{one_below, read_at, decimal_at, first_at, none_after, not_begun, no_level, no_entry, pending_is, pending_kind, other_kind}
use Rattle.nano_document.proofs.Reading.{ItemsHold, EntriesHold, level_laws, entry_laws_at, entry_read_whole, name_first, colon_first, document_first}
use Rattle.nano_document.proofs.read.+read.Goals as goal

-- ---- read_items

pub read_items-items-init : goal.read_items-items-init
read_items-items-init t c =
    filled_none json_laws blocks block_brackets (level_laws c.args.levels) ItemsHold c.new-items.result (ap (map (json_means)) c.new-items.ensures.items) c.in_ok-block_open.ensures

pub read_items-items-smaller : goal.read_items-items-smaller
read_items-items-smaller t c = turn_shorter json_laws blocks block_brackets (level_laws c.args.levels) c.in_ok-item.ensures c.in_ok-eat_comma_block.ensures

pub read_items-items-preserved : goal.read_items-items-preserved
read_items-items-preserved t c =
    filled_next json_laws blocks block_brackets (level_laws c.args.levels) ItemsHold c.push.new.self c.items.invariant c.in_ok-item.ensures c.in_ok-eat_comma_block.ensures
    (λ ms held. one_more_listed (json_means) c.items.items.items c.push.new.self.items ms c.in_ok-item.item held c.in-Ok.ensures.items)

pub read_items-returns : goal.read_items-returns
read_items-returns t c =
    let few = few_left c.args.state.now c.args.input.now (search (rules, c.bytes_left-capacity.ensures.value, c.bytes_left-capacity.ensures.small)) in
    all_read json_laws blocks block_brackets (level_laws c.args.levels) ItemsHold listed (λ xs. listed (map (json_means) xs.items)) (λ xs ms held. ap listed held) few c.items.invariant
    c.in_ok-block_close.ensures

pub read_items-returns-in_default : goal.read_items-returns-in_default
read_items-returns-in_default t c =
    filled_no_more json_laws blocks block_brackets (level_laws c.args.levels) ItemsHold c.items.invariant c.in_ok-item.ensures c.err_memory.ensures.memory c.err_memory.ensures.made

pub read_items-returns-in_err-block_open : goal.read_items-returns-in_err-block_open
read_items-returns-in_err-block_open t c =
    passed_on _ _ c.from_residual.result c.from_residual.ensures.1
    (opening_first blocks block_brackets (level_laws c.args.levels) ItemsHold
    (not_taken block_open is_block_open refl (λ n. unmoved (c.in_err-block_open.ensures.unchanged n)) c.in_err-block_open.ensures.fails))

pub read_items-returns-in_err-item : goal.read_items-returns-in_err-item
read_items-returns-in_err-item t c =
    let few = few_more c.args.state.now c.args.input.now (search (rules, c.bytes_left-capacity.ensures.value, c.bytes_left-capacity.ensures.small)) in
    let other = not_close (pending c.items.state) (sym c.items-test.ensures) in
    passed_on _ _ c.from_residual-in_err-item.result c.from_residual-in_err-item.ensures.1
    (item_first blocks block_brackets (level_laws c.args.levels) ItemsHold few c.items.invariant other c.in_err-item.ensures)

pub read_items-returns-in_err-eat_comma_block : goal.read_items-returns-in_err-eat_comma_block
read_items-returns-in_err-eat_comma_block t c =
    let few = few_more c.args.state.now c.args.input.now (search (rules, c.bytes_left-capacity.ensures.value, c.bytes_left-capacity.ensures.small)) in
    let h = c.in_err-eat_comma_block.ensures in
    passed_on _ _ c.from_residual-in_err-eat_comma_block.result c.from_residual-in_err-eat_comma_block.ensures.1
    (comma_first blocks block_brackets (level_laws c.args.levels) ItemsHold few c.items.invariant c.in_ok-item.ensures h.0
    (not_taken comma is_comma refl (λ n. unmoved (h.1.unchanged n)) (fails_as (λ k. k.1) h.1.fails)))

pub read_items-returns-in_err-block_close : goal.read_items-returns-in_err-block_close
read_items-returns-in_err-block_close t c =
    let few = few_more c.args.state.now c.args.input.now (search (rules, c.bytes_left-capacity.ensures.value, c.bytes_left-capacity.ensures.small)) in
    let closing = close_is (pending c.items.state) (sym c.items-test.ensures) in
    passed_on _ _ c.from_residual-in_err-block_close.result c.from_residual-in_err-block_close.ensures.1
    (closing_first blocks block_brackets (level_laws c.args.levels) ItemsHold few c.items.invariant closing (none_after_token block_close closing c.in_err-block_close.ensures.fails))

-- ---- read_entries

pub read_entries-entries-init : goal.read_entries-entries-init
read_entries-entries-init t c =
    filled_none json_laws curlies curly_brackets (entry_laws_at c.args.levels) EntriesHold c.new-entries.result (ap (map (entry_means json_means)) c.new-entries.ensures.items) c.in_ok-curly_open.ensures

pub read_entries-entries-smaller : goal.read_entries-entries-smaller
read_entries-entries-smaller t c = turn_shorter json_laws curlies curly_brackets (entry_laws_at c.args.levels) c.in_ok-entry.ensures c.in_ok-eat_comma_curly.ensures

pub read_entries-entries-preserved : goal.read_entries-entries-preserved
read_entries-entries-preserved t c =
    filled_next json_laws curlies curly_brackets (entry_laws_at c.args.levels) EntriesHold c.push.new.self c.entries.invariant c.in_ok-entry.ensures c.in_ok-eat_comma_curly.ensures
    (λ ms held. one_more_listed (entry_means json_means) c.entries.entries.items c.push.new.self.items ms c.in_ok-entry.entry held c.in-Ok.ensures.items)

pub read_entries-returns : goal.read_entries-returns
read_entries-returns t c =
    let few = few_left c.args.state.now c.args.input.now (search (rules, c.bytes_left-capacity.ensures.value, c.bytes_left-capacity.ensures.small)) in
    all_read json_laws curlies curly_brackets (entry_laws_at c.args.levels) EntriesHold listed (λ xs. listed (map (entry_means json_means) xs.items)) (λ xs ms held. ap listed held) few c.entries.invariant
    c.in_ok-curly_close.ensures

pub read_entries-returns-in_default : goal.read_entries-returns-in_default
read_entries-returns-in_default t c =
    filled_no_more json_laws curlies curly_brackets (entry_laws_at c.args.levels) EntriesHold c.entries.invariant c.in_ok-entry.ensures c.err_memory.ensures.memory c.err_memory.ensures.made

pub read_entries-returns-in_err-curly_open : goal.read_entries-returns-in_err-curly_open
read_entries-returns-in_err-curly_open t c =
    passed_on _ _ c.from_residual.result c.from_residual.ensures.1
    (opening_first curlies curly_brackets (entry_laws_at c.args.levels) EntriesHold
    (not_taken curly_open is_curly_open refl (λ n. unmoved (c.in_err-curly_open.ensures.unchanged n)) c.in_err-curly_open.ensures.fails))

pub read_entries-returns-in_err-entry : goal.read_entries-returns-in_err-entry
read_entries-returns-in_err-entry t c =
    let few = few_more c.args.state.now c.args.input.now (search (rules, c.bytes_left-capacity.ensures.value, c.bytes_left-capacity.ensures.small)) in
    let other = not_curly (pending c.entries.state) (sym c.entries-test.ensures) in
    passed_on _ _ c.from_residual-in_err-entry.result c.from_residual-in_err-entry.ensures.1
    (item_first curlies curly_brackets (entry_laws_at c.args.levels) EntriesHold few c.entries.invariant other c.in_err-entry.ensures)

pub read_entries-returns-in_err-eat_comma_curly : goal.read_entries-returns-in_err-eat_comma_curly
read_entries-returns-in_err-eat_comma_curly t c =
    let few = few_more c.args.state.now c.args.input.now (search (rules, c.bytes_left-capacity.ensures.value, c.bytes_left-capacity.ensures.small)) in
    let h = c.in_err-eat_comma_curly.ensures in
    passed_on _ _ c.from_residual-in_err-eat_comma_curly.result c.from_residual-in_err-eat_comma_curly.ensures.1
    (comma_first curlies curly_brackets (entry_laws_at c.args.levels) EntriesHold few c.entries.invariant c.in_ok-entry.ensures h.0
    (not_taken comma is_comma refl (λ n. unmoved (h.1.unchanged n)) (fails_as (λ k. k.1) h.1.fails)))

pub read_entries-returns-in_err-curly_close : goal.read_entries-returns-in_err-curly_close
read_entries-returns-in_err-curly_close t c =
    let few = few_more c.args.state.now c.args.input.now (search (rules, c.bytes_left-capacity.ensures.value, c.bytes_left-capacity.ensures.small)) in
    let closing = curly_is (pending c.entries.state) (sym c.entries-test.ensures) in
    passed_on _ _ c.from_residual-in_err-curly_close.result c.from_residual-in_err-curly_close.ensures.1
    (closing_first curlies curly_brackets (entry_laws_at c.args.levels) EntriesHold few c.entries.invariant closing (none_after_token curly_close closing c.in_err-curly_close.ensures.fails))

-- ---- read_entry

pub read_entry-returns : goal.read_entry-returns
read_entry-returns t c =
    let S = (level_codec c.args.levels).encoding.encodes in
    entry_read_whole c.args.levels _ _ (entry_read json_laws colon string_codec.encoding.laws S c.in_ok-name.ensures c.in_ok-colon.ensures c.in_ok-value.ensures)

pub read_entry-returns-then-levels-eq0 : goal.read_entry-returns-then-levels-eq0
read_entry-returns-then-levels-eq0 t c = no_entry c.args.levels c.if-levels-eq0.true refl c.too_deep.ensures.1

pub read_entry-returns-in_err-name : goal.read_entry-returns-in_err-name
read_entry-returns-in_err-name t c =
    passed_on _ _ c.from_residual.result c.from_residual.ensures.1
    (name_first c.args.levels (c.args.levels - 1) (one_below c.args.levels c.if-levels-eq0.false) c.in_err-name.ensures)

pub read_entry-returns-in_err-colon : goal.read_entry-returns-in_err-colon
read_entry-returns-in_err-colon t c =
    let h = c.in_err-colon.ensures in
    passed_on _ _ c.from_residual-in_err-colon.result c.from_residual-in_err-colon.ensures.1
    (colon_first c.args.levels (c.args.levels - 1) (one_below c.args.levels c.if-levels-eq0.false) c.in_ok-name.ensures
    (not_taken colon is_colon refl (λ n. unmoved (h.unchanged n)) h.fails))

pub read_entry-returns-in_err-value : goal.read_entry-returns-in_err-value
read_entry-returns-in_err-value t c =
    passed_on _ _ c.from_residual-in_err-value.result c.from_residual-in_err-value.ensures.1
    (document_first c.args.levels (c.args.levels - 1) (one_below c.args.levels c.if-levels-eq0.false) c.in_ok-name.ensures c.in_ok-colon.ensures c.in_err-value.ensures)

-- ---- read_json

pub read_json-returns-then-levels-eq0 : goal.read_json-returns-then-levels-eq0
read_json-returns-then-levels-eq0 t c = no_level c.args.levels c.if-levels-eq0.true refl c.too_deep.ensures.1

pub read_json-returns-in_ok-next_tok-in-Null : goal.read_json-returns-in_ok-next_tok-in-Null
read_json-returns-in_ok-next_tok-in-Null t c =
    let is = pending_is c.args.state.now T.Null c.in-Null.is in
    read_at c.args.levels (c.args.levels - 1) (one_below c.args.levels c.if-levels-eq0.false) 0 J.Null nothing means-Null (unit_read json null is c.in_ok-next_tok-in-Null.ensures)

pub read_json-returns-in_err-next_tok-in-Null : goal.read_json-returns-in_err-next_tok-in-Null
read_json-returns-in_err-next_tok-in-Null t c =
    let is = pending_is c.args.state.now T.Null c.in-Null.is in
    let kind = pending_kind c.args.state.now T.Null c.in-Null.is in
    passed_on _ _ c.from_residual.result c.from_residual.ensures.1
    (none_after c.args.levels (c.args.levels - 1) (one_below c.args.levels c.if-levels-eq0.false) 0 kind nothing
    (record { one = ap (λ u. u ∷ []) is; is = refl }) (unit_stopped json null refl c.in_err-next_tok-in-Null.ensures.fails))

pub read_json-returns-in_ok-next_tok-in-Bool : goal.read_json-returns-in_ok-next_tok-in-Bool
read_json-returns-in_ok-next_tok-in-Bool t c =
    let is = pending_is c.args.state.now (T.Bool c.in-Bool.truth) c.in-Bool.is in
    read_at c.args.levels (c.args.levels - 1) (one_below c.args.levels c.if-levels-eq0.false) 1 (J.Bool c.in-Bool.truth) _ (means-Bool c.in-Bool.truth)
    (one_read json truth truth_tokens.carries (λ _. Unit {0}) c.in-Bool.truth is tt c.in_ok-next_tok-in-Bool.ensures)

pub read_json-returns-in_err-next_tok-in-Bool : goal.read_json-returns-in_err-next_tok-in-Bool
read_json-returns-in_err-next_tok-in-Bool t c =
    let is = pending_is c.args.state.now (T.Bool c.in-Bool.truth) c.in-Bool.is in
    let kind = pending_kind c.args.state.now (T.Bool c.in-Bool.truth) c.in-Bool.is in
    passed_on _ _ c.from_residual-in_err-next_tok-in-Bool.result c.from_residual-in_err-next_tok-in-Bool.ensures.1
    (none_after c.args.levels (c.args.levels - 1) (one_below c.args.levels c.if-levels-eq0.false) 1 kind (truth c.in-Bool.truth)
    (one_alone truth truth_tokens.carries (λ _. Unit {0}) (pending c.args.state.now) c.in-Bool.truth is tt)
    (one_stopped json truth truth_tokens.carries (λ _. Unit {0}) refl c.in_err-next_tok-in-Bool.ensures.fails))

pub read_json-returns-in_ok-next_tok-in-U64 : goal.read_json-returns-in_ok-next_tok-in-U64
read_json-returns-in_ok-next_tok-in-U64 t c =
    let is = ap integer_of (pending_is c.args.state.now (T.U64 c.in-U64.value) c.in-U64.is) in
    let few : c.in-U64.value < 2 ^ 64 = search rules in
    read_at c.args.levels (c.args.levels - 1) (one_below c.args.levels c.if-levels-eq0.false) 2 (J.U64 c.in-U64.value) _ (means-U64 c.in-U64.value)
    (one_read json number signed_tokens.carries IsInteger (pos c.in-U64.value) is few c.in_ok-next_tok-in-U64.ensures)

pub read_json-returns-in_err-next_tok-in-U64 : goal.read_json-returns-in_err-next_tok-in-U64
read_json-returns-in_err-next_tok-in-U64 t c =
    let is = ap integer_of (pending_is c.args.state.now (T.U64 c.in-U64.value) c.in-U64.is) in
    let few : c.in-U64.value < 2 ^ 64 = search rules in
    let kind = pending_kind c.args.state.now (T.U64 c.in-U64.value) c.in-U64.is in
    passed_on _ _ c.from_residual-in_err-next_tok-in-U64.result c.from_residual-in_err-next_tok-in-U64.ensures.1
    (none_after c.args.levels (c.args.levels - 1) (one_below c.args.levels c.if-levels-eq0.false) 2 kind (number (pos c.in-U64.value))
    (one_alone number signed_tokens.carries IsInteger (pending c.args.state.now) (pos c.in-U64.value) is few)
    (one_stopped json number signed_tokens.carries IsInteger refl c.in_err-next_tok-in-U64.ensures.fails))

pub read_json-returns-in_ok-next_tok-in-I64 : goal.read_json-returns-in_ok-next_tok-in-I64
read_json-returns-in_ok-next_tok-in-I64 t c =
    let is = ap integer_of (pending_is c.args.state.now (T.I64 c.in-I64.value) c.in-I64.is) in
    let fits : FitsSigned w64 c.in-I64.value = search rules in
    read_at c.args.levels (c.args.levels - 1) (one_below c.args.levels c.if-levels-eq0.false) 2 c.signed.result _ (c.signed.ensures ∙ ap (λ z. tagged 2 (number z)) (to_z-of_z w64 c.in-I64.value fits))
    (one_read json number signed_tokens.carries IsInteger c.in-I64.value is (signed_fits c.in-I64.value fits) c.in_ok-next_tok-in-I64.ensures)

pub read_json-returns-in_err-next_tok-in-I64 : goal.read_json-returns-in_err-next_tok-in-I64
read_json-returns-in_err-next_tok-in-I64 t c =
    let is = ap integer_of (pending_is c.args.state.now (T.I64 c.in-I64.value) c.in-I64.is) in
    let fits : FitsSigned w64 c.in-I64.value = search rules in
    let kind = pending_kind c.args.state.now (T.I64 c.in-I64.value) c.in-I64.is in
    passed_on _ _ c.from_residual-in_err-next_tok-in-I64.result c.from_residual-in_err-next_tok-in-I64.ensures.1
    (none_after c.args.levels (c.args.levels - 1) (one_below c.args.levels c.if-levels-eq0.false) 2 kind (number c.in-I64.value)
    (one_alone number signed_tokens.carries IsInteger (pending c.args.state.now) c.in-I64.value is (signed_fits c.in-I64.value fits))
    (one_stopped json number signed_tokens.carries IsInteger refl c.in_err-next_tok-in-I64.ensures.fails))

pub read_json-returns-in_ok-read_decimal-in-F64 : goal.read_json-returns-in_ok-read_decimal-in-F64
read_json-returns-in_ok-read_decimal-in-F64 t c =
    decimal_at c.args.levels (c.args.levels - 1) (one_below c.args.levels c.if-levels-eq0.false) c.in_ok-read_decimal-in-F64.field-0 c.in_ok-read_decimal-in-F64.ensures

pub read_json-returns-in_err-read_decimal-in-F64 : goal.read_json-returns-in_err-read_decimal-in-F64
read_json-returns-in_err-read_decimal-in-F64 t c =
    let kind = pending_kind c.args.state.now T.F64 c.in-F64.is in
    passed_on _ _ c.from_residual-in_err-read_decimal-in-F64.result c.from_residual-in_err-read_decimal-in-F64.ensures.1
    (first_at c.args.levels (c.args.levels - 1) (one_below c.args.levels c.if-levels-eq0.false) 6 kind c.in_err-read_decimal-in-F64.ensures)

pub read_json-returns-in_ok-read_text-in-Str : goal.read_json-returns-in_ok-read_text-in-Str
read_json-returns-in_ok-read_text-in-Str t c =
    read_at c.args.levels (c.args.levels - 1) (one_below c.args.levels c.if-levels-eq0.false) 3 (J.Text c.in_ok-read_text-in-Str.field-0) _ (means-Text c.in_ok-read_text-in-Str.field-0) c.in_ok-read_text-in-Str.ensures

pub read_json-returns-in_err-read_text-in-Str : goal.read_json-returns-in_err-read_text-in-Str
read_json-returns-in_err-read_text-in-Str t c =
    let kind = pending_kind c.args.state.now T.Str c.in-Str.is in
    passed_on _ _ c.from_residual-in_err-read_text-in-Str.result c.from_residual-in_err-read_text-in-Str.ensures.1
    (first_at c.args.levels (c.args.levels - 1) (one_below c.args.levels c.if-levels-eq0.false) 3 kind c.in_err-read_text-in-Str.ensures)

pub read_json-returns-in_ok-read_items-in-BlockOpen : goal.read_json-returns-in_ok-read_items-in-BlockOpen
read_json-returns-in_ok-read_items-in-BlockOpen t c =
    read_at c.args.levels (c.args.levels - 1) (one_below c.args.levels c.if-levels-eq0.false) 4 (J.List c.in_ok-read_items-in-BlockOpen.field-0) _ (means-List c.in_ok-read_items-in-BlockOpen.field-0) c.in_ok-read_items-in-BlockOpen.ensures

pub read_json-returns-in_err-read_items-in-BlockOpen : goal.read_json-returns-in_err-read_items-in-BlockOpen
read_json-returns-in_err-read_items-in-BlockOpen t c =
    let kind = pending_kind c.args.state.now T.BlockOpen c.in-BlockOpen.is in
    passed_on _ _ c.from_residual-in_err-read_items-in-BlockOpen.result c.from_residual-in_err-read_items-in-BlockOpen.ensures.1
    (first_at c.args.levels (c.args.levels - 1) (one_below c.args.levels c.if-levels-eq0.false) 4 kind c.in_err-read_items-in-BlockOpen.ensures)

pub read_json-returns-in_ok-read_entries-in-CurlyOpen : goal.read_json-returns-in_ok-read_entries-in-CurlyOpen
read_json-returns-in_ok-read_entries-in-CurlyOpen t c =
    read_at c.args.levels (c.args.levels - 1) (one_below c.args.levels c.if-levels-eq0.false) 5 (J.Object c.in_ok-read_entries-in-CurlyOpen.field-0) _ (means-Object c.in_ok-read_entries-in-CurlyOpen.field-0) c.in_ok-read_entries-in-CurlyOpen.ensures

pub read_json-returns-in_err-read_entries-in-CurlyOpen : goal.read_json-returns-in_err-read_entries-in-CurlyOpen
read_json-returns-in_err-read_entries-in-CurlyOpen t c =
    let kind = pending_kind c.args.state.now T.CurlyOpen c.in-CurlyOpen.is in
    passed_on _ _ c.from_residual-in_err-read_entries-in-CurlyOpen.result c.from_residual-in_err-read_entries-in-CurlyOpen.ensures.1
    (first_at c.args.levels (c.args.levels - 1) (one_below c.args.levels c.if-levels-eq0.false) 5 kind c.in_err-read_entries-in-CurlyOpen.ensures)

pub read_json-returns-in_default : goal.read_json-returns-in_default
read_json-returns-in_default t c =
    let not = c.in_default in
    let kind = other_kind c.args.state.now.tok _ _ not.not-Null not.not-Bool not.not-U64 not.not-I64 not.not-Str not.not-BlockOpen not.not-CurlyOpen not.not-F64 in
    not_begun c.args.levels (c.args.levels - 1) (one_below c.args.levels c.if-levels-eq0.false) refl kind c.err_token.ensures
