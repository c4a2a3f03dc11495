use Rattle.std.proofs.Common.{sym, rules, ap}
use Rattle.nano_grammar.proofs.CollectingCalls.{turn_shorter, filled_none, filled_next}
use Rattle.nano_grammar.proofs.CollectingCalls.{filled_no_more, all_read, opening_not, item_not}
use Rattle.nano_grammar.proofs.CollectingCalls.{comma_not, closing_not}
use Rattle.nano_grammar.proofs.TokenCalls.{passed_on}
use Rattle.nano_json_tokens.specs.Token.{curlies}
use Rattle.nano_json_tokens.proofs.JsonLaws.{curly_brackets}
use Rattle.nano_json_tokens.specs.State.{pending}
use Rattle.nano_json.proofs.Json.{json_laws, few_left, curly_is, not_curly, entry_laws}
use Rattle.nano_value.specs.Ordered.{ordered_map_means}
use Rattle.nano_value.specs.Tables.{map_means, table_of}
use Rattle.nano_meaning.proofs.LastValuesLaws.{ordered_table_is_whole}
use Rattle.nano_json_nested.proofs.MapReaders.{HeldEntries}
use Rattle.nano_json_nested.proofs.maps.read_entries.Goals as goal

pub entries-init : goal.entries-init
entries-init g c =
    filled_none json_laws curlies curly_brackets (entry_laws g.K.JsonCodec.json.encoding.laws (g.T.NestedJson.at c.args.left).encoding.laws) (HeldEntries g.K.Ord.cmp g.K.Value.means g.T.NestedJson.means) c.new-entries.result (record { ordered = c.new-entries.ensures.ordered; same = ap (table_of g.K.Value.means g.T.NestedJson.means) c.new-entries.ensures.empty }) c.in_ok-curly_open.ensures

pub entries-smaller : goal.entries-smaller
entries-smaller g c = turn_shorter json_laws curlies curly_brackets (entry_laws g.K.JsonCodec.json.encoding.laws (g.T.NestedJson.at c.args.left).encoding.laws) c.in_ok-key.ensures c.in_ok-eat_comma_curly.ensures

pub entries-preserved : goal.entries-preserved
entries-preserved g c =
    filled_next json_laws curlies curly_brackets (entry_laws g.K.JsonCodec.json.encoding.laws (g.T.NestedJson.at c.args.left).encoding.laws) (HeldEntries g.K.Ord.cmp g.K.Value.means g.T.NestedJson.means) c.put_entry.new.entries c.entries.invariant c.in_ok-key.ensures c.in_ok-eat_comma_curly.ensures c.in-Ok.ensures

pub returns : goal.returns
returns g c =
    let few = few_left c.args.state.now c.args.input.now (search (rules, c.bytes_left-capacity.ensures.value, c.bytes_left-capacity.ensures.small)) in
    all_read json_laws curlies curly_brackets (entry_laws g.K.JsonCodec.json.encoding.laws (g.T.NestedJson.at c.args.left).encoding.laws) (HeldEntries g.K.Ord.cmp g.K.Value.means g.T.NestedJson.means) map_means (λ x. ordered_map_means g.K.Ord.cmp g.K.Value.means g.T.NestedJson.means x.entries) (λ x es held. ordered_table_is_whole held) few c.entries.invariant
    c.in_ok-curly_close.ensures

pub returns-in_default : goal.returns-in_default
returns-in_default g c =
    filled_no_more json_laws curlies curly_brackets (entry_laws g.K.JsonCodec.json.encoding.laws (g.T.NestedJson.at c.args.left).encoding.laws) (HeldEntries g.K.Ord.cmp g.K.Value.means g.T.NestedJson.means) c.entries.invariant c.in_ok-key.ensures c.err_memory.ensures.memory c.err_memory.ensures.made

pub returns-in_err-curly_open : goal.returns-in_err-curly_open
returns-in_err-curly_open g c =
    passed_on _ _ c.from_residual.result c.from_residual.ensures.1
    (opening_not json_laws curlies curly_brackets (entry_laws g.K.JsonCodec.json.encoding.laws (g.T.NestedJson.at c.args.left).encoding.laws) (HeldEntries g.K.Ord.cmp g.K.Value.means g.T.NestedJson.means) map_means c.in_err-curly_open.ensures.fails)

pub returns-in_err-key : goal.returns-in_err-key
returns-in_err-key g c =
    let other = not_curly (pending c.entries.state) (sym c.entries-test.ensures) in
    passed_on _ _ c.from_residual-in_err-key.result c.from_residual-in_err-key.ensures.1
    (item_not json_laws curlies curly_brackets (entry_laws g.K.JsonCodec.json.encoding.laws (g.T.NestedJson.at c.args.left).encoding.laws) (HeldEntries g.K.Ord.cmp g.K.Value.means g.T.NestedJson.means) map_means c.entries.invariant other c.in_err-key.ensures)

pub returns-in_err-eat_comma_curly : goal.returns-in_err-eat_comma_curly
returns-in_err-eat_comma_curly g c =
    passed_on _ _ c.from_residual-in_err-eat_comma_curly.result c.from_residual-in_err-eat_comma_curly.ensures.1
    (comma_not json_laws curlies curly_brackets (entry_laws g.K.JsonCodec.json.encoding.laws (g.T.NestedJson.at c.args.left).encoding.laws) (HeldEntries g.K.Ord.cmp g.K.Value.means g.T.NestedJson.means) map_means c.entries.invariant c.in_ok-key.ensures c.in_err-eat_comma_curly.ensures.1.fails)

pub returns-in_err-curly_close : goal.returns-in_err-curly_close
returns-in_err-curly_close g c =
    let closing = curly_is (pending c.entries.state) (sym c.entries-test.ensures) in
    passed_on _ _ c.from_residual-in_err-curly_close.result c.from_residual-in_err-curly_close.ensures.1
    (closing_not json_laws curlies curly_brackets (entry_laws g.K.JsonCodec.json.encoding.laws (g.T.NestedJson.at c.args.left).encoding.laws) (HeldEntries g.K.Ord.cmp g.K.Value.means g.T.NestedJson.means) map_means c.entries.invariant closing c.in_err-curly_close.ensures.fails)
