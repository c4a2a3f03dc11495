-- the order of the keys is that of what they mean
use Rattle.std.proofs.Common.{arith, ◌≡◌, ◌∙◌, ap, ◌++◌, string_bytes, OnOk, sym, subst}
use Rattle.std.specs.Str.{encode_utf8_all}
use Rattle.nano_value.specs.Tables.{ascending}
use Rattle.nano_meaning.proofs.AscendingLaws.{ascending-sorted}
use Rattle.nano_value.specs.Order.{by_meaning}
use Rattle.nano_meaning.proofs.OrderLaws.{followed}
use Rattle.nano_meaning.proofs.OrderedMapsLaws.{sorted_entries}
use Rattle.nano_text.specs.Place.{saturating_next}
use Rattle.nano_json.specs.Lists.{written_entries}
use Rattle.nano_text.proofs.RollbackLaws.{unchanged_by, unchanged_ok, cut_back_err}
use Rattle.nano_json_nested.proofs.maps.BTreeMapWritesJson.write_json.Goals as goal

pub rollback_on_error-requires : goal.rollback_on_error-requires
rollback_on_error-requires g c = unchanged_by c.append_entries-written.result c.args.s.now.out c.append_entries-written.new.s.out c.len-start.result _ c.len-start.ensures c.append_entries-written.ensures.ok c.append_entries-written.ensures.err

pub returns-clause-ok : goal.returns-clause-ok
returns-clause-ok g c =
    let entries = c.args.self.now.entries in
    let in_order : entries ≡ ascending g.K.Ord.cmp entries = sym (ascending-sorted g.met.K.Ord.total entries (sorted_entries g.K.Ord.cmp entries c.len-count.ensures.ordered)) in
    let same = followed g.K.Ord.cmp g.K.Value.means g.K.JsonCodec.json.canonical.means g.K.Key.order g.met.K.OrderedKey.follows g.met.K.JsonCodec.agrees.means_is in
    let written : encode_utf8_all (written_entries (g.K.JsonCodec.json.canonical.text c.saturating_add.result) (g.T.JsonCodec.json.canonical.text c.saturating_add.result) entries) ≡ encode_utf8_all (written_entries (g.K.JsonCodec.json.canonical.text (saturating_next c.args.d)) (g.T.JsonCodec.json.canonical.text (saturating_next c.args.d)) (ascending (by_meaning g.K.JsonCodec.json.canonical.means g.K.Key.order) entries)) = (λ i. encode_utf8_all (written_entries (g.K.JsonCodec.json.canonical.text (c.saturating_add.ensures i)) (g.T.JsonCodec.json.canonical.text (c.saturating_add.ensures i)) (in_order i))) ∙ ap (λ R. encode_utf8_all (written_entries (g.K.JsonCodec.json.canonical.text (saturating_next c.args.d)) (g.T.JsonCodec.json.canonical.text (saturating_next c.args.d)) (ascending R entries))) (sym same) in
    subst (λ l. OnOk c.rollback_on_error.result (string_bytes c.rollback_on_error.new.out ≡ string_bytes c.args.s.now.out ++ l)) written
    (unchanged_ok c.rollback_on_error.result c.append_entries-written.result (string_bytes c.args.s.now.out) (string_bytes c.append_entries-written.new.s.out) (string_bytes c.rollback_on_error.new.out) (encode_utf8_all (written_entries (g.K.JsonCodec.json.canonical.text c.saturating_add.result) (g.T.JsonCodec.json.canonical.text c.saturating_add.result) entries)) c.rollback_on_error.ensures.same c.rollback_on_error.ensures.ok c.append_entries-written.ensures.ok)

pub returns-clause-err : goal.returns-clause-err
returns-clause-err g c = cut_back_err c.rollback_on_error.result c.append_entries-written.result (string_bytes c.args.s.now.out) (string_bytes c.append_entries-written.new.s.out) (string_bytes c.rollback_on_error.new.out) c.len-start.result (let at = c.len-start.ensures in let whole = c.args.s.now.out.bytes.ok.0 in omega (arith, at, whole)) c.rollback_on_error.ensures.same c.rollback_on_error.ensures.err c.append_entries-written.ensures.err
