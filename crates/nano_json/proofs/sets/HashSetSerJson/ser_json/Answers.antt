use Rattle.std.proofs.Common.{arith, ◌≡◌, ◌∙◌, ap, map, ◌++◌, string_bytes, OnOk, sym, subst}
use Rattle.std.specs.Str.{encode_utf8_all}
use Rattle.std.specs.Map.Iter.{deref}
use Rattle.nano_value.specs.Sets.{ascending_items}
use Rattle.nano_value.specs.Order.{by_meaning}
use Rattle.nano_meaning.proofs.OrderLaws.{followed}
use Rattle.nano_text.specs.Place.{saturating_next}
use Rattle.nano_json.specs.Lists.{written_list}
use Rattle.nano_text.proofs.RollbackLaws.{unchanged_by, unchanged_ok, cut_back_err}
use Rattle.nano_json.proofs.sets.HashSetSerJson.ser_json.Goals as goal

pub rollback_on_error-requires : goal.rollback_on_error-requires
rollback_on_error-requires g c = unchanged_by c.append_hash_set-written.result c.args.s.now.out c.append_hash_set-written.new.s.out c.len-start.result _ c.len-start.ensures c.append_hash_set-written.ensures.ok c.append_hash_set-written.ensures.err

pub returns-clause-ok : goal.returns-clause-ok
returns-clause-ok g c =
    let text = g.T.JsonCodec.json.canonical.text in
    let items = c.args.self.now.keys in
    let in_order : map deref c.deref.result.now ≡ ascending_items g.T.Ord.cmp items = ap (map deref) c.deref.ensures.value ∙ c.in_ok-items.ensures in
    let same = followed g.T.Ord.cmp g.T.Value.means g.T.JsonCodec.json.canonical.means g.T.Key.order g.met.T.OrderedKey.follows g.met.T.JsonCodec.agrees.means_is in
    let written : encode_utf8_all (written_list (text c.saturating_add.result) (map deref c.deref.result.now)) ≡ encode_utf8_all (written_list (text (saturating_next c.args.d)) (ascending_items (by_meaning g.T.JsonCodec.json.canonical.means g.T.Key.order) items)) = (λ i. encode_utf8_all (written_list (text (c.saturating_add.ensures i)) (in_order i))) ∙ ap (λ R. encode_utf8_all (written_list (text (saturating_next c.args.d)) (ascending_items R items))) (sym same) in
    subst (λ l. OnOk c.rollback_on_error.result (string_bytes c.rollback_on_error.new.out ≡ string_bytes c.args.s.now.out ++ l)) written
    (unchanged_ok c.rollback_on_error.result c.append_hash_set-written.result (string_bytes c.args.s.now.out) (string_bytes c.append_hash_set-written.new.s.out) (string_bytes c.rollback_on_error.new.out) (encode_utf8_all (written_list (text c.saturating_add.result) (map deref c.deref.result.now))) c.rollback_on_error.ensures.same c.rollback_on_error.ensures.ok c.append_hash_set-written.ensures.ok)

pub returns-clause-err : goal.returns-clause-err
returns-clause-err g c = cut_back_err c.rollback_on_error.result c.append_hash_set-written.result (string_bytes c.args.s.now.out) (string_bytes c.append_hash_set-written.new.s.out) (string_bytes c.rollback_on_error.new.out) c.len-start.result (let at = c.len-start.ensures in let whole = c.args.s.now.out.bytes.ok.0 in omega (arith, at, whole)) c.rollback_on_error.ensures.same c.rollback_on_error.ensures.err c.append_hash_set-written.ensures.err
