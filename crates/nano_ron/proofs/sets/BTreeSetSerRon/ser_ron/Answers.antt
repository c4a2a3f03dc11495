use Rattle.std.proofs.Common.{arith, ◌≡◌, ◌∙◌, ap, ◌++◌, string_bytes, OnOk, sym, subst}
use Rattle.std.specs.Str.{encode_utf8_all}
use Rattle.nano_grammar.proofs.WrittenLists.{in_order}
use Rattle.nano_value.specs.Sets.{ascending_items}
use Rattle.nano_value.specs.Order.{by_meaning}
use Rattle.nano_meaning.proofs.OrderLaws.{followed}
use Rattle.nano_text.specs.Place.{saturating_next}
use Rattle.nano_ron_tokens.proofs.StylesLaws.{indent_style}
use Rattle.nano_ron.specs.Lists.{written_in}
use Rattle.nano_text.proofs.RollbackLaws.{unchanged_by, unchanged_ok, cut_back_err}
use Rattle.nano_ron.proofs.sets.BTreeSetSerRon.ser_ron.Goals as goal

pub rollback_on_error-requires : goal.rollback_on_error-requires
rollback_on_error-requires g c = unchanged_by c.append_btree_set-written.result c.args.s.now.out c.append_btree_set-written.new.s.out c.len-start.result _ c.len-start.ensures c.append_btree_set-written.ensures.ok c.append_btree_set-written.ensures.err

pub returns-clause-ok : goal.returns-clause-ok
returns-clause-ok g c =
    let d = c.args.d in
    let text = g.T.RonCodec.ron.canonical.text (saturating_next d) in
    let items = c.args.self.now.keys in
    let in_order : items ≡ ascending_items g.T.Ord.cmp items = sym (in_order g.met.T.Ord.total items c.len-count.ensures.ordered) in
    let same = followed g.T.Ord.cmp g.T.Value.means g.T.RonCodec.ron.canonical.means g.T.Key.order g.met.T.OrderedKey.follows g.met.T.RonCodec.agrees.means_is in
    let written : encode_utf8_all (written_in indent_style d text items) ≡ encode_utf8_all (written_in indent_style d text (ascending_items (by_meaning g.T.RonCodec.ron.canonical.means g.T.Key.order) items)) = ap (λ ks. encode_utf8_all (written_in indent_style d text ks)) in_order ∙ ap (λ R. encode_utf8_all (written_in indent_style d text (ascending_items R items))) (sym same) in
    subst (λ l. OnOk c.rollback_on_error.result (string_bytes c.rollback_on_error.new.out ≡ string_bytes c.args.s.now.out ++ l)) written
    (unchanged_ok c.rollback_on_error.result c.append_btree_set-written.result (string_bytes c.args.s.now.out) (string_bytes c.append_btree_set-written.new.s.out) (string_bytes c.rollback_on_error.new.out) (encode_utf8_all (written_in indent_style d text items)) c.rollback_on_error.ensures.same c.rollback_on_error.ensures.ok c.append_btree_set-written.ensures.ok)

pub returns-clause-err : goal.returns-clause-err
returns-clause-err g c = cut_back_err c.rollback_on_error.result c.append_btree_set-written.result (string_bytes c.args.s.now.out) (string_bytes c.append_btree_set-written.new.s.out) (string_bytes c.rollback_on_error.new.out) c.len-start.result (let at = c.len-start.ensures in let whole = c.args.s.now.out.bytes.ok.0 in omega (arith, at, whole)) c.rollback_on_error.ensures.same c.rollback_on_error.ensures.err c.append_btree_set-written.ensures.err
