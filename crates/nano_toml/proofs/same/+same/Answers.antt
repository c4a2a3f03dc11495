use Rattle.std.proofs.Common.{◌≡◌, ◌+◌, ◌<◌, List, [], ◌∷◌, ◌++◌, length, Vec, Global, vec_len}
use Rattle.std.proofs.Common.{eq-eqb, subst, ap, sym, ◌∙◌, arith, Some, None, option_map}
use Rattle.std.proofs.Common.{string_bytes, true≢false, is_some, refl}
use Rattle.std.proofs.lemmas.Bool.{eqb-true}
use Rattle.std.proofs.lemmas.Map.Iter.{hash_map_turn}
use Rattle.std.specs.Map.Iter.{deref_pair}
use Rattle.std.specs.Option.{option_copied}
use Rattle.std.specs.String.{string_eq_equiv}
use Rattle.std.proofs.lemmas.List.{nil_from_length}
use Rattle.nano_toml.specs.Data.{view, values_view, tables_view, table_view, at, tables, Tables}
use Rattle.nano_toml.specs.Data.{values, Values}
use Rattle.nano_toml.specs.declared.value.Toml.{Toml, SimpleArray}
use Rattle.nano_toml.proofs.value.Toml.TheLaws.{the_size}
use Rattle.nano_toml.proofs.OneTable.{values_view-push, values_view-push_same, size-last}
use Rattle.nano_toml.specs.Place.{push_value}
use Rattle.nano_toml.proofs.TableViews.{at-table_view, same_tables_from_entries}
use Rattle.nano_toml.proofs.TableViews.{values_view-from_places, length-from_values_view}
use Rattle.nano_toml.proofs.TableViews.{tables_view-from_places, length-from_tables_view}
use Rattle.nano_toml.proofs.TableViews.{view-Array, view-SimpleArray, Map, value_here, table_here}
use Rattle.nano_toml.proofs.TableViews.{is_some-at, has_key}
use Rattle.nano_toml.proofs.same.+same.Goals as goal

pub same_table-loop-key-preserved : goal.same_table-loop-key-preserved
same_table-loop-key-preserved t c =
    let there : at (string_bytes c.in-Some.key.now) (table_view c.args.b.now.entries) ≡ Some (view c.in-Some-get.other.now) =
    at-table_view (string_bytes c.in-Some.key.now) c.args.b.now.entries ∙ ap (option_map view) (sym c.get.ensures.value ∙ ap option_copied c.in-Some-get.is) in
    let same = c.same_value.ensures.0 c.if-not-same_value.false in
    (tt, tt, λ h. c.loop-key.invariant.2 (rw c.in-Some.ensures.steps (there ∙ ap Some (sym same), h)))

pub same_table-returns-then-not-same_value : goal.same_table-returns-then-not-same_value
same_table-returns-then-not-same_value t c =
    let k = hash_map_turn deref_pair c.loop-key.yielded c.into_iter-key-iterator.result c.loop-key.key-iterator c.next.new.self c.next.result (c.in-Some.key, c.in-Some.value) c.loop-key.yielded_by c.in-Some.is c.next.ensures.steps string_eq_equiv c.args.a.now c.into_iter-key-iterator.ensures.into_iter_gives.0 c.into_iter-key-iterator.ensures.into_iter_gives.4 in
    let here : at (string_bytes c.in-Some.key.now) (table_view c.args.a.now.entries) ≡ Some (view c.in-Some.value.now) =
    at-table_view (string_bytes c.in-Some.key.now) c.args.a.now.entries ∙ ap (option_map view) k.1 in
    let there : at (string_bytes c.in-Some.key.now) (table_view c.args.b.now.entries) ≡ Some (view c.in-Some-get.other.now) =
    at-table_view (string_bytes c.in-Some.key.now) c.args.b.now.entries ∙ ap (option_map view) (sym c.get.ensures.value ∙ ap option_copied c.in-Some-get.is) in (
      λ e. absurd (true≢false (sym e)),
      λ e.
          let both : Some (view c.in-Some.value.now) ≡ Some (view c.in-Some-get.other.now) = sym here ∙ (ap (at (string_bytes c.in-Some.key.now)) e ∙ there) in
          let one : view c.in-Some.value.now ≡ view c.in-Some-get.other.now = cc in
          sym c.if-not-same_value.true ∙ c.same_value.ensures.1 one,
    )

pub same_table-returns-in-None-get : goal.same_table-returns-in-None-get
same_table-returns-in-None-get t c =
    let k = hash_map_turn deref_pair c.loop-key.yielded c.into_iter-key-iterator.result c.loop-key.key-iterator c.next.new.self c.next.result (c.in-Some.key, c.in-Some.value) c.loop-key.yielded_by c.in-Some.is c.next.ensures.steps string_eq_equiv c.args.a.now c.into_iter-key-iterator.ensures.into_iter_gives.0 c.into_iter-key-iterator.ensures.into_iter_gives.4 in
    let here : at (string_bytes c.in-Some.key.now) (table_view c.args.a.now.entries) ≡ Some (view c.in-Some.value.now) =
    at-table_view (string_bytes c.in-Some.key.now) c.args.a.now.entries ∙ ap (option_map view) k.1 in
    let there : at (string_bytes c.in-Some.key.now) (table_view c.args.b.now.entries) ≡ None =
    at-table_view (string_bytes c.in-Some.key.now) c.args.b.now.entries ∙ ap (option_map view) (sym c.get.ensures.value ∙ ap option_copied c.in-None-get.is) in (
      λ e. absurd (true≢false (sym e)),
      λ e.
          let both : Some (view c.in-Some.value.now) ≡ None = sym here ∙ (ap (at (string_bytes c.in-Some.key.now)) e ∙ there) in absurd (cc),
    )

pub same_table-returns-then-not-contains_key : goal.same_table-returns-then-not-contains_key
same_table-returns-then-not-contains_key t c =
    let k = hash_map_turn deref_pair c.loop-key-2.yielded c.into_iter-key-iterator-2.result c.loop-key-2.key-iterator c.next-in-loop-key-2.new.self c.next-in-loop-key-2.result (c.in-Some-2.key, c.in-Some-2.field-0-1) c.loop-key-2.yielded_by c.in-Some-2.is c.next-in-loop-key-2.ensures.steps string_eq_equiv c.args.b.now c.into_iter-key-iterator-2.ensures.into_iter_gives.0 c.into_iter-key-iterator-2.ensures.into_iter_gives.4 in (
      λ e. absurd (true≢false (sym e)),
      λ e.
          sym c.if-not-contains_key.true ∙ (c.contains_key.ensures ∙ (sym (is_some-at (string_bytes c.in-Some-2.key.now) c.args.a.now.entries)
          ∙ (ap (λ w. is_some (at (string_bytes c.in-Some-2.key.now) w)) e ∙ (is_some-at (string_bytes c.in-Some-2.key.now) c.args.b.now.entries ∙ ap is_some k.1)))),
    )

pub same_table-loop-key-2-preserved : goal.same_table-loop-key-2-preserved
same_table-loop-key-2-preserved t c =
    (tt, tt, λ h. c.loop-key-2.invariant.2 (rw c.in-Some-2.ensures.steps (has_key (string_bytes c.in-Some-2.key.now) c.args.a.now.entries (sym c.contains_key.ensures ∙ c.if-not-contains_key.false), h)), c.loop-key-2.invariant.3)

pub same_table-returns : goal.same_table-returns
same_table-returns t c =
    (λ _. same_tables_from_entries c.args.a.now.entries c.args.b.now.entries c.loop-key-2.invariant.3 (c.loop-key-2.invariant.2 (rw c.in-None-2.ensures.steps.0 tt)), λ _. refl)

pub same_tables-returns-then-len : goal.same_tables-returns-then-len
same_tables-returns-then-len t c = (λ e. absurd (true≢false (sym e)), λ e. absurd (let h = length-from_tables_view _ _ e in c.if-len.true (omega (arith, h, c.args.a.now.ok.0, c.args.b.now.ok.0))))

pub same_values-returns-then-a-b : goal.same_values-returns-then-a-b
same_values-returns-then-a-b t c = (λ e. absurd (true≢false (sym e)), λ e. absurd (let h = length-from_values_view _ _ e in c.if-a-b.true (omega (arith, h))))

pub same_tables-returns : goal.same_tables-returns
same_tables-returns t c =
    (λ _. tables_view-from_places c.args.a.now.items c.args.b.now.items (omega (arith, c.args.a.now.ok.0, c.args.b.now.ok.0)) (λ k d l. c.loop-i.invariant k d (omega (arith, c.args.a.now.ok.0))), λ _. refl)

pub same_values-returns : goal.same_values-returns
same_values-returns t c =
    (λ _. values_view-from_places c.args.a.now c.args.b.now (omega arith) (λ k d l. c.loop-i.invariant k d (omega arith)), λ _. refl)

pub same_tables-returns-then-not-same_table : goal.same_tables-returns-then-not-same_table
same_tables-returns-then-not-same_table t c = (
  λ e. absurd (true≢false (sym e)),
  λ e.
      sym c.if-not-same_table.true ∙ c.same_table.ensures.1 (
      ap (λ (m : Map). table_view m.entries) c.index.ensures ∙ (table_here c.args.a.now.items c.args.b.now.items c.loop-i.i c.index.result.now c.index-in-loop-i.result.now e (omega (arith, c.args.a.now.ok.0))
      ∙ sym (ap (λ (m : Map). table_view m.entries) c.index-in-loop-i.ensures))),
)

pub same_values-returns-then-not-same_value : goal.same_values-returns-then-not-same_value
same_values-returns-then-not-same_value t c = (
  λ e. absurd (true≢false (sym e)),
  λ e.
      sym c.if-not-same_value.true ∙ c.same_value.ensures.1 (
      ap view c.index-a-i.is ∙ (value_here c.args.a.now c.args.b.now c.loop-i.i c.index-a-i.result c.index-b-i.result e (omega arith)
      ∙ sym (ap view c.index-b-i.is))),
)

tables_one : (xs ys : Tables) → tables xs ≡ tables ys → xs ≡ ys
tables_one xs ys e = cc

values_one : (xs ys : Values) → values xs ≡ values ys → xs ≡ ys
values_one xs ys e = cc

pushed_same : (xs ys : List Toml) (x y : Toml) → values_view xs ≡ values_view ys → view x ≡ view y → values_view (xs ++ x ∷ []) ≡ values_view (ys ++ y ∷ [])
pushed_same xs ys x y h k = values_view-push xs x ∙ (ap (λ vs. push_value vs (view x)) h ∙ (ap (push_value (values_view ys)) k ∙ sym (values_view-push ys y)))

both_empty : (xs ys : List Toml) → length xs ≡ 0 → length ys ≡ 0 → values_view xs ≡ values_view ys
both_empty xs ys h k = ap values_view (nil_from_length xs h ∙ sym (nil_from_length ys k))

-- what two lists mean is the same exactly if what the vectors hold is
list_one : (a b : Toml) (x y : Vec Toml Global) → a ≡ SimpleArray x → b ≡ SimpleArray y → view a ≡ view b → values_view x.items ≡ values_view y.items
list_one a b x y h k e = values_one _ _ (sym (ap view h ∙ view-SimpleArray x) ∙ (e ∙ (ap view k ∙ view-SimpleArray y)))

one_list : (a b : Toml) (x y : Vec Toml Global) → a ≡ SimpleArray x → b ≡ SimpleArray y → values_view x.items ≡ values_view y.items → view a ≡ view b
one_list a b x y h k e = ap view h ∙ view-SimpleArray x ∙ (ap values e ∙ sym (ap view k ∙ view-SimpleArray y))

pub same_value-returns-in_default-split_last : goal.same_value-returns-in_default-split_last
same_value-returns-in_default-split_last t c =
    let v = c.in-SimpleArray-SimpleArray in
    let no_x : length v.x.items ≡ 0 = ap length (sym c.as_slice.ensures.value) ∙ c.in_default-split_last.ensures.cases in (
      λ e.
          let zero_y : vec_len v.y ≡ 0 = eqb-true _ _ (sym c.is_empty.ensures ∙ e) in
          c.lists.invariant.1.0 (one_list _ _ v.x v.y v.is-0 v.is-1 (both_empty _ _ no_x (omega (arith, v.y.ok.0)))),
      λ e.
          let h = length-from_values_view _ _ (list_one _ _ v.x v.y v.is-0 v.is-1 (c.lists.invariant.1.1 e)) in
          c.is_empty.ensures ∙ eq-eqb _ _ (omega (arith, v.y.ok.0)),
    )

pub same_value-returns-in_default-split_last-2 : goal.same_value-returns-in_default-split_last-2
same_value-returns-in_default-split_last-2 t c =
    let v = c.in-SimpleArray-SimpleArray in
    let no_y : length v.y.items ≡ 0 = ap length (sym c.as_slice-in-SimpleArray-SimpleArray.ensures.value) ∙ c.in_default-split_last-2.ensures.cases in
    let some_x : length c.in-Some.prefix_x.now + 1 ≡ length v.x.items = c.in-Some.ensures.cases.1 ∙ ap length c.as_slice.ensures.value in
    (λ e. absurd (true≢false (sym e)), λ e. absurd (let h = length-from_values_view _ _ (list_one _ _ v.x v.y v.is-0 v.is-1 (c.lists.invariant.1.1 e)) in omega arith))

pub same_value-returns-then-not-same_values : goal.same_value-returns-then-not-same_values
same_value-returns-then-not-same_values t c =
    let v = c.in-SimpleArray-SimpleArray in
    let at_x : v.x.items ≡ c.in-Some.prefix_x.now ++ c.in-Some.last_x.now ∷ [] = sym c.as_slice.ensures.value ∙ c.in-Some.ensures.cases.0 in
    let at_y : v.y.items ≡ c.in-Some-split_last.prefix_y.now ++ c.in-Some-split_last.last_y.now ∷ [] = sym c.as_slice-in-SimpleArray-SimpleArray.ensures.value ∙ c.in-Some-split_last.ensures.cases.0 in (
      λ e. absurd (true≢false (sym e)),
      λ e.
          let all = list_one _ _ v.x v.y v.is-0 v.is-1 (c.lists.invariant.1.1 e) in
          let parts = values_view-push_same _ _ _ _ (sym (ap values_view at_x) ∙ (all ∙ ap values_view at_y)) in
          sym c.if-not-same_values.true ∙ c.same_values.ensures.1 parts.0,
    )

pub same_value-lists-preserved : goal.same_value-lists-preserved
same_value-lists-preserved t c =
    let v = c.in-SimpleArray-SimpleArray in
    let at_x : v.x.items ≡ c.in-Some.prefix_x.now ++ c.in-Some.last_x.now ∷ [] = sym c.as_slice.ensures.value ∙ c.in-Some.ensures.cases.0 in
    let at_y : v.y.items ≡ c.in-Some-split_last.prefix_y.now ++ c.in-Some-split_last.last_y.now ∷ [] = sym c.as_slice-in-SimpleArray-SimpleArray.ensures.value ∙ c.in-Some-split_last.ensures.cases.0 in
    let smaller : the_size c.in-Some.last_x.now < the_size c.lists.a.now = subst (λ w. the_size c.in-Some.last_x.now < the_size w) (sym v.is-0) (size-last v.x _ _ at_x) in
    let prefixes = c.same_values.ensures.0 c.if-not-same_values.false in (
      omega (arith, c.lists.invariant.0),
      (
        λ e. c.lists.invariant.1.0 (one_list _ _ v.x v.y v.is-0 v.is-1 (ap values_view at_x ∙ (pushed_same _ _ _ _ prefixes e ∙ sym (ap values_view at_y)))),
        λ e. (values_view-push_same _ _ _ _ (sym (ap values_view at_x) ∙ (list_one _ _ v.x v.y v.is-0 v.is-1 (c.lists.invariant.1.1 e) ∙ ap values_view at_y))).1,
      ),
    )

pub same_value-returns-in-Array-Array : goal.same_value-returns-in-Array-Array
same_value-returns-in-Array-Array t c =
    let v = c.in-Array-Array in
    let left : view c.lists.a.now ≡ tables (tables_view v.x.items) = ap view v.is-0 ∙ view-Array v.x in
    let right : view c.lists.b.now ≡ tables (tables_view v.y.items) = ap view v.is-1 ∙ view-Array v.y in (
      λ e. c.lists.invariant.1.0 (left ∙ (ap tables (c.same_tables.ensures.0 e) ∙ sym right)),
      λ e. c.same_tables.ensures.1 (tables_one _ _ (sym left ∙ (c.lists.invariant.1.1 e ∙ right))),
    )
