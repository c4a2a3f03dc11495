-- The table of a list of statements is one: what it has at a key is read off the list, and its keys
-- are in order.
use Rattle.std.proofs.Common.{◌≡◌, ℕ, List, [], ◌∷◌, Option, Some, None, option_map, refl, sym, ap}
use Rattle.std.proofs.Common.{◌∙◌, subst, ◌++◌, Bool, true, false, cond, String, Global}
use Rattle.std.proofs.Common.{string_bytes, bytes_eq, Result, Ok, Err, OnOk, ◌+◌, ◌<◌, max, Vec}
use Rattle.std.proofs.Common.{length-append, arith}
use Rattle.std.proofs.lemmas.Map.Text.{hash_map_updates_text}
use Rattle.std.proofs.lemmas.Cmp.{nat_list_eq_equiv}
use Rattle.std.specs.HashMap as hash
use Rattle.std.specs.String.{string_eq}
use Rattle.std.proofs.Common.{◌-◌, ◌*◌, ◌^◌, ◌≤◌, nat_lt, sum}
use Rattle.std.proofs.lemmas.Bool.Decides.{nat_tests}
use Rattle.nano_toml.specs.Data.{Data, tables, Tables, at, view, view_step, tables_view, table_view}
use Rattle.nano_toml.specs.Data.{more_tables}
use Rattle.nano_toml.specs.StatementTable.{Pairs, HasOneTable, EncodesOneTable, Pair, last_value}
use Rattle.nano_toml.specs.StatementTable.{HasLast, root_pairs, element_pairs, HaveLast, IsFound}
use Rattle.nano_toml.specs.StatementTable.{IsTableOf, Puts, push}
use Rattle.nano_toml.specs.Statements.{Statement}
use Rattle.nano_toml.specs.declared.value.Toml.{Toml, map-Toml, out-Toml, fold_out-Toml}
use Rattle.nano_toml.specs.declared.value.Toml.TheOpen.{Toml-F}
use Rattle.nano_toml.proofs.ReadLemmas.{encodes_one}
use Rattle.nano_toml.proofs.TableViews.{Map, same_table_from_at, ascending_table, at-table_view}
use Rattle.nano_toml.proofs.TableViews.{found, tables_map}
use denote.Param.Weighed.{most, most-append}
use Rattle.nano_toml.specs.Data.{Values, more_values, values, values_view}
use Rattle.nano_toml.specs.Place.{push_value}
use Rattle.nano_toml.specs.Reading.{arrays_view}
use Rattle.nano_toml.specs.declared.value.Toml.{SimpleArray, fold-Toml}
use Rattle.nano_toml.specs.declared.value.Toml.TheViews.{sized-SimpleArray}
use Rattle.nano_toml.proofs.value.Toml.TheLaws.{the_size}
use Rattle.nano_toml.proofs.TableViews.{view-SimpleArray, length-from_values_view}
use Rattle.nano_toml.specs.Number.{value_from}
use Rattle.nano_toml.specs.Scan.{fitting, more_value}

-- what an Array means is the tables of some maps
shown_layer : (layer : Toml-F Toml) (ts : Tables) → view_step (map-Toml Toml Data view layer) ≡ tables ts → (ms : List Map) × (tables_view ms ≡ ts)
shown_layer (Toml-F.Array v) ts e = (v.items, let h = tables_map v.items in cc)
shown_layer (Toml-F.SimpleArray v) ts e = absurd (cc)
shown_layer (Toml-F.Str s) ts e = absurd (cc)
shown_layer (Toml-F.Bool b) ts e = absurd (cc)
shown_layer (Toml-F.Num n) ts e = absurd (cc)
shown_layer (Toml-F.Dec s) ts e = absurd (cc)
shown_layer (Toml-F.Nan b) ts e = absurd (cc)
shown_layer (Toml-F.Inf b) ts e = absurd (cc)
shown_layer (Toml-F.Date s) ts e = absurd (cc)

shown : (v : Toml) (ts : Tables) → view v ≡ tables ts → (ms : List Map) × (tables_view ms ≡ ts)
shown v ts e = shown_layer (out-Toml v) ts (sym (fold_out-Toml Data view_step v) ∙ e)

shown_found : (o : Option Toml) (ts : Tables) → option_map view o ≡ Some (tables ts) → (ms : List Map) × (tables_view ms ≡ ts)
shown_found None ts e = absurd (cc)
shown_found (Some v) ts e = let h : view v ≡ tables ts = cc in shown v ts h

-- one list of pairs has one table of last values
one_last : (ps : List Pair) (es fs : Pairs) → HasLast ps (table_view es) → HasLast ps (table_view fs) → table_view es ≡ table_view fs
one_last ps es fs a b = same_table_from_at _ _ (ascending_table es) (ascending_table fs) (λ key. a key ∙ sym (b key))

one_lasts : (pss : List (List Pair)) (ms ns : List Map) → HaveLast pss (tables_view ms) → HaveLast pss (tables_view ns) → tables_view ms ≡ tables_view ns
one_lasts [] [] [] a b = refl
one_lasts [] [] (n ∷ ns) a b = absurd b
one_lasts [] (m ∷ ms) ns a b = absurd a
one_lasts (ps ∷ pss) [] ns a b = absurd a
one_lasts (ps ∷ pss) (m ∷ ms) [] a b = absurd b
one_lasts (ps ∷ pss) (m ∷ ms) (n ∷ ns) a b =
    let here : table_view m.entries ≡ table_view n.entries = one_last ps m.entries n.entries a.0 b.0 in
    let there : tables_view ms ≡ tables_view ns = one_lasts pss ms ns a.1 b.1 in
    cc

-- what two tables of the statements have at a key is one
one_found : (pss : List (List Pair)) (last : Option Data) (key : List ℕ) (es fs : Pairs) → IsFound pss last (at key (table_view es)) → IsFound pss last (at key (table_view fs))
    → at key (table_view es) ≡ at key (table_view fs)
one_found [] last key es fs a b = a ∙ sym b
one_found (ps ∷ pss) last key es fs (ts, have, e) (us, has, f) =
    let one = shown_found (found key es) ts (sym (at-table_view key es) ∙ e) in
    let other = shown_found (found key fs) us (sym (at-table_view key fs) ∙ f) in
    let same = one_lasts (ps ∷ pss) one.0 other.0 (subst (HaveLast (ps ∷ pss)) (sym one.1) have) (subst (HaveLast (ps ∷ pss)) (sym other.1) has) in
    e ∙ (ap (λ (xs : Tables). Some (tables xs)) (sym one.1 ∙ (same ∙ other.1)) ∙ sym f)

pub one_table : (ss : List Statement) → HasOneTable ss
one_table ss es fs a b =
    same_table_from_at _ _ (ascending_table es) (ascending_table fs)
    (λ key. one_found (element_pairs key [] ss) (last_value key (root_pairs ss)) key es fs (a key) (b key))

pub encodes_one_table : (cs : List ℕ) → EncodesOneTable cs
encodes_one_table cs es fs (ss, a, lawful, is) (us, b, good, has) =
    one_table ss es fs is (subst (λ (xs : List Statement). IsTableOf xs (table_view fs)) (encodes_one cs us ss b a) has)

-- ==== table changes

mapped : (b : Bool) (v : Toml) (o : Option Toml) → option_map view (cond b (Some v) o) ≡ cond b (Some (view v)) (option_map view o)
mapped true v o = refl
mapped false v o = refl

same_eq : (k q : List ℕ) → bytes_eq k q ≡ bytes_eq q k
same_eq k q = nat_list_eq_equiv.symm k q

-- a change of the map at bytes k is a change of its table
pub Puts-from_updates : (k : List ℕ) (m n : Map) (v : Toml) → hash.UpdatesBy string_eq (λ (l : String Global). bytes_eq k (string_bytes l)) m n (Some v) → Puts (table_view m.entries) k (view v) (table_view n.entries)
Puts-from_updates k m n v u q =
    at-table_view q n.entries ∙ (ap (option_map view) (hash_map_updates_text k m n (Some v) u q) ∙ (mapped (bytes_eq k q) v (found q m.entries)
    ∙ (ap (λ b. cond b (Some (view v)) (option_map view (found q m.entries))) (same_eq k q) ∙ ap (cond (bytes_eq q k) (Some (view v))) (sym (at-table_view q m.entries)))))

pub tables_view-push : (ms : List Map) (m : Map) → tables_view (ms ++ m ∷ []) ≡ push (tables_view ms) (table_view m.entries)
tables_view-push [] m = refl
tables_view-push (n ∷ ms) m = ap (more_tables (table_view n.entries)) (tables_view-push ms m)

pub OnOk-map : {A E : Type 0} {P Q : Type 0} (r : Result A E) → (P → Q) → OnOk r P → OnOk r Q
OnOk-map (Ok x) f p = f p
OnOk-map (Err e) f p = p

-- ==== array views

pub arrays_view-push : (arrays : List (Vec Toml Global)) (array : Vec Toml Global) (inner : List Values) → arrays_view (arrays ++ array ∷ []) inner ≡ values_view array.items ∷ arrays_view arrays inner
arrays_view-push [] array inner = refl
arrays_view-push (a ∷ arrays) array inner = arrays_view-push arrays array (values_view a.items ∷ inner)

pub values_view-push : (ts : List Toml) (t : Toml) → values_view (ts ++ t ∷ []) ≡ push_value (values_view ts) (view t)
values_view-push [] t = refl
values_view-push (s ∷ ts) t = ap (more_values (view s)) (values_view-push ts t)

-- lists that are the same have the same values before their last ones, and the same last ones
pub values_view-push_same : (xs ys : List Toml) (x y : Toml) → values_view (xs ++ x ∷ []) ≡ values_view (ys ++ y ∷ []) → (values_view xs ≡ values_view ys) × (view x ≡ view y)
values_view-push_same [] [] x y e = (refl, cc)
values_view-push_same [] (b ∷ ys) x y e = absurd (let h = length-from_values_view (x ∷ []) (b ∷ (ys ++ y ∷ [])) e in omega (arith, length-append ys (y ∷ [])))
values_view-push_same (a ∷ xs) [] x y e = absurd (let h = length-from_values_view (a ∷ (xs ++ x ∷ [])) (y ∷ []) e in omega (arith, length-append xs (x ∷ [])))
values_view-push_same (a ∷ xs) (b ∷ ys) x y e =
    let t : values_view (xs ++ x ∷ []) ≡ values_view (ys ++ y ∷ []) = cc in
    let h : view a ≡ view b = cc in
    let r = values_view-push_same xs ys x y t in
    (let s = r.0 in cc, r.1)

-- an array pushed as a value
pub values_view-push_array : (ts : List Toml) (array : Vec Toml Global) → values_view (ts ++ SimpleArray array ∷ []) ≡ push_value (values_view ts) (values (values_view array.items))
values_view-push_array ts array = values_view-push ts (SimpleArray array) ∙ ap (push_value (values_view ts)) (view-SimpleArray array)

-- a list of no length is empty

-- the last value of an array is less deep than the array
pub size-last : (array : Vec Toml Global) (ts : List Toml) (t : Toml) → array.items ≡ ts ++ t ∷ [] → the_size t < the_size (SimpleArray array)
size-last array ts t e =
    let all : the_size (SimpleArray array) ≡ max (most the_size array.items) 0 + 1 = sized-SimpleArray array in
    let parts : most the_size array.items ≡ max (most the_size ts) (max (the_size t) 0) = ap (most the_size) e ∙ most-append the_size ts (t ∷ []) in
    omega arith

-- ==== values

-- the value with more digits
abbrev pub value_at : Option ℕ → List ℕ → Option ℕ
value_at size [] = size
value_at size (c ∷ cs) = value_at (more_value size c) cs

-- a value that is too large remains too large
value_none : (ds : List ℕ) → value_at None ds ≡ None
value_none [] = refl
value_none (c ∷ cs) = value_none cs

value_grows : (n : ℕ) (ds : List ℕ) → n ≤ value_from n ds
value_grows n [] = omega arith
value_grows n (c ∷ cs) = omega (arith, value_grows (n * 10 + (c - 48)) cs)

too_great : (n : ℕ) → 2 ^ 64 ≤ n → fitting n ≡ None
too_great n h = grind (arith, nat_tests)

at_least : (n : ℕ) → nat_lt n (2 ^ 64) ≡ false → 2 ^ 64 ≤ n
at_least n h = grind (arith, nat_tests)

pub value_fitting : (n : ℕ) (ds : List ℕ) → value_at (fitting n) ds ≡ fitting (value_from n ds)
value_fitting n [] = refl
value_fitting n (c ∷ cs) =
    elim (nat_lt n (2 ^ 64)) as (λ (b : Bool). nat_lt n (2 ^ 64) ≡ b → value_at (more_value (cond b (Some n) None) c) cs ≡ fitting (value_from (n * 10 + (c - 48)) cs)) [
      | true ↦ λ e. value_fitting (n * 10 + (c - 48)) cs
      | false ↦ λ e. value_none cs ∙ sym (too_great (value_from (n * 10 + (c - 48)) cs) (omega (arith, at_least n e, value_grows (n * 10 + (c - 48)) cs)))
    ] refl

-- ==== value count

abbrev pub count_step : Toml-F ℕ → ℕ
count_step (Toml-F.SimpleArray list) = 1 + sum list.items
count_step _ = 1

-- how many values stand in its lists, itself among them
abbrev pub count : Toml → ℕ
count = fold-Toml ℕ count_step
