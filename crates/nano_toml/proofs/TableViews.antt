-- Tables as look-ups, and the walk over one map beside another.
use Rattle.std.proofs.Common.{◌≡◌, ℕ, zero, suc, ◌<◌, List, [], ◌∷◌, length, get_or, Option, Some}
use Rattle.std.proofs.Common.{None, option_map, IsSome, is_some, String, Vec, Global, Ordering}
use Rattle.std.proofs.Common.{Less, Equal, Greater, string_bytes, nat_cmp, is_eq, cond, Bool, true}
use Rattle.std.proofs.Common.{false, bytes_eq, true≢false, map, refl, sym, ap, ◌∙◌, subst, arith}
use Rattle.std.proofs.Common.{rules}
use Rattle.std.proofs.lemmas.Cmp.{nat_list_cmp_total, tied_itself}
use Rattle.std.proofs.lemmas.Map.Text.{is_eq-slice_cmp}
use Rattle.std.proofs.lemmas.Slice.Eq.{bytes_eq-Decides}
use Rattle.std.specs.Cmp.Lexicographic.{slice_cmp}
use Rattle.std.specs.HashMap.{HashMap}
use Rattle.std.specs.declared.hash.FoldHasher.{FoldHasher}
use Rattle.std.specs.declared.hash.BuildHasherDefault.{BuildHasherDefault}
use Rattle.std.specs.Map.{lookup}
use Rattle.std.specs.Ordering.{match_ordering, ordering_reverse}
use Rattle.nano_toml.specs.Data.{Data, tables, values, more_tables, Table, no_pairs, more_pairs}
use Rattle.nano_toml.specs.Data.{put, at, view, values_view, tables_view, table_view, table_of}
use Rattle.nano_toml.specs.Data.{tables_of}
use Rattle.nano_toml.specs.Kinds.{table_at}
use Rattle.nano_toml.specs.declared.value.Toml.{Toml, the_lemmas, Array, SimpleArray}
use Rattle.nano_toml.specs.declared.value.Toml.TheShapes.{former-Toml-Array-0-at-1}

abbrev pub Entry : Type 0
Entry = String Global × Toml

abbrev pub order : List ℕ → List ℕ → Ordering
order = slice_cmp nat_cmp

-- every key of t is above k
abbrev pub Above : List ℕ → Table → Type 0
Above k no_pairs = Unit {0}
Above k (more_pairs l d t) = (order k l ≡ Less) × Above k t

-- keys strictly ascending
abbrev pub Ascending : Table → Type 0
Ascending no_pairs = Unit {0}
Ascending (more_pairs k d t) = Above k t × Ascending t

same_key : (k l : List ℕ) → order k l ≡ Equal → k ≡ l
same_key k l e = (bytes_eq-Decides k l).0 (sym (is_eq-slice_cmp k l) ∙ ap is_eq e)

key_itself : (k : List ℕ) → bytes_eq k k ≡ true
key_itself k = (bytes_eq-Decides k k).1 refl

above_trans : (k l : List ℕ) (t : Table) → order k l ≡ Less → Above l t → Above k t
above_trans k l no_pairs e a = tt
above_trans k l (more_pairs m d t) e a = (nat_list_cmp_total.trans k l m e a.0, above_trans k l t e a.1)

above_put_at : (o : Ordering) (j k l : List ℕ) (d e : Data) (t : Table) → order k l ≡ o → order j k ≡ Less → order j l ≡ Less → Above j t → Above j (put k d t)
    → Above j (match_ordering o (more_pairs k d (more_pairs l e t)) (more_pairs l d t) (more_pairs l e (put k d t)))
above_put_at Less j k l d e t is jk jl a b = (jk, (jl, a))
above_put_at Equal j k l d e t is jk jl a b = (jl, a)
above_put_at Greater j k l d e t is jk jl a b = (jl, b)

above_put : (j k : List ℕ) (d : Data) (t : Table) → order j k ≡ Less → Above j t → Above j (put k d t)
above_put j k d no_pairs e a = (e, tt)
above_put j k d (more_pairs l x t) e a = above_put_at _ j k l d x t refl e a.0 a.1 (above_put j k d t e a.1)

ascending_put_at : (o : Ordering) (k l : List ℕ) (d e : Data) (t : Table) → order k l ≡ o → Above l t → Ascending t → Ascending (put k d t)
    → Ascending (match_ordering o (more_pairs k d (more_pairs l e t)) (more_pairs l d t) (more_pairs l e (put k d t)))
ascending_put_at Less k l d e t is a s b = ((is, above_trans k l t is a), (a, s))
ascending_put_at Equal k l d e t is a s b = (a, s)
ascending_put_at Greater k l d e t is a s b = (above_put l k d t (nat_list_cmp_total.antisymm l k ∙ ap ordering_reverse is) a, b)

pub ascending_put : (k : List ℕ) (d : Data) (t : Table) → Ascending t → Ascending (put k d t)
ascending_put k d no_pairs s = (tt, tt)
ascending_put k d (more_pairs l e t) s = ascending_put_at _ k l d e t refl s.0 s.1 (ascending_put k d t s.1)

pub ascending_table : (es : List Entry) → Ascending (table_view es)
ascending_table [] = tt
ascending_table (e ∷ es) = ascending_put (string_bytes e.0) (view e.1) (table_view es) (ascending_table es)

overwritten : {A : Type 0} (b : Bool) (x y z : A) → cond b x z ≡ cond b x (cond b y z)
overwritten true x y z = refl
overwritten false x y z = refl

greater_apart : (k l : List ℕ) → order k l ≡ Greater → k ≡ l → ⊥
greater_apart k l is s = let e : order k l ≡ Equal = subst (λ (m : List ℕ). order k m ≡ Equal) s (tied_itself nat_list_cmp_total k) in cc

swapped_at : {A : Type 0} (b c : Bool) → (b ≡ true → c ≡ true → ⊥) → (x y z : A) → cond c y (cond b x z) ≡ cond b x (cond c y z)
swapped_at true true h x y z = absurd (h refl refl)
swapped_at true false h x y z = refl
swapped_at false true h x y z = refl
swapped_at false false h x y z = refl

swapped : (q k l : List ℕ) (d e : Data) (t : Table) → (k ≡ l → ⊥) → cond (bytes_eq q l) (Some e) (cond (bytes_eq q k) (Some d) (at q t)) ≡ cond (bytes_eq q k) (Some d) (cond (bytes_eq q l) (Some e) (at q t))
swapped q k l d e t apart = swapped_at (bytes_eq q k) (bytes_eq q l) (λ h g. apart (sym ((bytes_eq-Decides q k).0 h) ∙ (bytes_eq-Decides q l).0 g)) (Some d) (Some e) (at q t)

-- what is at q once d is put at k
at_put_at : (o : Ordering) (q k l : List ℕ) (d e : Data) (t : Table) → order k l ≡ o → at q (put k d t) ≡ cond (bytes_eq q k) (Some d) (at q t)
    → at q (match_ordering o (more_pairs k d (more_pairs l e t)) (more_pairs l d t) (more_pairs l e (put k d t))) ≡ cond (bytes_eq q k) (Some d) (cond (bytes_eq q l) (Some e) (at q t))
at_put_at Less q k l d e t is h = refl
at_put_at Equal q k l d e t is h = rw (sym (same_key k l is)) (overwritten (bytes_eq q k) (Some d) (Some e) (at q t))
at_put_at Greater q k l d e t is h =
    rw h (swapped q k l d e t (λ s. greater_apart k l is s))

pub at-put : (q k : List ℕ) (d : Data) (t : Table) → at q (put k d t) ≡ cond (bytes_eq q k) (Some d) (at q t)
at-put q k d no_pairs = refl
at-put q k d (more_pairs l e t) = at_put_at _ q k l d e t refl (at-put q k d t)

-- no key below all of a table's is in it
at-above : (k : List ℕ) (t : Table) → Above k t → at k t ≡ None
at-above k no_pairs a = refl
at-above k (more_pairs l d t) a =
    let differs : bytes_eq k l ≡ false = sym (is_eq-slice_cmp k l) ∙ ap is_eq a.0 in
    rw differs (at-above k t a.1)

at-head : (k : List ℕ) (d : Data) (t : Table) → at k (more_pairs k d t) ≡ Some d
at-head k d t = rw (key_itself k)

at-tail : (q k : List ℕ) (d : Data) (t : Table) → bytes_eq q k ≡ false → at q (more_pairs k d t) ≡ at q t
at-tail q k d t e = rw e

same_tails : (v : Bool) (q k l : List ℕ) (d e : Data) (s t : Table) → bytes_eq q k ≡ v → k ≡ l → Above k s → Above k t
    → at q (more_pairs k d s) ≡ at q (more_pairs l e t) → at q s ≡ at q t
same_tails true q k l d e s t is kl a b h =
    let qk = (bytes_eq-Decides q k).0 is in
    rw qk (at-above k s a ∙ sym (at-above k t b))
same_tails false q k l d e s t is kl a b h =
    sym (at-tail q k d s is) ∙ (h ∙ (ap (λ (m : List ℕ). at q (more_pairs m e t)) (sym kl) ∙ at-tail q k e t is))

same_heads : (o : Ordering) (k l : List ℕ) (d e : Data) (s t : Table) → order k l ≡ o → Ascending (more_pairs k d s) → Ascending (more_pairs l e t)
    → ((q : List ℕ) → at q (more_pairs k d s) ≡ at q (more_pairs l e t)) → (((q : List ℕ) → at q s ≡ at q t) → s ≡ t) → more_pairs k d s ≡ more_pairs l e t
same_heads Less k l d e s t is a b h more =
    absurd (let x : None ≡ Some d = sym (at-above k (more_pairs l e t) (is, above_trans k l t is b.0)) ∙ (sym (h k) ∙ at-head k d s) in cc)
same_heads Greater k l d e s t is a b h more =
    let lk : order l k ≡ Less = nat_list_cmp_total.antisymm l k ∙ ap ordering_reverse is in
    absurd (let x : None ≡ Some e = sym (at-above l (more_pairs k d s) (lk, above_trans l k s lk a.0)) ∙ (h l ∙ at-head l e t) in cc)
same_heads Equal k l d e s t is a b h more =
    let kl = same_key k l is in
    let de : Some d ≡ Some e = sym (at-head k d s) ∙ (h k ∙ (ap (λ (m : List ℕ). at k (more_pairs m e t)) (sym kl) ∙ at-head k e t)) in
    let dd : d ≡ e = cc in
    let st = more (λ q. same_tails (bytes_eq q k) q k l d e s t refl kl a.0 (subst (λ (m : List ℕ). Above m t) (sym kl) b.0) (h q)) in
    cc

-- tables that agree at each key are one
pub same_table_from_at : (s t : Table) → Ascending s → Ascending t → ((q : List ℕ) → at q s ≡ at q t) → s ≡ t
same_table_from_at no_pairs no_pairs a b h = refl
same_table_from_at no_pairs (more_pairs l e t) a b h = absurd (let x : None ≡ Some e = h l ∙ at-head l e t in cc)
same_table_from_at (more_pairs k d s) no_pairs a b h = absurd (let x : None ≡ Some d = sym (h k) ∙ at-head k d s in cc)
same_table_from_at (more_pairs k d s) (more_pairs l e t) a b h = same_heads (order k l) k l d e s t refl a b h (same_table_from_at s t a.1 b.1)

abbrev pub found : List ℕ → List Entry → Option Toml
found q es = lookup (λ k. bytes_eq q (string_bytes k)) es

mapped : (b : Bool) (v : Toml) (o : Option Toml) → cond b (Some (view v)) (option_map view o) ≡ option_map view (cond b (Some v) o)
mapped true v o = refl
mapped false v o = refl

-- a look-up in the map is one in its table
pub at-table_view : (q : List ℕ) (es : List Entry) → at q (table_view es) ≡ option_map view (found q es)
at-table_view q [] = refl
at-table_view q (e ∷ es) =
    at-put q (string_bytes e.0) (view e.1) (table_view es) ∙ (ap (cond (bytes_eq q (string_bytes e.0)) (Some (view e.1))) (at-table_view q es) ∙ mapped (bytes_eq q (string_bytes e.0)) e.1 (found q es))

-- each entry of es stands in t
abbrev pub Agree : List Entry → Table → Type 0
Agree [] t = Unit {0}
Agree (e ∷ es) t = (at (string_bytes e.0) t ≡ Some (view e.1)) × Agree es t

-- each key of es stands in t
abbrev pub Present : List Entry → Table → Type 0
Present [] t = Unit {0}
Present (e ∷ es) t = IsSome (at (string_bytes e.0) t) × Present es t

some : {A : Type 0} (x : A) → IsSome (Some x)
some x = search rules

agree_found_at : (b : Bool) (q : List ℕ) (e : Entry) (es : List Entry) (t : Table) → bytes_eq q (string_bytes e.0) ≡ b → Agree (e ∷ es) t
    → ((v : Toml) → found q es ≡ Some v → at q t ≡ Some (view v)) → (v : Toml) → found q (e ∷ es) ≡ Some v → at q t ≡ Some (view v)
agree_found_at true q e es t is a more v h =
    let here : Some e.1 ≡ Some v = sym (ap (λ b. cond b (Some e.1) (found q es)) is) ∙ h in
    let ev : e.1 ≡ v = cc in
    ap (λ (r : List ℕ). at r t) ((bytes_eq-Decides q (string_bytes e.0)).0 is) ∙ (a.0 ∙ ap (λ w. Some (view w)) ev)
agree_found_at false q e es t is a more v h = more v (sym (ap (λ b. cond b (Some e.1) (found q es)) is) ∙ h)

-- in a table that agrees with the entries, an entry's key has what it has in the entries
agree_found : (q : List ℕ) (es : List Entry) (t : Table) → Agree es t → (v : Toml) → found q es ≡ Some v → at q t ≡ Some (view v)
agree_found q [] t a v h = absurd (cc)
agree_found q (e ∷ es) t a v h = agree_found_at (bytes_eq q (string_bytes e.0)) q e es t refl a (agree_found q es t a.1) v h

present_found_at : (b : Bool) (q : List ℕ) (e : Entry) (es : List Entry) (t : Table) → bytes_eq q (string_bytes e.0) ≡ b → Present (e ∷ es) t
    → ((v : Toml) → found q es ≡ Some v → IsSome (at q t)) → (v : Toml) → found q (e ∷ es) ≡ Some v → IsSome (at q t)
present_found_at true q e es t is a more v h =
    subst (λ (r : List ℕ). IsSome (at r t)) (sym ((bytes_eq-Decides q (string_bytes e.0)).0 is)) a.0
present_found_at false q e es t is a more v h = more v (sym (ap (λ b. cond b (Some e.1) (found q es)) is) ∙ h)

-- whichever keys stand in es stand in t
present_found : (q : List ℕ) (es : List Entry) (t : Table) → Present es t → (v : Toml) → found q es ≡ Some v → IsSome (at q t)
present_found q [] t a v h = absurd (cc)
present_found q (e ∷ es) t a v h = present_found_at (bytes_eq q (string_bytes e.0)) q e es t refl a (present_found q es t a.1) v h

none_some : {A : Type 0} (o : Option A) → o ≡ None → IsSome o → ⊥
none_some None e h = search rules
none_some (Some x) e h = cc

agree_at : (q : List ℕ) (es fs : List Entry) → Agree es (table_view fs) → Present fs (table_view es) → (o p : Option Toml) → found q es ≡ o → found q fs ≡ p → at q (table_view es) ≡ at q (table_view fs)
agree_at q es fs a b (Some v) p eo ep = at-table_view q es ∙ (ap (option_map view) eo ∙ sym (agree_found q es (table_view fs) a v eo))
agree_at q es fs a b None None eo ep = at-table_view q es ∙ (ap (option_map view) eo ∙ (sym (ap (option_map view) ep) ∙ sym (at-table_view q fs)))
agree_at q es fs a b None (Some w) eo ep =
    absurd (none_some (at q (table_view es)) (at-table_view q es ∙ ap (option_map view) eo) (present_found q fs (table_view es) b w ep))

-- two maps with the same pairs have one table
pub same_tables_from_entries : (es fs : List Entry) → Agree es (table_view fs) → Present fs (table_view es) → table_view es ≡ table_view fs
same_tables_from_entries es fs a b = same_table_from_at _ _ (ascending_table es) (ascending_table fs) (λ q. agree_at q es fs a b _ _ refl refl)

-- lists of values, by their places
pub values_view-from_places : (xs ys : List Toml) → length xs ≡ length ys → ((k : ℕ) (d : Toml) → k < length xs → view (get_or xs k d) ≡ view (get_or ys k d)) → values_view xs ≡ values_view ys
values_view-from_places [] [] e h = refl
values_view-from_places [] (y ∷ ys) e h = absurd (omega arith)
values_view-from_places (x ∷ xs) [] e h = absurd (omega arith)
values_view-from_places (x ∷ xs) (y ∷ ys) e h =
    let here : view x ≡ view y = h 0 x (omega arith) in
    let there = values_view-from_places xs ys (omega arith) (λ k d l. h (suc k) d (omega arith)) in
    cc

pub length-from_values_view : (xs ys : List Toml) → values_view xs ≡ values_view ys → length xs ≡ length ys
length-from_values_view [] [] e = refl
length-from_values_view [] (y ∷ ys) e = absurd (cc)
length-from_values_view (x ∷ xs) [] e = absurd (cc)
length-from_values_view (x ∷ xs) (y ∷ ys) e =
    let t : values_view xs ≡ values_view ys = cc in ap suc (length-from_values_view xs ys t)

abbrev pub Map : Type 0
Map = HashMap (String Global) Toml (BuildHasherDefault FoldHasher)

pub tables_view-from_places : (xs ys : List Map) → length xs ≡ length ys → ((k : ℕ) (d : Map) → k < length xs → table_view (get_or xs k d).entries ≡ table_view (get_or ys k d).entries) → tables_view xs ≡ tables_view ys
tables_view-from_places [] [] e h = refl
tables_view-from_places [] (y ∷ ys) e h = absurd (omega arith)
tables_view-from_places (x ∷ xs) [] e h = absurd (omega arith)
tables_view-from_places (x ∷ xs) (y ∷ ys) e h =
    let here : table_view x.entries ≡ table_view y.entries = h 0 x (omega arith) in
    let there = tables_view-from_places xs ys (omega arith) (λ k d l. h (suc k) d (omega arith)) in
    cc

pub length-from_tables_view : (xs ys : List Map) → tables_view xs ≡ tables_view ys → length xs ≡ length ys
length-from_tables_view [] [] e = refl
length-from_tables_view [] (y ∷ ys) e = absurd (cc)
length-from_tables_view (x ∷ xs) [] e = absurd (cc)
length-from_tables_view (x ∷ xs) (y ∷ ys) e =
    let t : tables_view xs ≡ tables_view ys = cc in ap suc (length-from_tables_view xs ys t)

pub value_here : (xs ys : List Toml) (k : ℕ) (d e : Toml) → values_view xs ≡ values_view ys → k < length xs → view (get_or xs k d) ≡ view (get_or ys k e)
value_here [] ys k d e h l = absurd (omega arith)
value_here (x ∷ xs) [] k d e h l = absurd (cc)
value_here (x ∷ xs) (y ∷ ys) zero d e h l = cc
value_here (x ∷ xs) (y ∷ ys) (suc k) d e h l = let t : values_view xs ≡ values_view ys = cc in value_here xs ys k d e t (omega arith)

pub table_here : (xs ys : List Map) (k : ℕ) (d e : Map) → tables_view xs ≡ tables_view ys → k < length xs → table_view (get_or xs k d).entries ≡ table_view (get_or ys k e).entries
table_here [] ys k d e h l = absurd (omega arith)
table_here (x ∷ xs) [] k d e h l = absurd (cc)
table_here (x ∷ xs) (y ∷ ys) zero d e h l = cc
table_here (x ∷ xs) (y ∷ ys) (suc k) d e h l = let t : tables_view xs ≡ tables_view ys = cc in table_here xs ys k d e t (omega arith)

is_some-map : (o : Option Toml) → is_some (option_map view o) ≡ is_some o
is_some-map None = refl
is_some-map (Some v) = refl

IsSome-from_is_some : {A : Type 0} (o : Option A) → is_some o ≡ true → IsSome o
IsSome-from_is_some None h = absurd (true≢false (sym h))
IsSome-from_is_some (Some v) h = some v

-- the map has the key exactly if its table does
pub is_some-at : (q : List ℕ) (es : List Entry) → is_some (at q (table_view es)) ≡ is_some (found q es)
is_some-at q es = ap is_some (at-table_view q es) ∙ is_some-map (found q es)

pub has_key : (q : List ℕ) (es : List Entry) → is_some (found q es) ≡ true → IsSome (at q (table_view es))
has_key q es h = IsSome-from_is_some _ (is_some-at q es ∙ h)

-- one level of maps, seen
pub tables_map : (ms : List Map) → tables_of (map (λ m. table_of m.entries) (map (former-Toml-Array-0-at-1.map Toml Data view) ms)) ≡ tables_view ms
tables_map [] = refl
tables_map (m ∷ ms) = ap (more_tables (table_view m.entries)) (tables_map ms)

pub view-Array : (v : Vec Map Global) → view (Array v) ≡ tables (tables_view v.items)
view-Array v = search (rules, the_lemmas, tables_map)

pub view-SimpleArray : (v : Vec Toml Global) → view (SimpleArray v) ≡ values (values_view v.items)
view-SimpleArray v = search (rules, the_lemmas)

pub within-table_at : (ms : List Map) (i : ℕ) → IsSome (table_at (tables_view ms) i) → i < length ms
within-table_at [] i h = absurd (none_some {A = Table} None refl h)
within-table_at (m ∷ ms) zero h = omega arith
within-table_at (m ∷ ms) (suc i) h = let l = within-table_at ms i h in omega arith

pub table_at-tables_view : (ms : List Map) (i : ℕ) (d : Map) → i < length ms → table_at (tables_view ms) i ≡ Some (table_view (get_or ms i d).entries)
table_at-tables_view [] i d h = absurd (omega arith)
table_at-tables_view (m ∷ ms) zero d h = refl
table_at-tables_view (m ∷ ms) (suc i) d h = table_at-tables_view ms i d (omega arith)
