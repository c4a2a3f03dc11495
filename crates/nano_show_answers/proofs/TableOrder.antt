-- The table that a map means is the chain of its entries in the order of their keys.
use Rattle.std.proofs.Common.{◌≡◌, ℕ, List, [], ◌∷◌, cond, Bool, true, false, Option, Some, None}
use Rattle.std.proofs.Common.{String, Global, string_bytes, bytes_eq, Less, Equal, Greater, refl}
use Rattle.std.proofs.Common.{sym, ap, ◌∙◌, map, Vec, Bor, Result, Ok, Err, IfOk}
use Rattle.std.specs.List.{AllByRecursion, IsDistinct}
use Rattle.std.specs.Map.{keys_of}
use Rattle.std.specs.Map.Iter.{deref_pair}
use Rattle.std.specs.declared.alloc.AllocError.{AllocError}
use Rattle.std.specs.String.{string_cmp, string_cmp_total, string_eq}
use Rattle.std.specs.FinMap as table
use Rattle.std.specs.FinMap.{FinMap}
use Rattle.std.specs.FinMap.Entries.{by_order}
use Rattle.std.specs.FinMap.Entries as entries
use Rattle.std.specs.Ordering.{match_ordering}
use Rattle.std.proofs.lemmas.Map.Keys.{IsDistinct-head, IsDistinct-tail}
use Rattle.std.proofs.lemmas.Slice.Eq.{bytes_eq-Decides}
use Rattle.nano_value.specs.Tables.{ascending, insert_all}
use Rattle.nano_meaning.proofs.TablesLaws.{no_entries}
use Rattle.nano_toml.specs.Data.{Data, Table, no_pairs, more_pairs, put, at, view, table_view}
use Rattle.nano_toml.specs.declared.value.Toml.{Toml}
use Rattle.nano_show_answers.specs.Answer.{chain}
use Rattle.nano_toml.proofs.TableViews.{Entry, Ascending, ascending_put, ascending_table, at-put}
use Rattle.nano_toml.proofs.TableViews.{same_table_from_at}

-- entries put into a table, one after the other
put_all : Table → List Entry → Table
put_all t [] = t
put_all t (e ∷ es) = put_all (put (string_bytes e.0) (view e.1) t) es

chain_put : (k : String Global) (v : Toml) (es : List Entry) → chain (entries.put string_cmp k v es)
    ≡ put (string_bytes k) (view v) (chain es)
chain_put k v [] = refl
chain_put k v (e ∷ es) =
    elim (string_cmp k e.0) as (λ r. chain
    (by_order r ((k, v) ∷ e ∷ es) ((e.0, v) ∷ es) (e ∷ entries.put string_cmp k v es))
    ≡ match_ordering r (more_pairs (string_bytes k) (view v) (chain (e ∷ es)))
    (more_pairs (string_bytes e.0) (view v) (chain es))
    (more_pairs (string_bytes e.0) (view e.1) (put (string_bytes k) (view v) (chain es)))) [
      | Less ↦ refl
      | Equal ↦ refl
      | Greater ↦ ap (more_pairs (string_bytes e.0) (view e.1)) (chain_put k v es)
    ]

chain_all : (u : FinMap string_cmp Toml) (es : List Entry) → chain (table.entries (insert_all u es))
    ≡ put_all (chain (table.entries u)) es
unfolding put_all
chain_all u [] = refl
chain_all u (e ∷ es) =
    chain_all (table.insert u e.0 e.1) es
    ∙ ap (λ t. put_all t es) (ap chain (table.entries-insert string_cmp_total u e.0 e.1)
    ∙ chain_put e.0 e.1 (table.entries u))

ascending_all : (t : Table) (es : List Entry) → Ascending t → Ascending (put_all t es)
unfolding put_all
ascending_all t [] a = a
ascending_all t (e ∷ es) a =
    ascending_all (put (string_bytes e.0) (view e.1) t) es
    (ascending_put (string_bytes e.0) (view e.1) t a)

-- the first of two that is there
or_else : Option Data → Option Data → Option Data
or_else (Some d) other = Some d
or_else None other = other

-- a key that is none of the entries' is not in their table
absent : (k : String Global) (es : List Entry)
    → AllByRecursion (λ l. string_eq k l ≡ false) (keys_of es) → at (string_bytes k) (table_view es)
    ≡ None
absent k [] h = refl
absent k (e ∷ es) h =
    at-put (string_bytes k) (string_bytes e.0) (view e.1) (table_view es)
    ∙ (ap (λ b. cond b (Some (view e.1)) (at (string_bytes k) (table_view es))) h.0
    ∙ absent k es h.1)

-- one more entry, whose key differs from those after it, may as well be put last
put_first : (b : Bool) (q : List ℕ) (d : Data) (there before : Option Data)
    → (b ≡ true → there ≡ None)
    → or_else there (cond b (Some d) before) ≡ or_else (cond b (Some d) there) before
unfolding or_else
put_first true q d there before h = ap (λ o. or_else o (Some d)) (h refl)
put_first false q d there before h = refl

at_put_all : (t : Table) (es : List Entry) (q : List ℕ) → IsDistinct string_eq (keys_of es)
    → at q (put_all t es) ≡ or_else (at q (table_view es)) (at q t)
unfolding put_all or_else
at_put_all t [] q distinct = refl
at_put_all t (e ∷ es) q distinct =
    let k = string_bytes e.0 in
    let apart = absent e.0 es (IsDistinct-head string_eq e.0 (keys_of es) distinct) in
    let none : bytes_eq q k ≡ true → at q (table_view es) ≡ None =
    λ same. ap (λ (r : List ℕ). at r (table_view es)) ((bytes_eq-Decides q k).0 same) ∙ apart in
    at_put_all (put k (view e.1) t) es q (IsDistinct-tail string_eq e.0 (keys_of es) distinct)
    ∙ (ap (or_else (at q (table_view es))) (at-put q k (view e.1) t)
    ∙ (put_first (bytes_eq q k) q (view e.1) (at q (table_view es)) (at q t) none
    ∙ ap (λ o. or_else o (at q t)) (sym (at-put q k (view e.1) (table_view es)))))

nothing_before : (o : Option Data) → or_else o None ≡ o
unfolding or_else
nothing_before (Some d) = refl
nothing_before None = refl

pub chain-ascending : (es : List Entry) → IsDistinct string_eq (keys_of es)
    → chain (ascending string_cmp es) ≡ table_view es
chain-ascending es distinct =
    let is : chain (ascending string_cmp es) ≡ put_all no_pairs es =
    chain_all table.empty es ∙ ap (λ l. put_all (chain l) es) (no_entries string_cmp) in
    is ∙ same_table_from_at (put_all no_pairs es) (table_view es) (ascending_all no_pairs es tt)
    (ascending_table es)
    (λ q. at_put_all no_pairs es q distinct ∙ nothing_before (at q (table_view es)))

pub in_order : (es : List Entry) (result : Result
    (Vec (Bor (String Global) × Bor Toml) Global) AllocError) → IsDistinct string_eq (keys_of es)
    → IfOk result (λ entries. map deref_pair entries.items ≡ ascending string_cmp es)
    → IfOk result (λ entries. chain (map deref_pair entries.items) ≡ table_view es)
in_order es (Ok entries) distinct e = ap chain e ∙ chain-ascending es distinct
in_order es (Err e) distinct h = h
