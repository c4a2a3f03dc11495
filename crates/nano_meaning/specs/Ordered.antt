-- What sets and maps mean that hold their items in order, and the order of such.
use Rattle.std.specs.Prelude.{cond, List, [], ◌∷◌, map, Bool, true, false}
use Rattle.std.specs.declared.cmp.Ordering.{Ordering}
use Rattle.std.specs.FinMap.Entries.{is_sorted}
use Rattle.std.specs.Ordering.{ordering_then}
use Rattle.nano_meaning.specs.Meaning.{Meaning, whole, both, paired, pair_map, number, text}
use Rattle.nano_meaning.specs.Meaning.{nothing}
use Rattle.nano_meaning.specs.Sets.{marked, item_set, set_means, ascending_items}
use Rattle.nano_meaning.specs.Tables.{table_of, table_means, ascending}
use Rattle.nano_meaning.specs.Order.{MeaningOrder, items_of, Follows, parts_of}

-- items that no list ends: what no value of a program means
abbrev pub unordered : List Meaning → Meaning
unordered [] = whole 0
unordered (m ∷ ms) = both m (unordered ms)

-- the set of the items, where they stand in order, as those of each set of a program do
abbrev pub ordered_means : {K : Type 0} → (K → K → Ordering) → (K → Meaning) → List K → Meaning
ordered_means R f ks =
    cond (is_sorted R (marked ks)) (set_means (item_set f ks)) (unordered (map f ks))

-- ==== maps that hold their entries in order

-- the map of the entries, where their keys stand in order, as those of each map of a program do
abbrev pub ordered_map_means : {K V : Type 0} → (K → K → Ordering) → (K → Meaning) → (V → Meaning)
    → List (K × V) → Meaning
ordered_map_means R f g es =
    cond (is_sorted R es) (table_means (table_of f g es))
    (unordered (map paired (map (pair_map f g) es)))

-- ==== the order of ordered sets

unfoldable pub is_list : Meaning → Bool
is_list (number z) = false
is_list (text bytes) = false
is_list nothing = true
is_list (both a b) = is_list b

-- the items of a set in the order o
unfoldable pub seen_set : MeaningOrder → Meaning → List Meaning
seen_set o m = cond (is_list m) (ascending_items o.cmp (items_of m)) (items_of m)

-- ==== the order of ordered maps

-- the entries of a map, each a key and its value, in the order o of the keys
unfoldable pub seen_map : MeaningOrder → Meaning → List Meaning
seen_map o m =
    cond (is_list m) (map paired (ascending o.cmp (map parts_of (items_of m)))) (items_of m)

module _ {K V : Type 0} (R : K → K → Ordering) (f : K → Meaning) (o : MeaningOrder)
    (h : Follows R f o) (g : V → Meaning) where
  abbrev pub pairs_of : List (K × V) → List (Meaning × Meaning)
  pairs_of es = map (pair_map f g) es

  module _ (S : V → V → Ordering) (p : MeaningOrder) (k : Follows S g p) where
    -- entries compare by their keys, then by their values
    abbrev pub entry_cmp : K × V → K × V → Ordering
    entry_cmp x y = ordering_then (R x.0 y.0) (S x.1 y.1)
