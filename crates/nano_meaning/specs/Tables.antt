-- What maps mean: tables from the meanings of keys, each with the last value that was put at it.
use Rattle.std.specs.Prelude.{◌<◌, List, [], ◌∷◌, map, ◌≡◌, ◌≢◌, ◌++◌, Some}
use Rattle.std.specs.declared.cmp.Ordering.{Ordering}
use Rattle.std.specs.List.{AllByRecursion}
use Rattle.std.specs.FinMap as table
use Rattle.std.specs.FinMap.{FinMap}
use Rattle.std.specs.Ordering.{eq_by_cmp}
use Rattle.std.specs.Cmp.{IsTotalOrder}
use Rattle.std.specs.List.Sorted.{IsPermutation, IsStrictlySortedBy}
use Rattle.std.specs.Map.{keys_of}
use Rattle.nano_meaning.specs.Meaning.{Meaning, listed, paired, pair_map, usize_bound, IsImage}
use Rattle.nano_meaning.specs.Meaning.{BothOfPair, EqAgrees}
use Rattle.nano_meaning.specs.Order.{meaning_cmp}

-- entries put into a table, one after the other
abbrev pub insert_all : {K X : Type 0} {R : K → K → Ordering} → FinMap R X → List (K × X)
    → FinMap R X
insert_all t [] = t
insert_all t (e ∷ es) = insert_all (table.insert t e.0 e.1) es

-- for each key that occurs, its last value
abbrev pub last_values : {K X : Type 0} {R : K → K → Ordering} → List (K × X) → FinMap R X
last_values es = insert_all table.empty es

-- a table from meanings
abbrev pub Table : Type 0 → Type 0
Table X = FinMap meaning_cmp X

-- the table of entries, by what their keys and values stand for
abbrev pub table_of : {K V X : Type 0} → (K → Meaning) → (V → X) → List (K × V) → Table X
table_of f g es = last_values (map (pair_map f g) es)

-- a map: each key once, with its value
abbrev pub table_means : Table Meaning → Meaning
table_means t = listed (map paired (table.entries t))

-- the map of a list of pairs: of each key the last value
abbrev pub map_means : List (Meaning × Meaning) → Meaning
map_means pairs = table_means (last_values pairs)

-- a count that is a `usize`, and entries whose parts have the properties
pub record AllOfTable {X : Type 0} (P : Meaning → Type 0) (Q : X → Type 0) (t : Table X) : Type 0
  where
    pub count : table.len t < usize_bound
    pub entries : AllByRecursion (BothOfPair P Q) (table.entries t)

abbrev pub LegalMap : (Meaning → Type 0) → (Meaning → Type 0) → Meaning → Type 0
LegalMap P Q = IsImage table_means (AllOfTable P Q)

-- ==== the entries of a map in the order of the keys, as they are written

-- the entries in the order of the keys: of each key the last value
abbrev pub ascending : {K X : Type 0} → (K → K → Ordering) → List (K × X) → List (K × X)
ascending R es = table.entries (last_values {R = R} es)

-- a total order of keys, in which two are equal where they mean the same
pub record IsOrderOf {K : Type 0} (means : K → Meaning) (R : K → K → Ordering) : Type 0 where
  pub total : IsTotalOrder R
  pub decides : EqAgrees (eq_by_cmp R) means

-- ==== the last value of a key

-- the value of the last pair that has the key
pub record IsLastValue {X : Type 0} (pairs : List (Meaning × X)) (key : Meaning) (value : X) : Type
    0 where
  pub before : List (Meaning × X)
  pub following : List (Meaning × X)
  pub whole : pairs ≡ before ++ (key, value) ∷ following
  pub none_after : AllByRecursion (λ e. e.0 ≢ key) following

-- the table has each key that occurs, with the key's last value, and no other
pub record HoldsLastValues {X : Type 0} (pairs : List (Meaning × X)) (t : Table X) : Type 0 where
  pub has : (key : Meaning) (value : X) → IsLastValue pairs key value → table.get t key ≡ Some value
  pub only : (key : Meaning) (value : X) → table.get t key ≡ Some value
      → IsLastValue pairs key value

-- the pairs strictly ascend by their keys, and are those of the list
pub record IsInOrder {K X : Type 0} (R : K → K → Ordering) (pairs sorted : List (K × X)) : Type 0
  where
    pub ascends : IsStrictlySortedBy R (keys_of sorted)
    pub same : IsPermutation sorted pairs
