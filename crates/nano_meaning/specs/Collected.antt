-- What a collection holds of what was put into it.
use Rattle.std.specs.Prelude.{◌≡◌, Bool, List}
use Rattle.std.specs.declared.cmp.Ordering.{Ordering}
use Rattle.std.specs.List.{IsDistinct}
use Rattle.std.specs.List.Sorted.{IsStrictlySortedBy}
use Rattle.std.specs.Map.{keys_of}
use Rattle.nano_meaning.specs.Meaning.{Meaning}
use Rattle.nano_meaning.specs.Sets.{item_set, marked}
use Rattle.nano_meaning.specs.Tables.{table_of, last_values}

-- the set is that of the items, and no two of its keys are equal
pub record HoldsSet {K : Type 0} (E : K → K → Bool) (f : K → Meaning) (keys : List K)
    (items : List Meaning) : Type 0 where
  pub distinct : IsDistinct E keys
  pub same : item_set f keys ≡ last_values (marked items)

-- the set is that of the items, and its keys ascend
pub record HoldsOrderedSet {K : Type 0} (R : K → K → Ordering) (f : K → Meaning) (keys : List K)
    (items : List Meaning) : Type 0 where
  pub ordered : IsStrictlySortedBy R keys
  pub same : item_set f keys ≡ last_values (marked items)

-- the table is that of the pairs, and no two of its keys are equal
pub record HoldsTable {K V : Type 0} (E : K → K → Bool) (f : K → Meaning) (h : V → Meaning)
    (entries : List (K × V)) (pairs : List (Meaning × Meaning)) : Type 0 where
  pub distinct : IsDistinct E (keys_of entries)
  pub same : table_of f h entries ≡ last_values pairs

-- the table is that of the pairs, and its keys ascend
pub record HoldsOrderedTable {K V : Type 0} (R : K → K → Ordering) (f : K → Meaning)
    (h : V → Meaning) (entries : List (K × V)) (pairs : List (Meaning × Meaning)) : Type 0 where
  pub ordered : IsStrictlySortedBy R (keys_of entries)
  pub same : table_of f h entries ≡ last_values pairs
