-- What sets mean: tables with nothing at each item.
use Rattle.std.specs.Prelude.{List, map}
use Rattle.std.specs.FinMap as table
use Rattle.std.specs.declared.cmp.Ordering.{Ordering}
use Rattle.std.specs.Map.{keys_of}
use Rattle.nano_meaning.specs.Meaning.{Meaning, listed, IsImage}
use Rattle.nano_meaning.specs.Tables.{Table, last_values, table_of, AllOfTable, ascending}

-- items with nothing at each
abbrev pub marked : {K : Type 0} → List K → List (K × Unit {0})
marked ks = map (λ k. (k, tt)) ks

-- a set of meanings
abbrev pub MeaningSet : Type 0
MeaningSet = Table (Unit {0})

-- the set of items, by what they stand for
abbrev pub item_set : {K : Type 0} → (K → Meaning) → List K → MeaningSet
item_set f ks = table_of f (λ u. u) (marked ks)

-- a set: each item once
abbrev pub set_means : MeaningSet → Meaning
set_means s = listed (table.keys s)

-- the set of a list of items
abbrev pub items_mean : List Meaning → Meaning
items_mean items = set_means (last_values (marked items))

-- a count that is a `usize`, and items that have the property
abbrev pub AllOfSet : (Meaning → Type 0) → MeaningSet → Type 0
AllOfSet P = AllOfTable P (λ _. Unit {0})

abbrev pub LegalSet : (Meaning → Type 0) → Meaning → Type 0
LegalSet P = IsImage set_means (AllOfSet P)

-- ==== items in order

-- the items in order, each once
abbrev pub ascending_items : {K : Type 0} → (K → K → Ordering) → List K → List K
ascending_items R ks = keys_of (ascending R (marked ks))
