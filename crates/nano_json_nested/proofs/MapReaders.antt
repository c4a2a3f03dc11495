-- What an ordered map holds while its entries are read.
use Rattle.std.proofs.Common.{List}
use Rattle.std.specs.BTreeMap.{BTreeMap}
use Rattle.std.specs.declared.cmp.Ordering.{Ordering}
use Rattle.nano_value.specs.Meaning.{Meaning}
use Rattle.nano_value.specs.Collected.{HoldsOrderedTable}

-- entries of these meanings, put in in this order
abbrev pub HeldEntries : {K V : Type 0} (R : K → K → Ordering) → (K → Meaning) → (V → Meaning)
    → BTreeMap K V → List (Meaning × Meaning) → Type 0
HeldEntries R f h x entries = HoldsOrderedTable R f h x.entries entries
