-- What a vector holds while its items are read.
use Rattle.std.proofs.Common.{◌≡◌, List, map, Vec, Global}
use Rattle.nano_value.specs.Meaning.{Meaning}

-- items of these meanings, in this order
abbrev pub HoldItems : {A : Type 0} → (A → Meaning) → Vec A Global → List Meaning → Type 0
HoldItems means x items = map means x.items ≡ items
