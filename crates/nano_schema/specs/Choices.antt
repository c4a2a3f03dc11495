-- Values that are one of two kinds.
use Rattle.nano_schema.specs.declared.choices.Either.{Either}
use Rattle.nano_schema.specs.declared.choices.Either.TheVariants.{First, Later}

-- what one of two functions makes of it
abbrev pub either_is : {A B X : Type 0} → (A → X) → (B → X) → Either A B → X
either_is f g (First a) = f a
either_is f g (Later b) = g b

abbrev pub either_map : {A B X Y : Type 0} → (A → X) → (B → Y) → Either A B → Either X Y
either_map f g (First a) = First (f a)
either_map f g (Later b) = Later (g b)
