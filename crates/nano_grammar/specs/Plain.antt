-- Values and fields that are taken from a text with no token pending.
use Rattle.std.specs.Prelude.{◌≡◌, ℕ, Bool, true, false, List, [], ◌∷◌, ◌++◌}
use Rattle.nano_grammar.specs.Tokens.{Cuts}
use Rattle.nano_grammar.specs.Fields.{Field, Shape}

module _ {T : Type 0} (cut : List ℕ → T → List ℕ → Type 0) where
  -- an encoding of the value was cut from the text, and that is left
  abbrev pub TookPlainly : {V : Type 0} → (List T → V → Type 0) → List ℕ → List ℕ → V → Type 0
  TookPlainly encodes text rest value = (ts : List T) × encodes ts value × Cuts cut ts text rest

  module _ (name : List ℕ) (takes : List ℕ → List T → Type 0)
      (before after : List (Field T) → Type 0) (text rest : List ℕ) where
    -- what may come after the name was cut from the text, and that is left. Where the fields before
    -- it were held, they are held with it
    pub record TookFieldPlainly : Type 0 where
      pub value : List T
      pub allowed : takes name value
      pub taken : Cuts cut value text rest
      pub held : (fs : List (Field T)) → before fs
          → after (fs ++ record { name = name; value = value } ∷ [])

  module _ (name : List ℕ) (shape : Shape T) (before after : List (Field T) → Type 0)
      (same : Type 0) (text rest : List ℕ) where
    -- whether one of the fields has the name: then its value was taken, and else all is the same
    pub record LooksUpPlainly (known : Bool) : Type 0 where
      pub known_is : known ≡ shape.knows name
      pub taken : known ≡ true → TookFieldPlainly name shape.takes before after text rest
      pub unknown : known ≡ false → same
