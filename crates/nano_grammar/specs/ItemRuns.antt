-- Items of a list that are taken one after the other, each after a comma.
use Rattle.std.specs.Prelude.{◌≡◌, List, [], ◌∷◌, ◌++◌, ℕ}
use Rattle.nano_grammar.specs.Tokens.{Leaves}
use Rattle.nano_grammar.specs.Outcomes.{Position, Moved, Read}

module _ {T V : Type 0} (cut : List ℕ → T → List ℕ → Type 0) (encodes : List T → V → Type 0)
    (comma : T) where
  -- the pending comma was taken, and an item after it
  abbrev pub TookItem : Position T → Position T → V → Type 0
  TookItem start end value = (item : Position T) × Leaves cut (comma ∷ []) start.at item.at
      × Moved start item × Read cut encodes item end value

  -- these items were taken, each after a comma
  abbrev pub TookItems : Position T → List V → Position T → Type 0
  TookItems start [] end = (start.at ≡ end.at) × Moved start end
  TookItems start (value ∷ values) end =
      (next : Position T) × TookItem start next value × TookItems next values end

  -- a collection that held others holds them after those
  pub record PutItems {C : Type 0} (holds : C → List V → Type 0) (start end : Position T)
      (old new : C) : Type 0 where
    pub items : List V
    pub taken : TookItems start items end
    pub put : (held : List V) → holds old held → holds new (held ++ items)
