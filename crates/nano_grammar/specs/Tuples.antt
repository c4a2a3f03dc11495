-- Tuples of two to four: parts between brackets, with one comma between two and optionally one
-- after the last.
use Rattle.std.specs.Prelude.{[], ◌∷◌, ◌≡◌, List}
use Rattle.nano_grammar.specs.Items.{ListPunctuation, EncodedItems}

-- the last part, optionally a comma, and the closing bracket
abbrev pub EncodedLast : {T V : Type 0} → ListPunctuation T → (List T → V → Type 0) → List T → V
    → Type 0
EncodedLast punctuation encodes ts v = EncodedItems punctuation encodes ts (v ∷ [])

-- a token, and what is encoded after it
abbrev pub EncodedAfter : {T V : Type 0} → T → (List T → V → Type 0) → List T → V → Type 0
EncodedAfter {T} token encodes ts v = (inside : List T) × (ts ≡ token ∷ inside) × encodes inside v
