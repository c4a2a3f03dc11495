-- Lists: items between square brackets, with one comma between two and optionally one after
-- the last. They are written with no gaps, and no comma after the last.
use Rattle.std.specs.Prelude.{ℕ, Bool, false, cond, List, ◌∷◌, []}
use Rattle.nano_value.specs.Meaning.{Meaning}
use Rattle.nano_grammar.specs.Items.{ListPunctuation, no_gaps, laid_out, with_punctuator}
use Rattle.nano_grammar.specs.Lists.{EncodesAll as EncodesAllIn}
use Rattle.nano_json_tokens.specs.Token.{blocks, block_punctuation, Token, curlies}
use Rattle.nano_json_tokens.specs.Token.{curly_punctuation, colon}
use Rattle.nano_grammar.specs.Items.{EncodedPair}

-- an item as it stands in a list: after a comma, unless it is the first
abbrev pub in_list : Bool → List ℕ → List ℕ
in_list first text = cond first text (44 ∷ text)

-- items as they are written between brackets
abbrev pub written_items : {A : Type 0} → ListPunctuation ℕ → (A → List ℕ) → List A → List ℕ
written_items punctuation W xs = laid_out false no_gaps punctuation W xs

abbrev pub written_list : {A : Type 0} → (A → List ℕ) → List A → List ℕ
written_list W xs = written_items block_punctuation W xs

-- a collection of items between square brackets, by what they come to
abbrev pub EncodesAll : (List Meaning → Meaning) → (List Token → Meaning → Type 0) → List Token
    → Meaning → Type 0
EncodesAll whole S = EncodesAllIn blocks whole S

-- ==== maps

-- a key, a colon and a value
abbrev pub EncodesEntry : (List Token → Meaning → Type 0) → (List Token → Meaning → Type 0)
    → List Token → Meaning × Meaning → Type 0
EncodesEntry S R = EncodedPair colon S R

-- a collection of entries between braces, by what they come to
abbrev pub EncodesAllEntries : (List (Meaning × Meaning) → Meaning)
    → (List Token → Meaning → Type 0) → (List Token → Meaning → Type 0) → List Token → Meaning
    → Type 0
EncodesAllEntries whole S R = EncodesAllIn curlies whole (EncodesEntry S R)

-- a key, a colon and its value, as they are written
abbrev pub written_entry : {K V : Type 0} → (K → List ℕ) → (V → List ℕ) → K × V → List ℕ
written_entry A B = with_punctuator 58 [] A B

abbrev pub written_entries : {K V : Type 0} → (K → List ℕ) → (V → List ℕ) → List (K × V) → List ℕ
written_entries A B es = written_items curly_punctuation (written_entry A B) es
