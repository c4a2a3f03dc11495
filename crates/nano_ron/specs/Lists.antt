-- Lists: items between brackets, with one comma between two and optionally one after the last.
-- Vectors and linked lists use square brackets, slices and arrays use parentheses. The items
-- of a vector are written on lines of their own, with a comma after the last; those of a
-- linked list after an indent each; those of a slice or an array with a space after each
-- comma.
use Rattle.std.specs.Prelude.{ℕ, Bool, List, [], ◌∷◌, ◌++◌}
use Rattle.nano_text.specs.Place.{saturating_next}
use Rattle.nano_value.specs.Meaning.{Meaning}
use Rattle.nano_grammar.specs.Items.{item_in_list, with_punctuator}
use Rattle.nano_grammar.specs.Lists.{list_text, EncodesAll as EncodesAllIn}
use Rattle.nano_grammar.specs.Codec.{ListStyle}
use Rattle.nano_ron_tokens.specs.Token.{blocks, block_punctuation, paren_punctuation, Token}
use Rattle.nano_ron_tokens.specs.Token.{curlies, colon}
use Rattle.nano_ron_tokens.proofs.RonLaws.{ron}
use Rattle.nano_ron_tokens.specs.Written.{indents, spaces, indent}
use Rattle.nano_text.specs.Characters.{line_feed}
use Rattle.nano_grammar.specs.Items.{EncodedPair}
use Rattle.nano_ron_tokens.proofs.StylesLaws.{curly_style}

-- an item of a list at a level, on a line of its own, with a comma after it
abbrev pub on_a_line : ℕ → List ℕ → List ℕ
on_a_line d text = indent (saturating_next d) ++ (text ++ (44 ∷ (line_feed ∷ [])))

-- an item of a list at a level, after an indent, and after a comma unless it is the first
abbrev pub after_indent : ℕ → Bool → List ℕ → List ℕ
after_indent d first text = item_in_list (indents d) block_punctuation first text

-- an item after a comma and a space, unless it is the first
abbrev pub after_space : Bool → List ℕ → List ℕ
after_space first text = item_in_list spaces paren_punctuation first text

-- items between brackets, as they are written at a level
abbrev pub written_in : ListStyle ron → {A : Type 0} → ℕ → (A → List ℕ) → List A → List ℕ
written_in style d W xs = list_text style d W xs

-- a collection of items between square brackets, by what they come to
abbrev pub EncodesAll : (List Meaning → Meaning) → (List Token → Meaning → Type 0) → List Token
    → Meaning → Type 0
EncodesAll whole S = EncodesAllIn blocks whole S

-- ==== maps

-- a key, a colon and a value
abbrev pub EncodesEntry : (List Token → Meaning → Type 0) → (List Token → Meaning → Type 0)
    → List Token → Meaning × Meaning → Type 0
EncodesEntry S R = EncodedPair colon S R

-- a collection of entries between braces, by what they come to
abbrev pub EncodesAllEntries : (List (Meaning × Meaning) → Meaning)
    → (List Token → Meaning → Type 0) → (List Token → Meaning → Type 0) → List Token → Meaning
    → Type 0
EncodesAllEntries whole S R = EncodesAllIn curlies whole (EncodesEntry S R)

-- a key, a colon and its value, as they are written
abbrev pub written_entry : {K V : Type 0} → (K → List ℕ) → (V → List ℕ) → K × V → List ℕ
written_entry A B = with_punctuator 58 [] A B

-- entries between braces, as they are written at a level
abbrev pub written_entries : {K V : Type 0} → ℕ → (K → List ℕ) → (V → List ℕ) → List (K × V)
    → List ℕ
written_entries d A B es = written_in curly_style d (written_entry A B) es
