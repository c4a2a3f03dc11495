-- Lists of any count, arrays of one count, and sets, of which each item counts once.
use Rattle.std.specs.Prelude.{◌≡◌, ◌<◌, ℕ, List, length}
use Rattle.std.specs.List.{AllByRecursion}
use Rattle.nano_value.specs.Meaning.{IsImage, Meaning, usize_bound}
use Rattle.nano_grammar.specs.Tokens.{Cutting}
use Rattle.nano_grammar.specs.Codec.{Codec, Grammar, AreBrackets, ListStyle, Canonical}
use Rattle.nano_grammar.specs.Items.{ListPunctuation, EncodedList, no_gaps, laid_out}
use Rattle.nano_text.specs.Place.{saturating_next}
use Rattle.nano_value.specs.Sets.{ascending_items, items_mean}
use Rattle.nano_value.specs.Order.{MeaningOrder, by_meaning}

-- any number of items that a `usize` counts
pub record EncodesList {T A : Type 0} (punctuation : ListPunctuation T) (S : List T → A → Type 0)
    (ts : List T) (xs : List A) : Type 0 where
  pub count : length xs < usize_bound
  pub items : EncodedList punctuation S ts xs

-- a collection of items, by what they come to
abbrev pub EncodesAll : {T A : Type 0} → ListPunctuation T → (List A → Meaning)
    → (List T → A → Type 0) → List T → Meaning → Type 0
EncodesAll punctuation whole S ts = IsImage whole (EncodesList punctuation S ts)

-- so many items
pub record EncodesCount {T A : Type 0} (punctuation : ListPunctuation T) (count : ℕ)
    (S : List T → A → Type 0) (ts : List T) (xs : List A) : Type 0 where
  pub count_is : length xs ≡ count
  pub items : EncodedList punctuation S ts xs

-- the text of a list in a style at a level, and its tokens
module _ {T : Type 0} {c : Cutting T} (s : ListStyle c) {A : Type 0} where
  abbrev pub list_text : ℕ → (A → List ℕ) → List A → List ℕ
  list_text d = laid_out s.ends (s.gaps d) s.punctuation

  abbrev pub list_tokens : (A → List T) → List A → List T
  list_tokens = laid_out s.ends no_gaps s.tokens

-- ---- the format

module _ {T : Type 0} {c : Cutting T} {g : Grammar T} (s : ListStyle c)
    (are : AreBrackets g s.tokens) {A : Type 0} (f : Codec c g A) where
  abbrev pub AllSound : List A → Type 0
  AllSound = AllByRecursion f.sound

-- ==== sets

-- a list of the items: each counts once
abbrev pub EncodesSet : {T : Type 0} → ListPunctuation T → (List T → Meaning → Type 0) → List T
    → Meaning → Type 0
EncodesSet punctuation S ts = IsImage items_mean (EncodesList punctuation S ts)

-- ---- the canonical text

module _ {T : Type 0} {c : Cutting T} (s : ListStyle c) {K : Type 0} (o : MeaningOrder)
    (w : Canonical c K) where
  abbrev pub set_text : ℕ → List K → List ℕ
  set_text d ks =
      list_text s d (w.text (saturating_next d)) (ascending_items (by_meaning w.means o) ks)

  abbrev pub set_tokens : List K → List T
  set_tokens ks = list_tokens s w.tokens (ascending_items (by_meaning w.means o) ks)

-- ---- the format

module _ {T : Type 0} {c : Cutting T} {g : Grammar T} (s : ListStyle c)
    (are : AreBrackets g s.tokens) {K : Type 0} (o : MeaningOrder) (f : Codec c g K) where
  abbrev pub items_of : List K → List K
  items_of = ascending_items (by_meaning f.canonical.means o)

  -- the items in order
  abbrev pub SoundSet : List K → Type 0
  SoundSet ks = AllSound s are f (items_of ks)
