-- Lists, sets and maps: the count, and the items. Arrays, slices and tuples: the items, and no
-- count. Texts are counted by their bytes.
use Rattle.std.specs.Prelude.{◌≡◌, ℕ, List, [], ◌∷◌, ◌++◌, length, IsUtf8, ◌≢◌, Option, Some, None}
use Rattle.std.specs.Prelude.{String, string_bytes}
use Rattle.std.specs.List.{flat_map}
use Rattle.std.specs.declared.cmp.Ordering.{Ordering}
use Rattle.std.specs.Global.{Global}
use Rattle.nano_value.specs.Meaning.{IsImage, Meaning, text}
use Rattle.nano_bin_bytes.specs.Scalars.{EncodesNumber, little_endian}
use Rattle.nano_value.specs.Sets.{ascending_items}
use Rattle.nano_value.specs.Tables.{ascending}
use Rattle.nano_value.specs.Order.{MeaningOrder, by_meaning}
use Rattle.nano_bin_bytes.specs.Codec.{Canonical}

-- items one after the other
abbrev pub EncodesItems : {A : Type 0} → (List ℕ → A → Type 0) → List ℕ → List A → Type 0
EncodesItems S bytes [] = bytes ≡ []
EncodesItems S bytes (x ∷ xs) =
    (head tail : List ℕ) × (bytes ≡ head ++ tail) × S head x × EncodesItems S tail xs

-- so many items
pub record EncodesCount {A : Type 0} (count : ℕ) (S : List ℕ → A → Type 0) (bytes : List ℕ)
    (xs : List A) : Type 0 where
  pub count_is : length xs ≡ count
  pub items : EncodesItems S bytes xs

-- so many bytes
pub record IsChunk (k : ℕ) (bytes chunk : List ℕ) : Type 0 where
  pub same : bytes ≡ chunk
  pub long : length chunk ≡ k

-- UTF-8 of a length
pub record IsTextOf (count : ℕ) (bytes utf8 : List ℕ) : Type 0 where
  pub same : bytes ≡ utf8
  pub count_is : length utf8 ≡ count
  pub is_utf8 : IsUtf8 utf8

-- ==== lists and arrays

-- the count of the items as a `usize`, and the items
pub record EncodesList {A : Type 0} (S : List ℕ → A → Type 0) (bytes : List ℕ)
    (xs : List A) : Type 0 where
  pub head : List ℕ
  pub tail : List ℕ
  pub whole : bytes ≡ head ++ tail
  pub count : EncodesNumber 8 head (length xs)
  pub items : EncodesItems S tail xs

-- a collection: the count of its items and the items, by what they come to
abbrev pub EncodesAll : {A : Type 0} → (List A → Meaning) → (List ℕ → A → Type 0) → List ℕ
    → Meaning → Type 0
EncodesAll whole S bytes = IsImage whole (EncodesList S bytes)

-- the count of the items as a `usize`, and the items
abbrev pub written_list : {A : Type 0} → (A → List ℕ) → List A → List ℕ
written_list W xs = little_endian 8 (length xs) ++ flat_map W xs

-- ==== sets

-- the count of the items as a `usize`, and the items, in order
abbrev pub written_set : {K : Type 0} → (K → K → Ordering) → (K → List ℕ) → List K → List ℕ
written_set R W ks = written_list W (ascending_items R ks)

-- ==== tuples

-- one part after the other
pub record EncodesPair {A B : Type 0} (S : List ℕ → A → Type 0) (R : List ℕ → B → Type 0)
    (bytes : List ℕ) (pair : A × B) : Type 0 where
  pub head : List ℕ
  pub tail : List ℕ
  pub whole : bytes ≡ head ++ tail
  pub first : S head pair.0
  pub second : R tail pair.1

-- one part after the other
abbrev pub written_pair : {A B : Type 0} → (A → List ℕ) → (B → List ℕ) → A × B → List ℕ
written_pair V W p = V p.0 ++ W p.1

-- ==== maps

-- the count of the entries as a `usize`, and the keys with their values, in the order of the keys
abbrev pub written_map : {K V : Type 0} → (K → K → Ordering) → (K → List ℕ) → (V → List ℕ)
    → List (K × V) → List ℕ
written_map R A B es = written_list (written_pair A B) (ascending R es)

-- the same, by an order of what the keys mean
abbrev pub written_entries :
    {K V : Type 0} → MeaningOrder → Canonical K → Canonical V → List (K × V) → List ℕ
written_entries o v w = written_map (by_meaning v.means o) v.written w.written

-- ==== options

-- any byte but 1; or 1 and the item
abbrev pub EncodesOption : {A : Type 0} → (List ℕ → A → Type 0) → List ℕ → Option A → Type 0
EncodesOption S bytes None = (tag : ℕ) × (tag ≢ 1) × EncodesNumber 1 bytes tag
EncodesOption S bytes (Some x) = EncodesPair (EncodesNumber 1) S bytes (1, x)

-- the byte 0; or the byte 1 and the item
abbrev pub written_option : {A : Type 0} → (A → List ℕ) → Option A → List ℕ
written_option W None = little_endian 1 0
written_option W (Some x) = little_endian 1 1 ++ W x

-- ==== texts

-- the length as a `usize`, and so many bytes of UTF-8
pub record EncodesText (bytes utf8 : List ℕ) : Type 0 where
  pub head : List ℕ
  pub whole : bytes ≡ head ++ utf8
  pub count : EncodesNumber 8 head (length utf8)
  pub is_utf8 : IsUtf8 utf8

-- a text, by what it means
abbrev pub EncodesString : List ℕ → Meaning → Type 0
EncodesString bytes = IsImage text (EncodesText bytes)

-- the length as a `usize`, and the bytes
abbrev pub written_text : List ℕ → List ℕ
written_text utf8 = little_endian 8 (length utf8) ++ utf8

abbrev pub written_string : String Global → List ℕ
written_string x = written_text (string_bytes x)
