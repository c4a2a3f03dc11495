-- What is proved of Lists.
use Rattle.std.specs.Prelude.{◌≡◌, ℕ, List, [], ◌∷◌, map, refl}
use Rattle.std.specs.List.{AllByRecursion}
use Rattle.std.proofs.Common.{sym, subst, inl, inr}
use Rattle.nano_text.specs.Place.{saturating_next}
use Rattle.nano_value.specs.Meaning.{AllOfList, AllOfCount, Meaning, listed}
use Rattle.nano_meaning.proofs.MeaningLaws.{listed_injective}
use Rattle.nano_grammar.specs.Tokens.{Cutting, IsValueText, NoneBeginsAnother}
use Rattle.nano_grammar.specs.Codec.{Codec, Grammar, BeginsValue, IsEncoding, Encoding, AreBrackets}
use Rattle.nano_grammar.specs.Codec.{Canonical, ListStyle}
use Rattle.nano_grammar.proofs.ItemLaws.{list_one_value, list_none_begins, each_is_encoded}
use Rattle.nano_grammar.proofs.ItemLaws.{NeverStartsWith, apart_in_list}
use Rattle.nano_grammar.specs.Items.{ListPunctuation, EncodedItems, EncodedList, OneValue}
use Rattle.nano_grammar.specs.Items.{ApartInList}
use Rattle.nano_grammar.proofs.LayoutsLaws.{laid_out_written, laid_out_same, laid_out_encoded}
use Rattle.nano_grammar.proofs.EncodingLaws.{begins_otherwise, encoding_of}
use Rattle.nano_grammar.specs.Lists.{EncodesList, EncodesCount, list_text, list_tokens, AllSound}

-- ---- items

-- how the items of a list are encoded: one encoding encodes one item and begins as a value does, and
-- another that it begins goes on with neither the comma nor the closing bracket
pub record IsItem {T : Type 0} (g : Grammar T) (punctuation : ListPunctuation T) {A : Type 0}
    (encodes : List T → A → Type 0) : Type 0 where
  pub one_value : OneValue encodes
  pub in_list : ApartInList punctuation encodes
  pub begins : (ts : List T) (x : A) → encodes ts x → BeginsValue g ts

-- values are items of any list
pub as_item : {T : Type 0} {g : Grammar T} {A : Type 0} {P : A → Type 0} {S : List T → A → Type 0}
    → IsEncoding g P S → (punctuation : ListPunctuation T) → IsItem g punctuation S
as_item {S = S} s punctuation = record {
  one_value = s.one_value;
  in_list = apart_in_list punctuation S s.none_begins;
  begins = s.begins;
}

module _ {T : Type 0} (g : Grammar T) {A : Type 0} {S : List T → A → Type 0}
    (punctuation : ListPunctuation T) (are : AreBrackets g punctuation)
    (s : IsItem g punctuation S) where
  -- no item begins with a closing bracket
  pub no_item_closes : NeverStartsWith punctuation.closing S
  no_item_closes ts x h = begins_otherwise g punctuation.closing are.closes ts (s.begins ts x h)

  pub between_one : OneValue (EncodedList punctuation S)
  between_one = list_one_value punctuation are.apart S s.one_value s.in_list no_item_closes

  pub between_apart : NoneBeginsAnother (EncodedList punctuation S)
  between_apart = list_none_begins punctuation are.apart S s.one_value s.in_list no_item_closes

  pub list_begins : (ts : List T) (xs : List A) → EncodedList punctuation S ts xs → BeginsValue g ts
  list_begins ts xs h = subst (BeginsValue g) (sym h.1) are.opens

-- ---- the encoding

module _ {T : Type 0} (g : Grammar T) {A : Type 0} {P : A → Type 0} {S : List T → A → Type 0}
    (s : IsEncoding g P S) (punctuation : ListPunctuation T) (are : AreBrackets g punctuation) where
  pub items_are_legal : (xs : List A) (ts : List T) → EncodedItems punctuation S ts xs
      → AllByRecursion P xs
  items_are_legal [] ts h = tt
  items_are_legal (x ∷ xs) ts h = (
    s.is_legal h.0 x h.3,
    elim h.4 [
      | inl r ↦ subst (AllByRecursion P) (sym r.1) tt
      | inr r ↦ items_are_legal xs r.0 r.2
    ],
  )

  its_items : IsItem g punctuation S
  its_items = as_item s punctuation

  pub list_encoding : IsEncoding g (AllOfList P) (EncodesList punctuation S)
  list_encoding = record {
    is_legal = λ ts xs h. record {
      count = h.count;
      items = items_are_legal xs h.items.0 h.items.2;
    };
    one_value = λ ts xs ys h k. between_one g punctuation are its_items ts xs ys h.items k.items;
    none_begins = λ ts more xs ys h k. between_apart g punctuation are its_items ts more xs ys h.items k.items;
    begins = λ ts xs h. list_begins g punctuation are its_items ts xs h.items;
  }

  pub count_encoding : (count : ℕ)
      → IsEncoding g (AllOfCount count P) (EncodesCount punctuation count S)
  count_encoding count = record {
    is_legal = λ ts xs h. record {
      count_is = h.count_is;
      items = items_are_legal xs h.items.0 h.items.2;
    };
    one_value = λ ts xs ys h k. between_one g punctuation are its_items ts xs ys h.items k.items;
    none_begins = λ ts more xs ys h k. between_apart g punctuation are its_items ts more xs ys h.items k.items;
    begins = λ ts xs h. list_begins g punctuation are its_items ts xs h.items;
  }

abbrev pub list_of : {T : Type 0} {g : Grammar T} (punctuation : ListPunctuation T)
    → AreBrackets g punctuation → Encoding g → Encoding g
list_of {g = g} punctuation are s =
    encoding_of listed (AllOfList s.legal) (EncodesList punctuation s.encodes)
    (list_encoding g s.laws punctuation are)

-- so many items
abbrev pub array_of : {T : Type 0} {g : Grammar T} (punctuation : ListPunctuation T)
    → AreBrackets g punctuation → ℕ → Encoding g → Encoding g
array_of {g = g} punctuation are count s =
    encoding_of listed (AllOfCount count s.legal) (EncodesCount punctuation count s.encodes)
    (count_encoding g s.laws punctuation are count)

-- ---- the canonical text

module _ {T : Type 0} {c : Cutting T} (s : ListStyle c) {A : Type 0} (w : Canonical c A) where
  pub same_each : (d : ℕ) (xs ys : List A) → map w.means xs ≡ map w.means ys
      → map (w.text d) xs ≡ map (w.text d) ys
  same_each d [] [] e = refl
  same_each d [] (y ∷ ys) e = absurd (cc)
  same_each d (x ∷ xs) [] e = absurd (cc)
  same_each d (x ∷ xs) (y ∷ ys) e =
      let head : w.means x ≡ w.means y = cc in
      let tail : map w.means xs ≡ map w.means ys = cc in
      λ i. w.same_text x y head d i ∷ same_each d xs ys tail i

  pub list_same : (xs ys : List A) → listed (map w.means xs) ≡ listed (map w.means ys) → (d : ℕ)
      → list_text s d (w.text (saturating_next d)) xs
      ≡ list_text s d (w.text (saturating_next d)) ys
  list_same xs ys e d =
      laid_out_same s.ends (s.gaps d) s.punctuation (w.text (saturating_next d))
      (w.text (saturating_next d)) xs ys
      (same_each (saturating_next d) xs ys (listed_injective _ _ e))

  -- of lists and of arrays
  abbrev pub list_canonical : Canonical c (List A)
  list_canonical = record {
    means = λ xs. listed (map w.means xs);
    text = λ d. list_text s d (w.text (saturating_next d));
    tokens = list_tokens s w.tokens;
    same_text = list_same;
  }

-- ---- the format

module _ {T : Type 0} {c : Cutting T} {g : Grammar T} (s : ListStyle c)
    (are : AreBrackets g s.tokens) {A : Type 0} (f : Codec c g A) where
  each_is_written : (d : ℕ) (xs : List A)
      → AllByRecursion f.encoding.legal (map f.canonical.means xs)
      → AllByRecursion (λ x. IsValueText c (f.canonical.tokens x) (f.canonical.text d x)) xs
  each_is_written d [] h = tt
  each_is_written d (x ∷ xs) h = (f.is_written x h.0 d, each_is_written d xs h.1)

  pub items_are_written : (xs : List A) → AllByRecursion f.encoding.legal (map f.canonical.means xs)
      → (d : ℕ) → IsValueText c (list_tokens s f.canonical.tokens xs)
      (list_text s d (f.canonical.text (saturating_next d)) xs)
  items_are_written xs h d =
      laid_out_written c s.tokens s.punctuation s.punctuation_is s.ends (s.gaps d) (s.gaps_are d)
      f.canonical.tokens (f.canonical.text (saturating_next d)) xs
      (each_is_written (saturating_next d) xs h)

  each_reads_back : (xs : List A) → AllByRecursion f.encoding.legal (map f.canonical.means xs)
      → AllSound s are f xs
      → AllByRecursion (λ x. f.encoding.encodes (f.canonical.tokens x) (f.canonical.means x)) xs
  each_reads_back [] h k = tt
  each_reads_back (x ∷ xs) h k = (f.reads_back x h.0 k.0, each_reads_back xs h.1 k.1)

  -- the tokens of the items, between brackets
  pub items_read_back : (xs : List A) → AllByRecursion f.encoding.legal (map f.canonical.means xs)
      → AllSound s are f xs
      → EncodedList s.tokens f.encoding.encodes (list_tokens s f.canonical.tokens xs)
      (map f.canonical.means xs)
  items_read_back xs h k =
      laid_out_encoded s.ends s.tokens f.encoding.encodes f.canonical.tokens f.canonical.means xs
      (each_reads_back xs h k)

  pub each_is_sound : (xs : List A)
      → AllByRecursion (λ m. (ts : List T) × f.encoding.encodes ts m) (map f.canonical.means xs)
      → AllSound s are f xs
  each_is_sound [] h = tt
  each_is_sound (x ∷ xs) h = (f.encoded_is_sound x h.0.0 h.0.1, each_is_sound xs h.1)

  pub items_are_sound : (xs : List A) (ts : List T) (ms : List Meaning)
      → EncodedList s.tokens f.encoding.encodes ts ms → ms ≡ map f.canonical.means xs
      → AllSound s are f xs
  items_are_sound xs ts ms h e =
      each_is_sound xs
      (subst (AllByRecursion (λ m. (ts : List T) × f.encoding.encodes ts m)) e
      (each_is_encoded s.tokens f.encoding.encodes ms ts h))

  -- what a list means is legal if its items are
  pub list_legal : (xs : List A)
      → (list_of s.tokens are f.encoding).legal (listed (map f.canonical.means xs))
      → AllOfList f.encoding.legal (map f.canonical.means xs)
  list_legal xs h = subst (AllOfList f.encoding.legal) (sym (listed_injective _ _ h.is)) h.has

  pub list_reads_back : (xs : List A)
      → (list_of s.tokens are f.encoding).legal (listed (map f.canonical.means xs))
      → AllSound s are f xs
      → (list_of s.tokens are f.encoding).encodes (list_tokens s f.canonical.tokens xs)
      (listed (map f.canonical.means xs))
  list_reads_back xs h k =
      let all = list_legal xs h in
      record {
        part = map f.canonical.means xs;
        has = record { count = all.count; items = items_read_back xs all.items k };
        is = refl;
      }

  abbrev pub list_codec : Codec c g (List A)
  list_codec = record {
    canonical = list_canonical s f.canonical;
    encoding = list_of s.tokens are f.encoding;
    is_written = λ xs h. items_are_written xs (list_legal xs h).items;
    sound = (AllSound s are f);
    reads_back = list_reads_back;
    encoded_is_sound = λ xs ts h.
        items_are_sound xs ts h.part h.has.items (sym (listed_injective _ _ h.is));
    null_alone = λ xs ts e h. absurd (are.some e);
  }

  module _ (count : ℕ) where
    pub array_legal : (xs : List A)
        → (array_of s.tokens are count f.encoding).legal (listed (map f.canonical.means xs))
        → AllOfCount count f.encoding.legal (map f.canonical.means xs)
    array_legal xs h =
        subst (AllOfCount count f.encoding.legal) (sym (listed_injective _ _ h.is)) h.has

    pub array_reads_back : (xs : List A)
        → (array_of s.tokens are count f.encoding).legal (listed (map f.canonical.means xs))
        → AllSound s are f xs
        → (array_of s.tokens are count f.encoding).encodes (list_tokens s f.canonical.tokens xs)
        (listed (map f.canonical.means xs))
    array_reads_back xs h k =
        let all = array_legal xs h in
        record {
          part = map f.canonical.means xs;
          has = record { count_is = all.count_is; items = items_read_back xs all.items k };
          is = refl;
        }

    -- so many items
    abbrev pub array_codec : Codec c g (List A)
    array_codec = record {
      canonical = list_canonical s f.canonical;
      encoding = array_of s.tokens are count f.encoding;
      is_written = λ xs h. items_are_written xs (array_legal xs h).items;
      sound = (AllSound s are f);
      reads_back = array_reads_back;
      encoded_is_sound = λ xs ts h.
          items_are_sound xs ts h.part h.has.items (sym (listed_injective _ _ h.is));
      null_alone = λ xs ts e h. absurd (are.some e);
    }
