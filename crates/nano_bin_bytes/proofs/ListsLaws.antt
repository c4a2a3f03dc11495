-- What is proved of Lists.
use Rattle.std.specs.Prelude.{◌≡◌, ℕ, true, false, refl, List, [], ◌∷◌, ◌++◌, map, length}
use Rattle.std.specs.List.{AllByRecursion, flat_map}
use Rattle.std.proofs.Common.{sym, ◌∙◌, subst, ap, arith, take}
use Rattle.std.proofs.lemmas.List.{length-map, take_at}
use Rattle.std.proofs.lemmas.List.Folds.{flat_map-map}
use Rattle.nano_value.specs.Meaning.{listed, IsImage, LegalList, AllOfList, AllOfCount, text}
use Rattle.nano_value.specs.Meaning.{IsText}
use Rattle.nano_meaning.proofs.MeaningLaws.{listed_injective, text_injective}
use Rattle.nano_bin_bytes.specs.Codec.{IsEncoding, Canonical, Codec}
use Rattle.nano_bin_bytes.proofs.CodecLaws.{same_prefixes, same_heads}
use Rattle.nano_bin_bytes.proofs.ScalarsLaws.{number_encoding}
use Rattle.nano_bin_bytes.specs.Scalars.{EncodesNumber, little_endian}
use Rattle.nano_bin_bytes.specs.Containers.{EncodesItems, EncodesCount, EncodesList, EncodesAll}
use Rattle.nano_bin_bytes.specs.Containers.{written_list, EncodesText, EncodesString}
use Rattle.nano_bin_bytes.specs.Containers.{written_text}

module _ {A : Type 0} {P : A → Type 0} {S : List ℕ → A → Type 0} (s : IsEncoding P S) where
  items_are_legal : (a : List ℕ) (xs : List A) → EncodesItems S a xs → AllByRecursion P xs
  items_are_legal a [] h = tt
  items_are_legal a (x ∷ xs) h = (s.is_legal h.0 x h.3, items_are_legal h.1 xs h.4)

  pub items_prefix : (xs ys : List A) (a b m n : List ℕ) → length xs ≡ length ys
      → EncodesItems S a xs → EncodesItems S b ys → a ++ m ≡ b ++ n → a ≡ b
  items_prefix [] [] a b m n l h j e = h ∙ sym j
  items_prefix [] (y ∷ ys) a b m n l h j e = absurd (omega arith)
  items_prefix (x ∷ xs) [] a b m n l h j e = absurd (omega arith)
  items_prefix (x ∷ xs) (y ∷ ys) a b m n l h j e =
      let w = ap (λ l. l ++ m) (sym h.2) ∙ (e ∙ ap (λ l. l ++ n) j.2) in
      let p = same_heads s h.0 j.0 h.1 j.1 m n x y h.3 j.3 w in
      let q = items_prefix xs ys h.1 j.1 m n (omega arith) h.4 j.4 p.1 in
      h.2 ∙ (ap (λ l. l ++ h.1) p.0 ∙ (ap (λ l. j.0 ++ l) q ∙ sym j.2))

  items_value : (xs ys : List A) (a : List ℕ) → length xs ≡ length ys → EncodesItems S a xs
      → EncodesItems S a ys → xs ≡ ys
  items_value [] [] a l h j = refl
  items_value [] (y ∷ ys) a l h j = absurd (omega arith)
  items_value (x ∷ xs) [] a l h j = absurd (omega arith)
  items_value (x ∷ xs) (y ∷ ys) a l h j =
      let e = same_prefixes s h.0 j.0 h.1 j.1 x y h.3 j.3 (sym h.2 ∙ j.2) in
      let one = s.one_value h.0 x y h.3 (subst (λ l. S l y) (sym e.0) j.3) in
      let others = subst (λ l. EncodesItems S l ys) (sym e.1) j.4 in
      let more = items_value xs ys h.1 (omega arith) h.4 others in
      λ i. one i ∷ more i

  pub count_encoding : (count : ℕ) → IsEncoding (AllOfCount count P) (EncodesCount count S)
  count_encoding count = record {
    is_legal = λ a xs h. record { count_is = h.count_is; items = items_are_legal a xs h.items };
    one_value = λ a xs ys h j. items_value xs ys a (h.count_is ∙ sym j.count_is) h.items j.items;
    one_prefix = λ a b m n xs ys h j e.
        items_prefix xs ys a b m n (h.count_is ∙ sym j.count_is) h.items j.items e;
  }

  list_value : (a : List ℕ) (xs ys : List A) → EncodesList S a xs → EncodesList S a ys → xs ≡ ys
  list_value a xs ys h j =
      let number = number_encoding 8 in
      let w = sym h.whole ∙ j.whole in
      let e = same_prefixes number h.head j.head h.tail j.tail _ _ h.count j.count w in
      let other = subst (λ l. EncodesNumber 8 l (length ys)) (sym e.0) j.count in
      let l = number.one_value h.head (length xs) (length ys) h.count other in
      items_value xs ys h.tail l h.items (subst (λ l. EncodesItems S l ys) (sym e.1) j.items)

  list_prefix : (a b m n : List ℕ) (xs ys : List A) → EncodesList S a xs → EncodesList S b ys
      → a ++ m ≡ b ++ n → a ≡ b
  list_prefix a b m n xs ys h j e =
      let number = number_encoding 8 in
      let w = ap (λ l. l ++ m) (sym h.whole) ∙ (e ∙ ap (λ l. l ++ n) j.whole) in
      let p = same_heads number h.head j.head h.tail j.tail m n _ _ h.count j.count w in
      let other = subst (λ l. EncodesNumber 8 l (length ys)) (sym p.0) j.count in
      let l = number.one_value h.head (length xs) (length ys) h.count other in
      let q = items_prefix xs ys h.tail j.tail m n l h.items j.items p.1 in
      h.whole ∙ (ap (λ l. l ++ h.tail) p.0 ∙ (ap (λ l. j.head ++ l) q ∙ sym j.whole))

  pub list_encoding : IsEncoding (AllOfList P) (EncodesList S)
  list_encoding = record {
    is_legal = λ a xs h. record { count = h.count.fits; items = items_are_legal h.tail xs h.items };
    one_value = list_value;
    one_prefix = list_prefix;
  }

-- items that are written alike, one by one, are written alike as lists
pub same_list : {A B : Type 0} (V : A → List ℕ) (W : B → List ℕ) (xs : List A) (ys : List B)
    → map V xs ≡ map W ys → written_list V xs ≡ written_list W ys
same_list V W xs ys e =
    let lengths : length xs ≡ length ys = sym (length-map xs V) ∙ (ap length e ∙ length-map ys W) in
    let joined = ap (flat_map (λ l. l)) e ∙ flat_map-map (λ l. l) W ys in
    let items : flat_map V xs ≡ flat_map W ys = sym (flat_map-map (λ l. l) V xs) ∙ joined in
    λ i. little_endian 8 (lengths i) ++ items i

module _ {A : Type 0} (w : Canonical A) where
  pub items_same : (xs ys : List A) → map w.means xs ≡ map w.means ys
      → (length xs ≡ length ys) × (flat_map w.written xs ≡ flat_map w.written ys)
  items_same [] [] e = (refl, refl)
  items_same [] (y ∷ ys) e = absurd (cc)
  items_same (x ∷ xs) [] e = absurd (cc)
  items_same (x ∷ xs) (y ∷ ys) e =
      let head : w.means x ≡ w.means y = cc in
      let tail : map w.means xs ≡ map w.means ys = cc in
      let rest = items_same xs ys tail in
      (cc, λ i. w.same_written x y head i ++ rest.1 i)

  pub same_items : (xs ys : List A) → listed (map w.means xs) ≡ listed (map w.means ys)
      → flat_map w.written xs ≡ flat_map w.written ys
  same_items xs ys e = (items_same xs ys (listed_injective _ _ e)).1

  pub list_same : (xs ys : List A) → listed (map w.means xs) ≡ listed (map w.means ys)
      → written_list w.written xs ≡ written_list w.written ys
  list_same xs ys e =
      let same = items_same xs ys (listed_injective _ _ e) in
      λ i. little_endian 8 (same.0 i) ++ same.1 i

module _ {A M : Type 0} (means : A → M) (P : M → Type 0) (S : List ℕ → M → Type 0) (W : A → List ℕ)
    (back : (x : A) → P (means x) → S (W x) (means x)) where
  pub items_read_back : (xs : List A) → AllByRecursion P (map means xs)
      → EncodesItems S (flat_map W xs) (map means xs)
  items_read_back [] h = refl
  items_read_back (x ∷ xs) h = (W x, flat_map W xs, refl, back x h.0, items_read_back xs h.1)

  -- items that are legal, after their count
  pub counted_read_back :
      (xs : List A) → AllOfList P (map means xs) → EncodesList S (written_list W xs) (map means xs)
  counted_read_back xs h =
      let long = ap (little_endian 8) (sym (length-map xs means)) in
      record {
        head = little_endian 8 (length xs);
        tail = flat_map W xs;
        whole = refl;
        count = record { fits = h.count; whole = long };
        items = items_read_back xs h.items;
      }

module _ {A : Type 0} (f : Codec A) (is : f.is_decodable ≡ true) where
  -- the canonical encoding of legal items, after their count
  pub list_read_back :
      (xs : List A)
      → AllOfList f.encoding.legal (map f.canonical.means xs)
      → EncodesList f.encoding.encodes (written_list f.canonical.written xs)
      (map f.canonical.means xs)
  list_read_back =
      counted_read_back f.canonical.means f.encoding.legal f.encoding.encodes f.canonical.written
      (f.reads_back is)

  pub list_reads_back :
      (xs : List A)
      → IsImage listed (AllOfList f.encoding.legal) (listed (map f.canonical.means xs))
      → EncodesAll listed f.encoding.encodes (written_list f.canonical.written xs)
      (listed (map f.canonical.means xs))
  list_reads_back xs h =
      let all = subst (AllOfList f.encoding.legal) (sym (listed_injective _ _ h.is)) h.has in
      record { part = map f.canonical.means xs; has = list_read_back xs all; is = refl }

  pub array_reads_back :
      (count : ℕ) (xs : List A)
      → IsImage listed (AllOfCount count f.encoding.legal) (listed (map f.canonical.means xs))
      → IsImage listed (EncodesCount count f.encoding.encodes (flat_map f.canonical.written xs))
      (listed (map f.canonical.means xs))
  array_reads_back count xs h =
      let all = subst (AllOfCount count f.encoding.legal) (sym (listed_injective _ _ h.is)) h.has in
      let w = f.canonical in
      let s = f.encoding in
      let back = f.reads_back is in
      let items = items_read_back w.means s.legal s.encodes w.written back xs all.items in
      record {
        part = map f.canonical.means xs;
        has = record { count_is = all.count_is; items = items };
        is = refl;
      }

-- items without a count are never read
pub unread_items : {A : Type 0} (f : Codec A) (xs : List A) → false ≡ true
    → LegalList f.encoding.legal (listed (map f.canonical.means xs)) → ⊥
unread_items f xs e h = absurd (cc)

-- ==== texts

text_prefix :
    (a b m n t u : List ℕ) → EncodesText a t → EncodesText b u → a ++ m ≡ b ++ n → (a ≡ b) × (t ≡ u)
text_prefix a b m n t u h j e =
    let number = number_encoding 8 in
    let w = ap (λ l. l ++ m) (sym h.whole) ∙ (e ∙ ap (λ l. l ++ n) j.whole) in
    let p = same_heads number h.head j.head t u m n (length t) (length u) h.count j.count w in
    let other = subst (λ l. EncodesNumber 8 l (length u)) (sym p.0) j.count in
    let l = number.one_value h.head (length t) (length u) h.count other in
    let other = ap (take (length t)) p.1 ∙ take_at u n (length t) (sym l) in
    let q : t ≡ u = sym (take_at t m (length t) refl) ∙ other in
    (h.whole ∙ (ap (λ l. l ++ t) p.0 ∙ (ap (λ l. j.head ++ l) q ∙ sym j.whole)), q)

pub text_encoding : IsEncoding IsText EncodesText
text_encoding = record {
  is_legal = λ a t h. record { count = h.count.fits; utf8 = h.is_utf8 };
  one_value = λ a t u h j. (text_prefix a a [] [] t u h j refl).1;
  one_prefix = λ a b m n t u h j e. (text_prefix a b m n t u h j e).0;
}

pub text_same : (xs ys : List ℕ) → text xs ≡ text ys → written_text xs ≡ written_text ys
text_same xs ys e = ap written_text (text_injective xs ys e)

pub text_reads_back : (utf8 : List ℕ) → IsImage text IsText (text utf8)
    → EncodesString (written_text utf8) (text utf8)
text_reads_back utf8 h =
    let is : IsText utf8 = subst IsText (sym (text_injective utf8 h.part h.is)) h.has in
    let n = length utf8 in
    let count : EncodesNumber 8 (little_endian 8 n) n = record { fits = is.count; whole = refl } in
    record {
      part = utf8;
      has = record {
        head = little_endian 8 (length utf8);
        whole = refl;
        count = count;
        is_utf8 = is.utf8;
      };
      is = refl;
    }
