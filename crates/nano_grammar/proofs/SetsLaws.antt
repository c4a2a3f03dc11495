-- What is proved of Sets.
use Rattle.std.specs.Prelude.{◌≡◌, ◌<◌, ℕ, Bool, true, false, cond, List, map}
use Rattle.std.specs.declared.cmp.Ordering.{Ordering}
use Rattle.std.specs.FinMap.Entries.{is_sorted}
use Rattle.std.proofs.Common.{sym, subst, ap}
use Rattle.std.proofs.lemmas.List.{length-map}
use Rattle.nano_text.specs.Place.{saturating_next}
use Rattle.nano_value.specs.Sets.{ascending_items, LegalSet, AllOfSet, marked, item_set, set_means}
use Rattle.nano_value.specs.Sets.{items_mean}
use Rattle.nano_value.specs.Meaning.{BothOfPair, AllOfList, Meaning, usize_bound}
use Rattle.nano_value.specs.Order.{MeaningOrder, by_meaning}
use Rattle.nano_meaning.proofs.OrderLaws.{by_meaning-orders}
use Rattle.nano_value.specs.Ordered.{ordered_means, unordered}
use Rattle.nano_meaning.proofs.OrderedSetsLaws.{no_list_is_unordered, ordered_means-sets}
use Rattle.nano_meaning.proofs.SetsLaws.{same_items, all_items, item_set-ascending}
use Rattle.nano_meaning.proofs.SetsLaws.{set_means-injective, all-marked}
use Rattle.nano_value.specs.Tables.{last_values}
use Rattle.nano_meaning.proofs.TablesLaws.{all_of_last_values}
use Rattle.nano_grammar.specs.Tokens.{Cutting, IsValueText}
use Rattle.nano_grammar.specs.Codec.{Codec, Grammar, IsEncoding, Encoding, AreBrackets, Canonical}
use Rattle.nano_grammar.specs.Codec.{ListStyle}
use Rattle.nano_grammar.proofs.ItemLaws.{each_is_encoded}
use Rattle.nano_grammar.specs.Items.{ListPunctuation}
use Rattle.nano_grammar.proofs.LayoutsLaws.{laid_out_same}
use Rattle.nano_grammar.proofs.ListsLaws.{list_encoding, items_are_written, items_read_back}
use Rattle.nano_grammar.proofs.ListsLaws.{each_is_sound}
use Rattle.nano_grammar.proofs.EncodingLaws.{image_encoding}
use Rattle.nano_grammar.specs.Lists.{EncodesSet, set_text, set_tokens, items_of, SoundSet}

-- ---- the encoding

-- what holds of each of a list of items holds of all of their set
all_of_items : (P : Meaning → Type 0) (ms : List Meaning) → AllOfList P ms
    → AllOfSet P (last_values (marked ms))
all_of_items P ms list =
    let same = sym (length-map ms (λ x. (x, tt))) in
    let punctuation : AllOfList (BothOfPair P (λ _. Unit {0})) (marked ms) = record {
      count = subst (λ (n : ℕ). n < usize_bound) same list.count;
      items = all-marked P ms list.items;
    } in
    all_of_last_values P (λ _. Unit {0}) (marked ms) punctuation

pub set_encoding : {T : Type 0} (g : Grammar T) (punctuation : ListPunctuation T)
    (are : AreBrackets g punctuation)
    {P : Meaning → Type 0} {S : List T → Meaning → Type 0} → IsEncoding g P S
    → IsEncoding g (LegalSet P) (EncodesSet punctuation S)
set_encoding g punctuation are {P = P} s =
    let items = list_encoding g s punctuation are in
    let all = image_encoding g items_mean items in
    record {
      is_legal = λ ts m h. record {
        part = last_values (marked h.part);
        has = all_of_items P h.part (items.is_legal ts h.part h.has);
        is = h.is;
      };
      one_value = all.one_value;
      none_begins = all.none_begins;
      begins = all.begins;
    }

abbrev pub set_of : {T : Type 0} {g : Grammar T} (punctuation : ListPunctuation T)
    → AreBrackets g punctuation → Encoding g → Encoding g
set_of {g = g} punctuation are s = record {
  legal = LegalSet s.legal;
  encodes = EncodesSet punctuation s.encodes;
  laws = set_encoding g punctuation are s.laws;
}

-- ---- the canonical text

module _ {T : Type 0} {c : Cutting T} (s : ListStyle c) {K : Type 0} (o : MeaningOrder)
    (w : Canonical c K) where
  same_set_text : (xs ys : List K) → item_set w.means xs ≡ item_set w.means ys → (d : ℕ)
      → set_text s o w d xs ≡ set_text s o w d ys
  same_set_text xs ys e d =
      let R = by_meaning w.means o in
      let W = w.text (saturating_next d) in
      let order = by_meaning-orders w.means o in
      let same = same_items R w.means order W (λ x y k. w.same_text x y k (saturating_next d)) xs ys
      e in
      laid_out_same s.ends (s.gaps d) s.punctuation W W (ascending_items R xs)
      (ascending_items R ys) same

  pub set_same : (xs ys : List K)
      → set_means (item_set w.means xs) ≡ set_means (item_set w.means ys) → (d : ℕ)
      → set_text s o w d xs ≡ set_text s o w d ys
  set_same xs ys e = same_set_text xs ys (set_means-injective _ _ e)

  pub ordered_same : (R : K → K → Ordering) (xs ys : List K)
      → ordered_means R w.means xs ≡ ordered_means R w.means ys → (d : ℕ)
      → set_text s o w d xs ≡ set_text s o w d ys
  ordered_same R xs ys e = same_set_text xs ys (ordered_means-sets R w.means xs ys e)

  -- of hashed sets
  abbrev pub set_canonical : Canonical c (List K)
  set_canonical = record {
    means = λ ks. set_means (item_set w.means ks);
    text = (set_text s o w);
    tokens = (set_tokens s o w);
    same_text = set_same;
  }

  -- of sets that hold their items in an order R
  abbrev pub ordered_canonical : (K → K → Ordering) → Canonical c (List K)
  ordered_canonical R = record {
    means = ordered_means R w.means;
    text = (set_text s o w);
    tokens = (set_tokens s o w);
    same_text = ordered_same R;
  }

-- ---- the format

module _ {T : Type 0} {c : Cutting T} {g : Grammar T} (s : ListStyle c)
    (are : AreBrackets g s.tokens) {K : Type 0} (o : MeaningOrder) (f : Codec c g K) where
  abbrev means_set : List K → Meaning
  means_set ks = set_means (item_set f.canonical.means ks)

  -- what holds of all of a set holds of the items in order
  items_have : (P : Meaning → Type 0) (ks : List K) → AllOfSet P (item_set f.canonical.means ks)
      → AllOfList P (map f.canonical.means (items_of s are o f ks))
  items_have P ks set =
      let R = by_meaning f.canonical.means o in
      all_items R f.canonical.means (by_meaning-orders f.canonical.means o) P ks set

  items_legal : (ks : List K) → LegalSet f.encoding.legal (means_set ks)
      → AllOfList f.encoding.legal (map f.canonical.means (items_of s are o f ks))
  items_legal ks legal =
      let P = f.encoding.legal in
      items_have P ks (subst (AllOfSet P) (sym (set_means-injective _ _ legal.is)) legal.has)

  pub set_is_written : (ks : List K) → LegalSet f.encoding.legal (means_set ks) → (d : ℕ)
      → IsValueText c (set_tokens s o f.canonical ks) (set_text s o f.canonical d ks)
  set_is_written ks legal = items_are_written s are f (items_of s are o f ks)
      (items_legal ks legal).items

  pub set_reads_back : (ks : List K) → LegalSet f.encoding.legal (means_set ks)
      → SoundSet s are o f ks
      → EncodesSet s.tokens f.encoding.encodes (set_tokens s o f.canonical ks) (means_set ks)
  set_reads_back ks legal sound =
      let R = by_meaning f.canonical.means o in
      let all = items_legal ks legal in
      let order = by_meaning-orders f.canonical.means o in
      record {
        part = map f.canonical.means (items_of s are o f ks);
        has = record {
          count = all.count;
          items = items_read_back s are f (items_of s are o f ks) all.items sound;
        };
        is = ap set_means (sym (item_set-ascending R f.canonical.means order ks));
      }

  abbrev ItemEncoded : Meaning → Type 0
  ItemEncoded m = (ts : List T) × f.encoding.encodes ts m

  pub set_is_sound : (ks : List K) (ts : List T)
      → EncodesSet s.tokens f.encoding.encodes ts (means_set ks) → SoundSet s are o f ks
  set_is_sound ks ts h =
      let each = each_is_encoded s.tokens f.encoding.encodes h.part ts h.has.items in
      let all = all_of_items ItemEncoded h.part (record { count = h.has.count; items = each }) in
      let same = set_means-injective _ _ h.is in
      let set = subst (AllOfSet ItemEncoded) (sym same) all in
      each_is_sound s are f (items_of s are o f ks) (items_have ItemEncoded ks set).items

  -- of hashed sets
  abbrev pub set_codec : Codec c g (List K)
  set_codec = record {
    canonical = set_canonical s o f.canonical;
    encoding = set_of s.tokens are f.encoding;
    is_written = set_is_written;
    sound = (SoundSet s are o f);
    reads_back = set_reads_back;
    encoded_is_sound = set_is_sound;
    null_alone = λ ks ts e h. absurd (are.some e);
  }

  module _ (R : K → K → Ordering) where
    -- what items mean that were found to stand in the order R, or not
    abbrev found : List K → Bool → Meaning
    found ks b = cond b (means_set ks) (unordered (map f.canonical.means ks))

    abbrev Legal : Meaning → Type 0
    Legal = LegalSet f.encoding.legal

    abbrev Encoded : List T → Meaning → Type 0
    Encoded = EncodesSet s.tokens f.encoding.encodes

    -- items that are not in order are legal for nothing, and encoded by nothing
    none_legal : {X : Type 0} (ks : List K) → Legal (found ks false) → X
    none_legal ks h = no_list_is_unordered _ (map f.canonical.means ks) (sym h.is)

    none_encoded : {X : Type 0} (ks : List K) (ts : List T) → Encoded ts (found ks false) → X
    none_encoded ks ts h = no_list_is_unordered _ (map f.canonical.means ks) (sym h.is)

    pub ordered_is_written : (ks : List K) → Legal (ordered_means R f.canonical.means ks) → (d : ℕ)
        → IsValueText c (set_tokens s o f.canonical ks) (set_text s o f.canonical d ks)
    ordered_is_written ks legal d =
        elim (is_sorted R (marked ks)) as (λ b. Legal (found ks b)
        → IsValueText c (set_tokens s o f.canonical ks) (set_text s o f.canonical d ks)) [
          | true ↦ λ h. set_is_written ks h d
          | false ↦ none_legal ks
        ] legal

    pub ordered_reads_back : (ks : List K) → Legal (ordered_means R f.canonical.means ks)
        → SoundSet s are o f ks
        → Encoded (set_tokens s o f.canonical ks) (ordered_means R f.canonical.means ks)
    ordered_reads_back ks legal sound =
        elim (is_sorted R (marked ks)) as (λ b. Legal (found ks b)
        → Encoded (set_tokens s o f.canonical ks) (found ks b)) [
          | true ↦ λ h. set_reads_back ks h sound
          | false ↦ none_legal ks
        ] legal

    pub ordered_is_sound : (ks : List K) (ts : List T)
        → Encoded ts (ordered_means R f.canonical.means ks) → SoundSet s are o f ks
    ordered_is_sound ks ts =
        elim (is_sorted R (marked ks)) as (λ b. Encoded ts (found ks b) → SoundSet s are o f ks) [
          | true ↦ set_is_sound ks ts
          | false ↦ none_encoded ks ts
        ]

    -- of sets that hold their items in an order R
    abbrev pub ordered_codec : Codec c g (List K)
    ordered_codec = record {
      canonical = ordered_canonical s o f.canonical R;
      encoding = set_of s.tokens are f.encoding;
      is_written = ordered_is_written;
      sound = (SoundSet s are o f);
      reads_back = ordered_reads_back;
      encoded_is_sound = ordered_is_sound;
      null_alone = λ ks ts e h. absurd (are.some e);
    }
