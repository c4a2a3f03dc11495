-- What is proved of Maps.
use Rattle.std.specs.Prelude.{◌≡◌, ℕ, List, [], ◌∷◌, map, refl}
use Rattle.std.specs.List.{AllByRecursion}
use Rattle.std.proofs.Common.{sym, subst, ap}
use Rattle.nano_text.specs.Place.{saturating_next}
use Rattle.nano_value.specs.Tables.{ascending, LegalMap, AllOfTable, table_of, table_means}
use Rattle.nano_value.specs.Tables.{last_values, map_means}
use Rattle.nano_meaning.proofs.AscendingLaws.{ascending_same, all-ascending, table_of-ascending}
use Rattle.nano_value.specs.Meaning.{BothOfPair, AllOfList, Meaning, pair_map}
use Rattle.nano_value.specs.Order.{MeaningOrder, by_meaning}
use Rattle.nano_meaning.proofs.OrderLaws.{by_meaning-orders}
use Rattle.nano_meaning.proofs.TablesLaws.{table_means-injective, all_of_last_values}
use Rattle.nano_grammar.specs.Tokens.{Cutting, IsValueText}
use Rattle.nano_grammar.specs.Codec.{Codec, Grammar, IsEncoding, Encoding, AreBrackets, Canonical}
use Rattle.nano_grammar.specs.Codec.{ListStyle, PairStyle}
use Rattle.nano_grammar.proofs.ItemLaws.{each_is_encoded}
use Rattle.nano_grammar.specs.Items.{ListPunctuation, EncodedPair}
use Rattle.nano_grammar.proofs.LayoutsLaws.{laid_out_written, laid_out_same, laid_out_encoded}
use Rattle.nano_grammar.proofs.ListsLaws.{list_encoding}
use Rattle.nano_grammar.proofs.PairsLaws.{pair_encoding, both_same, both_are_written}
use Rattle.nano_grammar.specs.Maps.{pair_text, pair_tokens, EncodesEntries}
use Rattle.nano_grammar.specs.Maps.{EncodesMap, map_text, map_tokens, entries_of, AllSoundEntries}
use Rattle.nano_grammar.specs.Maps.{SoundEntries}
use Rattle.nano_grammar.proofs.EncodingLaws.{image_encoding}

-- ---- the encoding

module _ {T : Type 0} (g : Grammar T) (punctuation : ListPunctuation T)
    (are : AreBrackets g punctuation) (punctuator : T)
    {P Q : Meaning → Type 0} {S R : List T → Meaning → Type 0} (s : IsEncoding g P S)
    (t : IsEncoding g Q R) where
  pub entry_encoding : IsEncoding g (BothOfPair P Q) (EncodedPair punctuator S R)
  entry_encoding = pair_encoding g punctuator s t

  entries_encoding : IsEncoding g (AllOfList (BothOfPair P Q))
      (EncodesEntries punctuation punctuator S R)
  entries_encoding = list_encoding g entry_encoding punctuation are

  pub map_encoding : IsEncoding g (LegalMap P Q) (EncodesMap punctuation punctuator S R)
  map_encoding =
      let all = image_encoding g map_means entries_encoding in
      record {
        is_legal = λ ts m h.
            let legal = entries_encoding.is_legal ts h.part h.has in
            record {
              part = last_values h.part;
              has = all_of_last_values P Q h.part legal;
              is = h.is;
            };
        one_value = all.one_value;
        none_begins = all.none_begins;
        begins = all.begins;
      }

abbrev pub map_of : {T : Type 0} {g : Grammar T} (punctuation : ListPunctuation T)
    → AreBrackets g punctuation → T → Encoding g → Encoding g → Encoding g
map_of {g = g} punctuation are punctuator s t = record {
  legal = LegalMap s.legal t.legal;
  encodes = EncodesMap punctuation punctuator s.encodes t.encodes;
  laws = map_encoding g punctuation are punctuator s.laws t.laws;
}

-- ---- the canonical text

module _ {T : Type 0} {c : Cutting T} (s : ListStyle c) (p : PairStyle c) {K V : Type 0}
    (o : MeaningOrder) (v : Canonical c K) (w : Canonical c V) where
  pub map_same : (es fs : List (K × V))
      → table_means (table_of v.means w.means es) ≡ table_means (table_of v.means w.means fs)
      → (d : ℕ) → map_text s p o v w d es ≡ map_text s p o v w d fs
  map_same es fs e d =
      let R = by_meaning v.means o in
      let W = pair_text p v w (saturating_next d) in
      let order = by_meaning-orders v.means o in
      let alike = λ (x y : K × V) (k : v.means x.0 ≡ v.means y.0) (l : w.means x.1 ≡ w.means y.1).
      both_same p v w x y k l (saturating_next d) in
      let tables = table_means-injective _ _ e in
      let same = ascending_same R v.means order w.means W alike es fs tables in
      laid_out_same s.ends (s.gaps d) s.punctuation W W (ascending R es) (ascending R fs) same

  abbrev pub map_canonical : Canonical c (List (K × V))
  map_canonical = record {
    means = λ es. table_means (table_of v.means w.means es);
    text = (map_text s p o v w);
    tokens = (map_tokens s p o v w);
    same_text = map_same;
  }

-- ---- the format

module _ {T : Type 0} {c : Cutting T} {g : Grammar T} (s : ListStyle c)
    (are : AreBrackets g s.tokens) (p : PairStyle c) (divides : g.may_begin p.token → ⊥)
    {K V : Type 0} (o : MeaningOrder) (k : Codec c g K) (v : Codec c g V) where
  abbrev means_map : List (K × V) → Meaning
  means_map es = table_means (table_of k.canonical.means v.canonical.means es)

  abbrev means_entry : K × V → Meaning × Meaning
  means_entry = pair_map k.canonical.means v.canonical.means

  -- what holds of all of a table holds of the entries in order
  entries_have : (P Q : Meaning → Type 0) (es : List (K × V))
      → AllOfTable P Q (table_of k.canonical.means v.canonical.means es)
      → AllOfList (BothOfPair P Q) (map means_entry (entries_of s are p divides o k v es))
  entries_have P Q es table =
      let R = by_meaning k.canonical.means o in
      let order = by_meaning-orders k.canonical.means o in
      all-ascending R k.canonical.means order v.canonical.means P Q es table

  entries_legal : (es : List (K × V))
      → LegalMap k.encoding.legal v.encoding.legal (means_map es)
      → AllOfList (BothOfPair k.encoding.legal v.encoding.legal)
      (map means_entry (entries_of s are p divides o k v es))
  entries_legal es legal =
      let P = k.encoding.legal in
      let Q = v.encoding.legal in
      let same = table_means-injective _ _ legal.is in
      entries_have P Q es (subst (AllOfTable P Q) (sym same) legal.has)

  each_entry_is_written : (d : ℕ) (es : List (K × V))
      → AllByRecursion (BothOfPair k.encoding.legal v.encoding.legal) (map means_entry es)
      → AllByRecursion (λ e. IsValueText c (pair_tokens p k.canonical v.canonical e)
      (pair_text p k.canonical v.canonical d e)) es
  each_entry_is_written d [] legal = tt
  each_entry_is_written d (e ∷ es) legal = (
    both_are_written p divides k v e legal.0.0 legal.0.1 d,
    each_entry_is_written d es legal.1,
  )

  pub map_is_written : (es : List (K × V))
      → LegalMap k.encoding.legal v.encoding.legal (means_map es) → (d : ℕ)
      → IsValueText c (map_tokens s p o k.canonical v.canonical es)
      (map_text s p o k.canonical v.canonical d es)
  map_is_written es legal d =
      let all = entries_legal es legal in
      laid_out_written c s.tokens s.punctuation s.punctuation_is s.ends (s.gaps d) (s.gaps_are d)
      (pair_tokens p k.canonical v.canonical)
      (pair_text p k.canonical v.canonical (saturating_next d))
      (entries_of s are p divides o k v es)
      (each_entry_is_written (saturating_next d) (entries_of s are p divides o k v es)
      all.items)

  abbrev EntryEncoded : List T → Meaning × Meaning → Type 0
  EntryEncoded = EncodedPair p.token k.encoding.encodes v.encoding.encodes

  entries_read_back : (es : List (K × V))
      → AllByRecursion (BothOfPair k.encoding.legal v.encoding.legal) (map means_entry es)
      → AllSoundEntries s are p divides o k v es
      → AllByRecursion (λ e. EntryEncoded (pair_tokens p k.canonical v.canonical e) (means_entry e))
      es
  entries_read_back [] legal sound = tt
  entries_read_back (e ∷ es) legal sound =
      let key = k.reads_back e.0 legal.0.0 sound.0.0 in
      let value = v.reads_back e.1 legal.0.1 sound.0.1 in (
        (k.canonical.tokens e.0, v.canonical.tokens e.1, refl, key, value),
        entries_read_back es legal.1 sound.1,
      )

  pub map_reads_back : (es : List (K × V))
      → LegalMap k.encoding.legal v.encoding.legal (means_map es)
      → SoundEntries s are p divides o k v es
      → EncodesMap s.tokens p.token k.encoding.encodes v.encoding.encodes
      (map_tokens s p o k.canonical v.canonical es) (means_map es)
  map_reads_back es legal sound =
      let R = by_meaning k.canonical.means o in
      let order = by_meaning-orders k.canonical.means o in
      let all = entries_legal es legal in
      let each = entries_read_back (entries_of s are p divides o k v es) all.items sound in
      let same = table_of-ascending R k.canonical.means order v.canonical.means es in
      record {
        part = map means_entry (entries_of s are p divides o k v es);
        has = record {
          count = all.count;
          items = laid_out_encoded s.ends s.tokens EntryEncoded
              (pair_tokens p k.canonical v.canonical)
              means_entry (entries_of s are p divides o k v es) each;
        };
        is = ap table_means (sym same);
      }

  -- what some tokens encode
  abbrev KeyEncoded : Meaning → Type 0
  KeyEncoded m = (ts : List T) × k.encoding.encodes ts m

  abbrev ValueEncoded : Meaning → Type 0
  ValueEncoded m = (ts : List T) × v.encoding.encodes ts m

  both_encoded : (pairs : List (Meaning × Meaning))
      → AllByRecursion (λ e. (ts : List T) × EntryEncoded ts e) pairs
      → AllByRecursion (BothOfPair KeyEncoded ValueEncoded) pairs
  both_encoded [] h = tt
  both_encoded (e ∷ es) h = (((h.0.1.0, h.0.1.3), (h.0.1.1, h.0.1.4)), both_encoded es h.1)

  entries_sound : (es : List (K × V))
      → AllByRecursion (BothOfPair KeyEncoded ValueEncoded) (map means_entry es)
      → AllSoundEntries s are p divides o k v es
  entries_sound [] h = tt
  entries_sound (e ∷ es) h =
      let key = k.encoded_is_sound e.0 h.0.0.0 h.0.0.1 in
      let value = v.encoded_is_sound e.1 h.0.1.0 h.0.1.1 in
      ((key, value), entries_sound es h.1)

  pub map_is_sound : (es : List (K × V)) (ts : List T)
      → EncodesMap s.tokens p.token k.encoding.encodes v.encoding.encodes ts (means_map es)
      → SoundEntries s are p divides o k v es
  map_is_sound es ts h =
      let encodes = each_is_encoded s.tokens EntryEncoded h.part ts h.has.items in
      let each = both_encoded h.part encodes in
      let list : AllOfList (BothOfPair KeyEncoded ValueEncoded) h.part = record {
        count = h.has.count;
        items = each;
      } in
      let all = all_of_last_values KeyEncoded ValueEncoded h.part list in
      let same = table_means-injective _ _ h.is in
      let table = subst (AllOfTable KeyEncoded ValueEncoded) (sym same) all in
      entries_sound (entries_of s are p divides o k v es)
      (entries_have KeyEncoded ValueEncoded es table).items

  abbrev pub map_codec : Codec c g (List (K × V))
  map_codec = record {
    canonical = map_canonical s p o k.canonical v.canonical;
    encoding = map_of s.tokens are p.token k.encoding v.encoding;
    is_written = map_is_written;
    sound = (SoundEntries s are p divides o k v);
    reads_back = map_reads_back;
    encoded_is_sound = map_is_sound;
    null_alone = λ es ts e h. absurd (are.some e);
  }
