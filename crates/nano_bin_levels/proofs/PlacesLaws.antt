-- What is proved of Places.
use Rattle.std.specs.Prelude.{◌≡◌, ◌<◌, ◌^◌, ℕ, List, ◌++◌, refl, true}
use Rattle.std.proofs.Common.{sym, ◌∙◌, subst, ap, arith}
use Rattle.nano_value.specs.Meaning.{Meaning}
use Rattle.nano_value.specs.Sums.{tagged}
use Rattle.nano_meaning.proofs.MeaningLaws.{whole_injective, both_injective}
use Rattle.nano_bin_bytes.specs.Codec.{Codec, Encoding, IsEncoding}
use Rattle.nano_bin_bytes.specs.BaseCodecs.{no_encoding}
use Rattle.nano_bin_bytes.specs.Scalars.{EncodesNumber, little_endian}
use Rattle.nano_bin_bytes.proofs.CodecLaws.{same_prefixes, same_heads}
use Rattle.nano_bin_bytes.proofs.ScalarsLaws.{number_encoding}
use Rattle.nano_bin_levels.specs.Layers.{Layer}
use Rattle.nano_bin_levels.specs.Places.{EncodesAfter, LegalPlace, EncodesPlace, BeginsAt}
use Rattle.nano_bin_levels.specs.Places.{AreTagged, codecs_at}

-- ---- content after a tag

module _ (tag : ℕ) (s : Encoding) where
  after_value : (a : List ℕ) (x y : Meaning) → EncodesAfter tag s.encodes a x
      → EncodesAfter tag s.encodes a y → x ≡ y
  after_value a x y h j =
      let w = sym h.whole ∙ j.whole in
      let e = same_prefixes (number_encoding 2) h.head j.head h.tail j.tail tag tag h.tagged
      j.tagged w in
      s.laws.one_value h.tail x y h.content (subst (λ l. s.encodes l y) (sym e.1) j.content)

  after_prefix : (a b m n : List ℕ) (x y : Meaning) → EncodesAfter tag s.encodes a x
      → EncodesAfter tag s.encodes b y → a ++ m ≡ b ++ n → a ≡ b
  after_prefix a b m n x y h j e =
      let w = ap (λ l. l ++ m) (sym h.whole) ∙ (e ∙ ap (λ l. l ++ n) j.whole) in
      let p = same_heads (number_encoding 2) h.head j.head h.tail j.tail m n tag tag h.tagged
      j.tagged w in
      let q = s.laws.one_prefix h.tail j.tail m n x y h.content j.content p.1 in
      h.whole ∙ (ap (λ l. l ++ h.tail) p.0 ∙ (ap (λ l. j.head ++ l) q ∙ sym j.whole))

  pub after_laws : IsEncoding s.legal (EncodesAfter tag s.encodes)
  after_laws = record {
    is_legal = λ a m h. s.laws.is_legal h.tail m h.content;
    one_value = after_value;
    one_prefix = after_prefix;
  }

  abbrev pub after_of : Encoding
  after_of = record { legal = s.legal; encodes = EncodesAfter tag s.encodes; laws = after_laws }

module _ (tag : ℕ) (small : tag < 65536) where
  pub after_reads_back : {A : Type 0} (f : Codec A) → f.is_decodable ≡ true → (x : A)
      → f.encoding.legal (f.canonical.means x)
      → EncodesAfter tag f.encoding.encodes (little_endian 2 tag ++ f.canonical.written x)
      (f.canonical.means x)
  after_reads_back f is x h =
      let fits : tag < 256 ^ 2 = omega (arith, small) in
      record {
        head = little_endian 2 tag;
        tail = f.canonical.written x;
        whole = refl;
        tagged = record { fits = fits; whole = refl };
        content = f.reads_back is x h;
      }

  -- the two bytes of a tag before each encoding
  abbrev pub after_codec : {A : Type 0} → Codec A → Codec A
  after_codec f = record {
    canonical = record {
      means = f.canonical.means;
      written = λ x. little_endian 2 tag ++ f.canonical.written x;
      same_written = λ x y e. ap (λ l. little_endian 2 tag ++ l) (f.canonical.same_written x y e);
    };
    encoding = after_of tag f.encoding;
    is_decodable = f.is_decodable;
    reads_back = after_reads_back f;
  }

  abbrev pub after_layer : {A B : Type 0} → Layer A B → Layer A B
  after_layer p = record {
    codec = λ f. after_codec (p.codec f);
    All = p.All;
    means = p.means;
    deep = p.deep;
    weaker = p.weaker;
    less = p.less;
    means_is = p.means_is;
    means_same = p.means_same;
    written_same = λ f h x e. ap (λ l. little_endian 2 tag ++ l) (p.written_same f h x e);
    legal_same = p.legal_same;
    rises = λ f h w bytes m e. record {
      head = e.head;
      tail = e.tail;
      whole = e.whole;
      tagged = e.tagged;
      content = p.rises f h w e.tail m e.content;
    };
    gathers = λ c rises h reached bytes m e.
        let found = p.gathers c rises h reached e.tail m e.content in (
          found.0,
          record {
            head = e.head;
            tail = e.tail;
            whole = e.whole;
            tagged = e.tagged;
            content = found.1;
          },
        );
    reads = p.reads;
    is_read = p.is_read;
  }

-- ---- the content of a place that no alternative has

abbrev pub no_content : Codec ⊥
no_content = record {
  canonical = record {
    means = λ x. absurd x;
    written = λ x. absurd x;
    same_written = λ x y e. absurd x;
  };
  encoding = no_encoding (λ _. ⊥);
  is_decodable = true;
  reads_back = λ is x h. absurd x;
}

-- ---- alternatives

-- where two equal lists begin with tags, these say the same place
pub same_place : (place_of : ℕ → ℕ) (j k : ℕ) (a b m n : List ℕ) → BeginsAt place_of j a
    → BeginsAt place_of k b → a ++ m ≡ b ++ n → j ≡ k
same_place place_of j k a b m n h i e =
    let w = ap (λ l. l ++ m) (sym h.whole) ∙ (e ∙ ap (λ l. l ++ n) i.whole) in
    let p = same_heads (number_encoding 2) h.head i.head h.tail i.tail m n h.tag i.tag h.tagged
    i.tagged w in
    let other = subst (λ l. EncodesNumber 2 l i.tag) (sym p.0) i.tagged in
    let tags = (number_encoding 2).one_value h.head h.tag i.tag h.tagged other in
    sym h.is ∙ (ap place_of tags ∙ i.is)

module _ {Fields : ℕ → Type 0} (codecs : (place : ℕ) → Codec (Fields place)) (place_of : ℕ → ℕ)
    (are : AreTagged place_of codecs) where
  -- what is encoded at the place of another encoding
  moved : (a b m n : List ℕ) (x y : Meaning) (h : EncodesPlace codecs a x)
      (j : EncodesPlace codecs b y) → a ++ m ≡ b ++ n
      → (h.place ≡ j.place) × (codecs h.place).encoding.encodes b j.content
  moved a b m n x y h j e =
      let one = are h.place a h.content h.encodes in
      let other = are j.place b j.content j.encodes in
      let place = same_place place_of h.place j.place a b m n one other e in
      (place, subst (λ k. (codecs k).encoding.encodes b j.content) (sym place) j.encodes)

  pub places_laws : IsEncoding (LegalPlace codecs) (EncodesPlace codecs)
  places_laws = record {
    is_legal = λ a m h. record {
      place = h.place;
      content = h.content;
      legal = (codecs h.place).encoding.laws.is_legal a h.content h.encodes;
      is = h.is;
    };
    one_value = λ a x y h j.
        let there = moved a a a a x y h j refl in
        let laws = (codecs h.place).encoding.laws in
        let same = laws.one_value a h.content j.content h.encodes there.1 in
        h.is ∙ ((λ i. tagged (there.0 i) (same i)) ∙ sym j.is);
    one_prefix = λ a b m n x y h j e.
        let there = moved a b m n x y h j e in
        let laws = (codecs h.place).encoding.laws in
        laws.one_prefix a b m n h.content j.content h.encodes there.1 e;
  }

-- what is legal as an alternative is so as its content
pub legal_content : {Fields : ℕ → Type 0} (codecs : (place : ℕ) → Codec (Fields place))
    (place : ℕ) (m : Meaning) → LegalPlace codecs (tagged place m)
    → (codecs place).encoding.legal m
legal_content codecs place m h =
    let parts = both_injective _ _ _ _ h.is in
    let same = whole_injective place h.place parts.0 in
    subst (λ k. (codecs k).encoding.legal m) (sym same)
    (subst (codecs h.place).encoding.legal (sym parts.1) h.legal)

-- values that are seen as content at a place
module _ {V : Type 0} {Fields : ℕ → Type 0} (place : V → ℕ) (fields : (v : V) → Fields (place v))
  where
    module _ (codecs : (place : ℕ) → Codec (Fields place)) where
      abbrev pub place_means : V → Meaning
      place_means v = tagged (place v) ((codecs (place v)).canonical.means (fields v))

      abbrev pub place_written : V → List ℕ
      place_written v = (codecs (place v)).canonical.written (fields v)

      same_fields : (j k : ℕ) → j ≡ k → (a : Fields j) (b : Fields k)
          → (codecs j).canonical.means a ≡ (codecs k).canonical.means b
          → (codecs j).canonical.written a ≡ (codecs k).canonical.written b
      same_fields j k e a =
          subst (λ k. (b : Fields k) → (codecs j).canonical.means a ≡ (codecs k).canonical.means b
          → (codecs j).canonical.written a ≡ (codecs k).canonical.written b) e
          ((codecs j).canonical.same_written a)

      pub same_place_written : (x y : V) → place_means x ≡ place_means y
          → place_written x ≡ place_written y
      same_place_written x y e =
          let parts = both_injective _ _ _ _ e in
          same_fields (place x) (place y) (whole_injective (place x) (place y) parts.0) (fields x)
          (fields y) parts.1

      pub place_reads_back : ((place : ℕ) → (codecs place).is_decodable ≡ true) → (v : V)
          → LegalPlace codecs (place_means v)
          → EncodesPlace codecs (place_written v) (place_means v)
      place_reads_back read v h =
          let content = (codecs (place v)).canonical.means (fields v) in
          let legal = legal_content codecs (place v) content h in
          record {
            place = place v;
            content = content;
            encodes = (codecs (place v)).reads_back (read (place v)) (fields v) legal;
            is = refl;
          }

    module _ {A : Type 0} (layers : (place : ℕ) → Layer A (Fields place)) (place_of : ℕ → ℕ)
        (are : (f : Codec A) → AreTagged place_of (codecs_at layers f))
        (are_read : (place : ℕ) → (layers place).reads ≡ true) where
      abbrev pub places_codec : (f : Codec A) → Codec V
      places_codec f = record {
        canonical = record {
          means = place_means (codecs_at layers f);
          written = place_written (codecs_at layers f);
          same_written = same_place_written (codecs_at layers f);
        };
        encoding = record {
          legal = LegalPlace (codecs_at layers f);
          encodes = EncodesPlace (codecs_at layers f);
          laws = places_laws (codecs_at layers f) place_of (are f);
        };
        is_decodable = f.is_decodable;
        reads_back = λ is.
            place_reads_back (codecs_at layers f) (λ place. (layers place).is_read (are_read place) f is);
      }

      abbrev pub places_layer : Layer A V
      places_layer = record {
        codec = places_codec;
        All = λ P v. (layers (place v)).All P (fields v);
        means = λ m v. tagged (place v) ((layers (place v)).means m (fields v));
        deep = λ d v. (layers (place v)).deep d (fields v);
        weaker = λ P Q w v h. (layers (place v)).weaker P Q w (fields v) h;
        less = λ d v. (layers (place v)).less d (fields v);
        means_is = λ f v. ap (tagged (place v)) ((layers (place v)).means_is f (fields v));
        means_same = λ m n v e.
            ap (tagged (place v)) ((layers (place v)).means_same m n (fields v) e);
        written_same = λ f h v e. (layers (place v)).written_same f h (fields v) e;
        legal_same = λ f h m v w s. record {
          place = place v;
          content = (layers (place v)).means m (fields v);
          legal =
              (layers (place v)).legal_same f h m (fields v) w
              (legal_content (codecs_at layers f) (place v)
              ((layers (place v)).means m (fields v)) s);
          is = refl;
        };
        rises = λ f h w bytes m e. record {
          place = e.place;
          content = e.content;
          encodes = (layers e.place).rises f h w bytes e.content e.encodes;
          is = e.is;
        };
        gathers = λ c rises h reached bytes m e.
            let found = (layers e.place).gathers c rises h reached bytes e.content e.encodes in (
              found.0,
              record { place = e.place; content = e.content; encodes = found.1; is = e.is },
            );
        reads = true;
        is_read = λ r f e. e;
      }
