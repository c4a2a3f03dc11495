-- What is proved of Kinds.
use Rattle.std.specs.Prelude.{◌≡◌, ℕ, List, [], ◌∷◌, ◌++◌, refl}
use Rattle.std.proofs.Common.{sym, ◌∙◌, subst, ap}
use Rattle.nano_value.specs.Meaning.{Meaning}
use Rattle.nano_meaning.proofs.MeaningLaws.{whole_injective, both_injective}
use Rattle.nano_meaning.specs.Sums.{tagged}
use Rattle.nano_grammar.specs.Tokens.{Cutting}
use Rattle.nano_grammar.specs.Codec.{Codec}
use Rattle.nano_grammar.specs.Codec.{Grammar, BeginsValue, IsEncoding, Encoding}
use Rattle.nano_levels.specs.Kinds.{kind_of, LegalKind, EncodesKind, Tagged, codecs_at, AreKinds}
use Rattle.nano_levels.specs.Layers.{Layer}
use Rattle.nano_levels.proofs.LevelsLaws.{nothing_encoded}

-- the content of a place that no alternative has
abbrev pub no_content : {T : Type 0} {c : Cutting T} {g : Grammar T} → Codec c g ⊥
no_content {g = g} = record {
  canonical = record {
    means = λ x. absurd x;
    text = λ d x. absurd x;
    tokens = λ x. absurd x;
    same_text = λ x y e d. absurd x;
  };
  encoding = record { legal = λ _. ⊥; encodes = λ _ _. ⊥; laws = nothing_encoded g };
  is_written = λ x h d. absurd x;
  sound = λ _. ⊥;
  reads_back = λ x h s. absurd x;
  encoded_is_sound = λ x ts h. absurd h;
  null_alone = λ x ts e h. absurd h;
}

same_kind : {T : Type 0} (g : Grammar T) (kind : T → ℕ) (ts more : List T) → BeginsValue g ts
    → kind_of kind (ts ++ more) ≡ kind_of kind ts
same_kind g kind [] more h = absurd h
same_kind g kind (t ∷ ts) more h = refl

module _ {T : Type 0} {c : Cutting T} {g : Grammar T} (kind : T → ℕ) {Fields : ℕ → Type 0}
    (codecs : (place : ℕ) → Codec c g (Fields place)) where
  pub kinds_laws : IsEncoding g (LegalKind kind codecs) (EncodesKind kind codecs)
  kinds_laws = record {
    is_legal = λ ts m h. record {
      place = kind_of kind ts;
      content = h.content;
      legal = (codecs (kind_of kind ts)).encoding.laws.is_legal ts h.content h.encodes;
      is = h.is;
    };
    one_value = λ ts x y h j.
        let laws = (codecs (kind_of kind ts)).encoding.laws in
        let same = laws.one_value ts h.content j.content h.encodes j.encodes in
        h.is ∙ (ap (tagged (kind_of kind ts)) same ∙ sym j.is);
    none_begins = λ ts more x y h j.
        let laws = (codecs (kind_of kind ts)).encoding.laws in
        let same = same_kind g kind ts more (laws.begins ts h.content h.encodes) in
        let other = subst (λ k. (codecs k).encoding.encodes (ts ++ more) j.content) same
        j.encodes in
        laws.none_begins ts more h.content j.content h.encodes other;
    begins = λ ts m h.
        (codecs (kind_of kind ts)).encoding.laws.begins ts h.content h.encodes;
  }

  abbrev pub kinds_of : Encoding g
  kinds_of = record {
    legal = LegalKind kind codecs;
    encodes = EncodesKind kind codecs;
    laws = kinds_laws;
  }

  abbrev means : Tagged Fields → Meaning
  means v = tagged v.tag ((codecs v.tag).canonical.means v.fields)

  abbrev tokens : Tagged Fields → List T
  tokens v = (codecs v.tag).canonical.tokens v.fields

  same_fields : (j k : ℕ) → j ≡ k → (a : Fields j) (b : Fields k)
      → (codecs j).canonical.means a ≡ (codecs k).canonical.means b
      → (d : ℕ)
      → (codecs j).canonical.text d a ≡ (codecs k).canonical.text d b
  same_fields j k e a =
      subst (λ k. (b : Fields k)
      → (codecs j).canonical.means a ≡ (codecs k).canonical.means b
      → (d : ℕ)
      → (codecs j).canonical.text d a ≡ (codecs k).canonical.text d b) e
      ((codecs j).canonical.same_text a)

  pub same_text : (x y : Tagged Fields) → means x ≡ means y → (d : ℕ)
      → (codecs x.tag).canonical.text d x.fields
      ≡ (codecs y.tag).canonical.text d y.fields
  same_text x y e =
      let parts = both_injective _ _ _ _ e in
      same_fields x.tag y.tag (whole_injective x.tag y.tag parts.0) x.fields y.fields parts.1

  -- what is legal or encoded as an alternative is so as its content
  pub legal_content : (tag : ℕ) (m : Meaning) → LegalKind kind codecs (tagged tag m)
      → (codecs tag).encoding.legal m
  legal_content tag m h =
      let parts = both_injective _ _ _ _ h.is in
      let place = whole_injective tag h.place parts.0 in
      subst (λ k. (codecs k).encoding.legal m) (sym place)
      (subst (codecs h.place).encoding.legal (sym parts.1) h.legal)

  pub encoded_content : (tag : ℕ) (m : Meaning) (ts : List T)
      → EncodesKind kind codecs ts (tagged tag m) → (codecs tag).encoding.encodes ts m
  encoded_content tag m ts h =
      let parts = both_injective _ _ _ _ h.is in
      let place = whole_injective tag (kind_of kind ts) parts.0 in
      subst (λ k. (codecs k).encoding.encodes ts m) (sym place)
      (subst ((codecs (kind_of kind ts)).encoding.encodes ts) (sym parts.1) h.encodes)

  module _ (kind_is : (place : ℕ) (ts : List T) (m : Meaning)
      → (codecs place).encoding.encodes ts m → kind_of kind ts ≡ place) where
    -- content of an alternative encodes the value
    pub of_kind : (place : ℕ) (ts : List T) (m : Meaning)
        → (codecs place).encoding.encodes ts m
        → EncodesKind kind codecs ts (tagged place m)
    of_kind place ts m h =
        let e = sym (kind_is place ts m h) in
        record {
          content = m;
          encodes = subst (λ k. (codecs k).encoding.encodes ts m) e h;
          is = ap (λ k. tagged k m) e;
        }

    pub reads_back : (v : Tagged Fields) → LegalKind kind codecs (means v)
        → (codecs v.tag).sound v.fields → EncodesKind kind codecs (tokens v) (means v)
    reads_back v h s =
        of_kind v.tag (tokens v) ((codecs v.tag).canonical.means v.fields)
        ((codecs v.tag).reads_back v.fields (legal_content v.tag ((codecs v.tag).canonical.means v.fields) h) s)

    abbrev pub kinds_codec : Codec c g (Tagged Fields)
    kinds_codec = record {
      canonical = record {
        means = means;
        text = λ d v. (codecs v.tag).canonical.text d v.fields;
        tokens = tokens;
        same_text = same_text;
      };
      encoding = kinds_of;
      is_written = λ v h. (codecs v.tag).is_written v.fields (legal_content v.tag ((codecs v.tag).canonical.means v.fields) h);
      sound = λ v. (codecs v.tag).sound v.fields;
      reads_back = reads_back;
      encoded_is_sound = λ v ts h.
          (codecs v.tag).encoded_is_sound v.fields ts (encoded_content v.tag ((codecs v.tag).canonical.means v.fields) ts h);
      null_alone = λ v ts e h.
          (codecs v.tag).null_alone v.fields ts e (encoded_content v.tag ((codecs v.tag).canonical.means v.fields) ts h);
    }

-- ---- alternatives around values

module _ {T : Type 0} {c : Cutting T} {g : Grammar T} {A : Type 0} (kind : T → ℕ)
    {Fields : ℕ → Type 0} (layers : (place : ℕ) → Layer c g A (Fields place))
    (kinds : AreKinds kind layers) where
  abbrev pub content_mean : (A → Meaning) → Tagged Fields → Meaning
  content_mean m v = tagged v.tag ((layers v.tag).means m v.fields)

  abbrev pub kinds_layer : Layer c g A (Tagged Fields)
  kinds_layer = record {
    codec = λ f. kinds_codec kind (codecs_at layers f) (kinds f);
    All = λ P v. (layers v.tag).All P v.fields;
    means = content_mean;
    deep = λ d v. (layers v.tag).deep d v.fields;
    weaker = λ P Q w v h. (layers v.tag).weaker P Q w v.fields h;
    less = λ d v. (layers v.tag).less d v.fields;
    most = λ d n v h. (layers v.tag).most d n v.fields h;
    means_is = λ f v. ap (tagged v.tag) ((layers v.tag).means_is f v.fields);
    means_same = λ m n v e. ap (tagged v.tag) ((layers v.tag).means_same m n v.fields e);
    text_same = λ f h v e d. (layers v.tag).text_same f h v.fields e d;
    tokens_same = λ f h v e. (layers v.tag).tokens_same f h v.fields e;
    sound_same = λ f h v e w s. (layers v.tag).sound_same f h v.fields e w s;
    legal_parts = λ f m v h.
        (layers v.tag).legal_parts f m v.fields
        (legal_content kind (codecs_at layers f) v.tag ((layers v.tag).means m v.fields) h);
    legal_same = λ f h m v w s. record {
      place = v.tag;
      content = (layers v.tag).means m v.fields;
      legal =
          (layers v.tag).legal_same f h m v.fields w
          (legal_content kind (codecs_at layers f) v.tag ((layers v.tag).means m v.fields) s);
      is = refl;
    };
  }
