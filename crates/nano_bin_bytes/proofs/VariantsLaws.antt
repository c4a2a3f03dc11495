-- What is proved of Variants.
use Rattle.std.specs.Prelude.{◌≡◌, ℕ, zero, suc, ◌<◌, ◌≤◌, ◌^◌, true, refl, List, ◌++◌}
use Rattle.std.proofs.Common.{sym, ◌∙◌, subst, ap, arith}
use Rattle.nano_value.specs.Meaning.{Meaning}
use Rattle.nano_meaning.proofs.MeaningLaws.{whole_injective, both_injective}
use Rattle.nano_value.specs.Sums.{LegalVariant, count_variants}
use Rattle.nano_meaning.proofs.SumsLaws.{legal_at, variant_is_legal, content_is_legal, place_below}
use Rattle.nano_bin_bytes.specs.Codec.{IsEncoding}
use Rattle.nano_bin_bytes.proofs.CodecLaws.{image_encoding, same_prefixes, same_heads, both_read}
use Rattle.nano_bin_bytes.proofs.ScalarsLaws.{number_encoding}
use Rattle.nano_bin_bytes.specs.Scalars.{EncodesNumber, little_endian}
use Rattle.nano_bin_bytes.specs.Variants.{Variants, no_variants, variant, legal_bodies, body_at}
use Rattle.nano_bin_bytes.specs.Variants.{encoding_at, Variant, variant_means, EncodesVariant}
use Rattle.nano_bin_bytes.specs.Variants.{EncodesEnum, Tagged, tagged_means, written_tagged}
use Rattle.nano_bin_bytes.specs.Variants.{are_read}

-- ---- what is written

-- content is legal for the variant at a place where its encoding says so
pub body_is_legal : (vs : Variants) (place : ℕ) (m : Meaning) → (encoding_at vs place).legal m
    → legal_at (legal_bodies vs) place m
body_is_legal no_variants place m h = h
body_is_legal (variant b others) zero m h = h
body_is_legal (variant b others) (suc place) m h = body_is_legal others place m h

pub legal_for_body : (vs : Variants) (place : ℕ) (m : Meaning) → legal_at (legal_bodies vs) place m
    → (encoding_at vs place).legal m
legal_for_body no_variants place m h = h
legal_for_body (variant b others) zero m h = h
legal_for_body (variant b others) (suc place) m h = legal_for_body others place m h

module _ (vs : Variants) where
  -- the tags of two encodings that begin the same bytes are the same
  same_content : (a b : List ℕ) (x y : Variant) (tail : List ℕ) → a ≡ b → EncodesNumber 2 a x.tag
      → EncodesNumber 2 b y.tag → (encoding_at vs y.tag).encodes tail y.content
      → (x.tag ≡ y.tag) × (encoding_at vs x.tag).encodes tail y.content
  same_content a b x y tail e h j content =
      let other = subst (λ l. EncodesNumber 2 l y.tag) (sym e) j in
      let tag = (number_encoding 2).one_value a x.tag y.tag h other in
      (tag, subst (λ k. (encoding_at vs k).encodes tail y.content) (sym tag) content)

  variant_value : (a : List ℕ) (x y : Variant) → EncodesVariant vs a x → EncodesVariant vs a y → x
      ≡ y
  variant_value a x y h j =
      let S = encoding_at vs x.tag in
      let number = number_encoding 2 in
      let w = sym h.whole ∙ j.whole in
      let e = same_prefixes number h.head j.head h.tail j.tail x.tag y.tag h.tagged j.tagged w in
      let same = same_content h.head j.head x y j.tail e.0 h.tagged j.tagged j.content in
      let other = subst (λ l. S.encodes l y.content) (sym e.1) same.1 in
      let content = S.laws.one_value h.tail x.content y.content h.content other in
      λ i. record { tag = same.0 i; content = content i }

  variant_prefix : (a b m n : List ℕ) (x y : Variant) → EncodesVariant vs a x
      → EncodesVariant vs b y → a ++ m ≡ b ++ n → a ≡ b
  variant_prefix a b m n x y h j e =
      let w = ap (λ l. l ++ m) (sym h.whole) ∙ (e ∙ ap (λ l. l ++ n) j.whole) in
      let number = number_encoding 2 in
      let p = same_heads number h.head j.head h.tail j.tail m n x.tag y.tag h.tagged j.tagged w in
      let same = same_content h.head j.head x y j.tail p.0 h.tagged j.tagged j.content in
      let laws = (encoding_at vs x.tag).laws in
      let q = laws.one_prefix h.tail j.tail m n x.content y.content h.content same.1 p.1 in
      h.whole ∙ (ap (λ l. l ++ h.tail) p.0 ∙ (ap (λ l. j.head ++ l) q ∙ sym j.whole))

  encoded_variant : IsEncoding (λ v. LegalVariant (legal_bodies vs) (variant_means v))
      (EncodesVariant vs)
  encoded_variant = record {
    is_legal = λ a v h.
        let content = (encoding_at vs v.tag).laws.is_legal h.tail v.content h.content in
        variant_is_legal (legal_bodies vs) v.tag v.content
        (body_is_legal vs v.tag v.content content);
    one_value = variant_value;
    one_prefix = variant_prefix;
  }

  -- the meanings that are legal are those of nano_value's sums
  pub variant_encoding : IsEncoding (LegalVariant (legal_bodies vs)) (EncodesEnum vs)
  variant_encoding =
      let all = image_encoding encoded_variant variant_means in
      record {
        is_legal = λ a m h.
            let legal = encoded_variant.is_legal a h.part h.has in
            subst (LegalVariant (legal_bodies vs)) (sym h.is) legal;
        one_value = all.one_value;
        one_prefix = all.one_prefix;
      }

  same_fields : (j k : ℕ) → j ≡ k → (a : (body_at vs j).Fields) (b : (body_at vs k).Fields)
      → (body_at vs j).codec.canonical.means a ≡ (body_at vs k).codec.canonical.means b
      → (body_at vs j).codec.canonical.written a ≡ (body_at vs k).codec.canonical.written b
  same_fields j k e a =
      subst (λ k. (b : (body_at vs k).Fields)
      → (body_at vs j).codec.canonical.means a ≡ (body_at vs k).codec.canonical.means b
      → (body_at vs j).codec.canonical.written a ≡ (body_at vs k).codec.canonical.written b) e
      ((body_at vs j).codec.canonical.same_written a)

  pub tagged_same : (x y : Tagged vs) → tagged_means vs x ≡ tagged_means vs y
      → written_tagged vs x ≡ written_tagged vs y
  tagged_same x y e =
      let parts = both_injective _ _ _ _ e in
      let tag = whole_injective x.tag y.tag parts.0 in
      let fields = same_fields x.tag y.tag tag x.fields y.fields parts.1 in
      λ i. little_endian 2 (tag i) ++ fields i

is_read_at : (vs : Variants) → are_read vs ≡ true → (place : ℕ)
    → (body_at vs place).codec.is_decodable ≡ true
is_read_at no_variants e place = refl
is_read_at (variant b others) e zero = (both_read _ _ e).0
is_read_at (variant b others) e (suc place) = is_read_at others (both_read _ _ e).1 place

module _ (vs : Variants) (few : count_variants (legal_bodies vs) ≤ 65536) where
  pub tagged_reads_back : are_read vs ≡ true → (v : Tagged vs)
      → LegalVariant (legal_bodies vs) (tagged_means vs v)
      → EncodesEnum vs (written_tagged vs v) (tagged_means vs v)
  tagged_reads_back is v h =
      let codec = (body_at vs v.tag).codec in
      let content = codec.canonical.means v.fields in
      let legal = content_is_legal (legal_bodies vs) v.tag content h in
      let below = place_below (legal_bodies vs) v.tag content legal in
      let fits : v.tag < 256 ^ 2 = omega (arith, below, few) in
      let allowed = legal_for_body vs v.tag content legal in
      let back = codec.reads_back (is_read_at vs is v.tag) v.fields allowed in
      record {
        part = record { tag = v.tag; content = content };
        has = record {
          head = little_endian 2 v.tag;
          tail = codec.canonical.written v.fields;
          whole = refl;
          tagged = record { fits = fits; whole = refl };
          content = back;
        };
        is = refl;
      }
