-- The variants of an enum around values of the enum itself: each variant is a layer, and so are all
-- of them together.
use Rattle.std.specs.Prelude.{◌≡◌, ◌<◌, ◌≤◌, ◌+◌, ◌&&◌, ℕ, zero, suc, refl, List, ◌++◌, Bool, true}
use Rattle.std.proofs.Common.{sym, ◌∙◌, subst, ap, arith}
use Rattle.nano_value.specs.Meaning.{Meaning}
use Rattle.nano_value.specs.Sums.{tagged, LegalVariant, count_variants}
use Rattle.nano_meaning.proofs.SumsLaws.{legal_at, variant_is_legal, content_is_legal}
use Rattle.nano_bin_bytes.specs.Codec.{Codec}
use Rattle.nano_bin_bytes.specs.Scalars.{little_endian}
use Rattle.nano_bin_bytes.specs.Variants.{Variants, Tagged, body_at, encoding_at, legal_bodies}
use Rattle.nano_bin_bytes.specs.Variants.{are_read}
use Rattle.nano_bin_bytes.proofs.CodecLaws.{both_are_read, both_read}
use Rattle.nano_schema.specs.Choices.{either_is}
use Rattle.nano_schema.specs.declared.choices.Either.{Either}
use Rattle.nano_schema.specs.declared.choices.Either.TheVariants.{First, Later}
use Rattle.nano_bin_schema.specs.Choices.{Chosen}
use Rattle.nano_bin_schema.specs.ChoiceCodecs.{last_choice, next_choice, choice_codec}
use Rattle.nano_bin_levels.specs.Layers.{Layer, IsWithin, Rises, IsReached}

-- the bytes of the content, without the tag
abbrev pub written_content : (vs : Variants) → Tagged vs → List ℕ
written_content vs v = (body_at vs v.tag).codec.canonical.written v.fields

-- contents of variants around values of one type: the variants with their formats, given that of
-- the inner values; what a value means where the first of them has this tag, the place of a value's
-- variant, and what its content means. The rest is as in a layer
pub record ChoiceLayer (A V : Type 0) : Type 1 where
  pub chosen : Codec A → Chosen V
  pub All : (A → Type 0) → V → Type 0
  pub meant : ℕ → (A → Meaning) → V → Meaning
  pub place : V → ℕ
  pub content : (A → Meaning) → V → Meaning
  pub deep : (A → ℕ) → V → ℕ
  pub weaker : (P Q : A → Type 0) → ((y : A) → P y → Q y) → (x : V) → All P x → All Q x
  pub less : (d : A → ℕ) (x : V) → All (λ y. d y < deep d x) x
  pub means_is : (f : Codec A) (from : ℕ) (x : V)
      → (chosen f).means from x ≡ meant from f.canonical.means x
  pub is_tagged : (m : A → Meaning) (from : ℕ) (x : V)
      → meant from m x ≡ tagged (place x + from) (content m x)
  pub content_same : (m n : A → Meaning) (x : V) → All (λ y. m y ≡ n y) x
      → content m x ≡ content n x
  pub tag_is : (f : Codec A) (x : V) → ((chosen f).by_tag x).tag ≡ place x
  pub written_same : (f h : Codec A) (x : V)
      → All (λ y. f.canonical.written y ≡ h.canonical.written y) x
      → written_content (chosen f).bodies ((chosen f).by_tag x)
      ≡ written_content (chosen h).bodies ((chosen h).by_tag x)
  pub legal_same : (f h : Codec A) (m : A → Meaning) (x : V)
      → All (λ y. f.encoding.legal (m y) → h.encoding.legal (m y)) x
      → legal_at (legal_bodies (chosen f).bodies) (place x) (content m x)
      → legal_at (legal_bodies (chosen h).bodies) (place x) (content m x)
  pub rises : (f h : Codec A) → IsWithin f.encoding h.encoding → (tag : ℕ)
      → IsWithin (encoding_at (chosen f).bodies tag) (encoding_at (chosen h).bodies tag)
  pub gathers : (c : ℕ → Codec A) → Rises c → (h : Codec A) → IsReached h.encoding c → (tag : ℕ)
      (bytes : List ℕ) (m : Meaning) → (encoding_at (chosen h).bodies tag).encodes bytes m
      → (n : ℕ) × (encoding_at (chosen (c n)).bodies tag).encodes bytes m
  pub reads : Bool
  pub is_read : reads ≡ true → (f : Codec A) → f.is_decodable ≡ true
      → are_read (chosen f).bodies ≡ true

-- ---- the last variant

module _ {A B : Type 0} (p : Layer A B) where
  pub last_rises : (f h : Codec A) → IsWithin f.encoding h.encoding → (tag : ℕ)
      → IsWithin (encoding_at (last_choice (p.codec f)).bodies tag)
      (encoding_at (last_choice (p.codec h)).bodies tag)
  last_rises f h w zero bytes m e = p.rises f h w bytes m e
  last_rises f h w (suc tag) bytes m e = absurd e

  pub last_gathers : (c : ℕ → Codec A) → Rises c → (h : Codec A) → IsReached h.encoding c
      → (tag : ℕ) (bytes : List ℕ) (m : Meaning)
      → (encoding_at (last_choice (p.codec h)).bodies tag).encodes bytes m
      → (n : ℕ) × (encoding_at (last_choice (p.codec (c n))).bodies tag).encodes bytes m
  last_gathers c rises h reached zero bytes m e = p.gathers c rises h reached bytes m e
  last_gathers c rises h reached (suc tag) bytes m e = absurd e

  abbrev pub last_meant : ℕ → (A → Meaning) → B → Meaning
  last_meant from m x = tagged from (p.means m x)

  pub last_tagged : (m : A → Meaning) (from : ℕ) (x : B)
      → last_meant from m x ≡ tagged (0 + from) (p.means m x)
  last_tagged m from x =
      let e : from ≡ 0 + from = omega arith in ap (λ n. tagged n (p.means m x)) e

  abbrev pub last_variant : ChoiceLayer A B
  last_variant = record {
    chosen = λ f. last_choice (p.codec f);
    All = p.All;
    meant = last_meant;
    place = λ x. 0;
    content = p.means;
    deep = p.deep;
    weaker = p.weaker;
    less = p.less;
    means_is = λ f from x. ap (tagged from) (p.means_is f x);
    is_tagged = last_tagged;
    content_same = p.means_same;
    tag_is = λ f x. refl;
    written_same = p.written_same;
    legal_same = p.legal_same;
    rises = last_rises;
    gathers = last_gathers;
    reads = p.reads;
    is_read = λ r f e. both_are_read (p.is_read r f e) refl;
  }

-- ---- a variant, and those after it

module _ {A B C : Type 0} (p : Layer A B) (others : ChoiceLayer A C) where
  abbrev pub either_all : (A → Type 0) → Either B C → Type 0
  either_all P (First x) = p.All P x
  either_all P (Later y) = others.All P y

  abbrev pub either_place : Either B C → ℕ
  either_place (First x) = 0
  either_place (Later y) = suc (others.place y)

  abbrev pub either_content : (A → Meaning) → Either B C → Meaning
  either_content m (First x) = p.means m x
  either_content m (Later y) = others.content m y

  abbrev pub either_deep : (A → ℕ) → Either B C → ℕ
  either_deep d (First x) = p.deep d x
  either_deep d (Later y) = others.deep d y

  abbrev next_of : Codec A → Chosen (Either B C)
  next_of f = next_choice (p.codec f) (others.chosen f)

  pub either_weaker : (P Q : A → Type 0) → ((y : A) → P y → Q y) → (x : Either B C)
      → either_all P x → either_all Q x
  either_weaker P Q w (First x) h = p.weaker P Q w x h
  either_weaker P Q w (Later y) h = others.weaker P Q w y h

  pub either_less : (d : A → ℕ) (x : Either B C) → either_all (λ y. d y < either_deep d x) x
  either_less d (First x) = p.less d x
  either_less d (Later y) = others.less d y

  abbrev pub next_meant : ℕ → (A → Meaning) → Either B C → Meaning
  next_meant from m = either_is (last_meant p from m) (others.meant (suc from) m)

  pub next_mean : (f : Codec A) (from : ℕ) (x : Either B C)
      → (next_of f).means from x ≡ next_meant from f.canonical.means x
  next_mean f from (First x) = ap (tagged from) (p.means_is f x)
  next_mean f from (Later y) = others.means_is f (suc from) y

  pub next_tagged : (m : A → Meaning) (from : ℕ) (x : Either B C)
      → next_meant from m x ≡ tagged (either_place x + from) (either_content m x)
  next_tagged m from (First x) = last_tagged p m from x
  next_tagged m from (Later y) =
      let place = others.place y in
      let e : place + suc from ≡ suc place + from = omega arith in
      others.is_tagged m (suc from) y ∙ ap (λ n. tagged n (others.content m y)) e

  pub either_same : (m n : A → Meaning) (x : Either B C) → either_all (λ y. m y ≡ n y) x
      → either_content m x ≡ either_content n x
  either_same m n (First x) e = p.means_same m n x e
  either_same m n (Later y) e = others.content_same m n y e

  pub next_tag : (f : Codec A) (x : Either B C) → ((next_of f).by_tag x).tag ≡ either_place x
  next_tag f (First x) = refl
  next_tag f (Later y) = ap (λ n. suc n) (others.tag_is f y)

  pub next_written : (f h : Codec A) (x : Either B C)
      → either_all (λ y. f.canonical.written y ≡ h.canonical.written y) x
      → written_content (next_of f).bodies ((next_of f).by_tag x)
      ≡ written_content (next_of h).bodies ((next_of h).by_tag x)
  next_written f h (First x) e = p.written_same f h x e
  next_written f h (Later y) e = others.written_same f h y e

  pub next_legal : (f h : Codec A) (m : A → Meaning) (x : Either B C)
      → either_all (λ y. f.encoding.legal (m y) → h.encoding.legal (m y)) x
      → legal_at (legal_bodies (next_of f).bodies) (either_place x) (either_content m x)
      → legal_at (legal_bodies (next_of h).bodies) (either_place x) (either_content m x)
  next_legal f h m (First x) w s = p.legal_same f h m x w s
  next_legal f h m (Later y) w s = others.legal_same f h m y w s

  pub next_rises : (f h : Codec A) → IsWithin f.encoding h.encoding → (tag : ℕ)
      → IsWithin (encoding_at (next_of f).bodies tag) (encoding_at (next_of h).bodies tag)
  next_rises f h w zero bytes m e = p.rises f h w bytes m e
  next_rises f h w (suc tag) bytes m e = others.rises f h w tag bytes m e

  pub next_gathers : (c : ℕ → Codec A) → Rises c → (h : Codec A) → IsReached h.encoding c
      → (tag : ℕ) (bytes : List ℕ) (m : Meaning)
      → (encoding_at (next_of h).bodies tag).encodes bytes m
      → (n : ℕ) × (encoding_at (next_of (c n)).bodies tag).encodes bytes m
  next_gathers c rises h reached zero bytes m e = p.gathers c rises h reached bytes m e
  next_gathers c rises h reached (suc tag) bytes m e =
      others.gathers c rises h reached tag bytes m e

  abbrev pub next_variant : ChoiceLayer A (Either B C)
  next_variant = record {
    chosen = next_of;
    All = either_all;
    meant = next_meant;
    place = either_place;
    content = either_content;
    deep = either_deep;
    weaker = either_weaker;
    less = either_less;
    means_is = next_mean;
    is_tagged = next_tagged;
    content_same = either_same;
    tag_is = next_tag;
    written_same = next_written;
    legal_same = next_legal;
    rises = next_rises;
    gathers = next_gathers;
    reads = p.reads && others.reads;
    is_read = λ r f e.
        let each = both_read p.reads others.reads r in
        both_are_read (p.is_read each.0 f e) (others.is_read each.1 f e);
  }

-- ---- all of them

-- two bytes distinguish the variants
abbrev pub AreFew : {A V : Type 0} → ChoiceLayer A V → Type 1
AreFew {A} v = (f : Codec A) → count_variants (legal_bodies (v.chosen f).bodies) ≤ 65536

module _ {A V : Type 0} (v : ChoiceLayer A V) (few : AreFew v) where
  abbrev pub choice_means : (A → Meaning) → V → Meaning
  choice_means m x = v.meant 0 m x

  pub choice_tagged : (m : A → Meaning) (x : V)
      → choice_means m x ≡ tagged (v.place x) (v.content m x)
  choice_tagged m x =
      let e : v.place x + 0 ≡ v.place x = omega arith in
      v.is_tagged m 0 x ∙ ap (λ n. tagged n (v.content m x)) e

  pub choice_same : (m n : A → Meaning) (x : V) → v.All (λ y. m y ≡ n y) x
      → choice_means m x ≡ choice_means n x
  choice_same m n x e =
      choice_tagged m x
      ∙ (ap (λ c. tagged (v.place x) c) (v.content_same m n x e) ∙ sym (choice_tagged n x))

  pub choice_legal : (f h : Codec A) (m : A → Meaning) (x : V)
      → v.All (λ y. f.encoding.legal (m y) → h.encoding.legal (m y)) x
      → LegalVariant (legal_bodies (v.chosen f).bodies) (choice_means m x)
      → LegalVariant (legal_bodies (v.chosen h).bodies) (choice_means m x)
  choice_legal f h m x w s =
      let vs = legal_bodies (v.chosen f).bodies in
      let ws = legal_bodies (v.chosen h).bodies in
      let there = content_is_legal vs (v.place x) (v.content m x)
      (subst (LegalVariant vs) (choice_tagged m x) s) in
      subst (LegalVariant ws) (sym (choice_tagged m x))
      (variant_is_legal ws (v.place x) (v.content m x) (v.legal_same f h m x w there))

  abbrev pub choice_layer : Layer A V
  choice_layer = record {
    codec = λ f. choice_codec (v.chosen f) (few f);
    All = v.All;
    means = choice_means;
    deep = v.deep;
    weaker = v.weaker;
    less = v.less;
    means_is = λ f x. v.means_is f 0 x;
    means_same = choice_same;
    written_same = λ f h x e.
        let one = (v.chosen f).by_tag x in
        let other = (v.chosen h).by_tag x in
        ap (λ n. little_endian 2 n ++ written_content (v.chosen f).bodies one)
        (v.tag_is f x ∙ sym (v.tag_is h x))
        ∙ ap (λ l. little_endian 2 other.tag ++ l) (v.written_same f h x e);
    legal_same = choice_legal;
    rises = λ f h w bytes m e. record {
      part = e.part;
      has = record {
        head = e.has.head;
        tail = e.has.tail;
        whole = e.has.whole;
        tagged = e.has.tagged;
        content = v.rises f h w e.part.tag e.has.tail e.part.content e.has.content;
      };
      is = e.is;
    };
    gathers = λ c rises h reached bytes m e.
        let found = v.gathers c rises h reached e.part.tag e.has.tail e.part.content e.has.content
        in (
          found.0,
          record {
            part = e.part;
            has = record {
              head = e.has.head;
              tail = e.has.tail;
              whole = e.has.whole;
              tagged = e.has.tagged;
              content = found.1;
            };
            is = e.is;
          },
        );
    reads = v.reads;
    is_read = v.is_read;
  }
