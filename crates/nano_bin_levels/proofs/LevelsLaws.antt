-- What is proved of Nested: the codec of a type that contains itself. It encodes what some level
-- encodes, and readers go down so many levels and no further.
use Rattle.std.specs.Prelude.{◌≡◌, ◌<◌, ℕ, zero, suc, ◌+◌, refl, List, [], true}
use Rattle.std.proofs.Common.{sym, ◌∙◌, subst, arith}
use Rattle.nano_value.specs.Meaning.{Meaning, nothing}
use Rattle.nano_bin_bytes.specs.Codec.{Codec, IsEncoding}
use Rattle.nano_bin_bytes.specs.BaseCodecs.{codec_as, no_encoding}
use Rattle.nano_bin_levels.specs.Layers.{IsWithin, Nested}
use Rattle.nano_bin_levels.proofs.ChainsLaws.{climbs, reaches}

-- the codec that encodes no value
abbrev pub no_codec : {A : Type 0} → Codec A
no_codec = record {
  canonical = record { means = λ _. nothing; written = λ _. []; same_written = λ x y e. refl };
  encoding = no_encoding (λ _. ⊥);
  is_decodable = true;
  reads_back = λ is x h. absurd h;
}

module _ {A : Type 0} (l : Nested A) where
  -- the codec of the type, given one of the values inside
  abbrev pub around : Codec A → Codec A
  around f = codec_as l.view (l.layer.codec f)

  -- the codec of the values that are less deep
  unfoldable pub level : ℕ → Codec A
  level zero = no_codec
  level (suc n) = around (level n)

  -- all values inside are less deep
  inside : (P : A → Type 0) (x : A) → ((y : A) → l.depth y < l.depth x → P y)
      → l.layer.All P (l.view x)
  inside P x each =
      l.layer.weaker (λ y. l.depth y < l.layer.deep l.depth (l.view x)) P
      (λ y less. each y (subst (λ n. l.depth y < n) (sym (l.depth_is x)) less)) (l.view x)
      (l.layer.less l.depth (l.view x))

  -- ---- a level and the values that are less deep: what they mean, how they are written, and
  -- which of them are legal

  pub level_means : (n : ℕ) (x : A) → l.depth x < n → (level n).canonical.means x ≡ l.means x
  unfolding level
  level_means zero x h = absurd (omega (arith, h))
  level_means (suc n) x h =
      let each = inside (λ y. (level n).canonical.means y ≡ l.means y) x
      (λ y less. level_means n y (omega (arith, h, less))) in
      l.layer.means_is (level n) (l.view x)
      ∙ (l.layer.means_same (level n).canonical.means l.means (l.view x) each
      ∙ sym (l.means_is x))

  level_written : (n k : ℕ) (x : A) → l.depth x < n → l.depth x < k
      → (level n).canonical.written x ≡ (level k).canonical.written x
  unfolding level
  level_written zero k x h j = absurd (omega (arith, h))
  level_written (suc n) zero x h j = absurd (omega (arith, j))
  level_written (suc n) (suc k) x h j =
      l.layer.written_same (level n) (level k) (l.view x)
      (inside (λ y. (level n).canonical.written y ≡ (level k).canonical.written y) x
      (λ y less. level_written n k y (omega (arith, h, less)) (omega (arith, j, less))))

  -- what is legal at some level is legal at each above the value's depth
  pub level_legal : (n k : ℕ) (x : A) → (level n).encoding.legal (l.means x) → l.depth x < k
      → (level k).encoding.legal (l.means x)
  unfolding level
  level_legal zero k x h j = absurd h
  level_legal (suc n) zero x h j = absurd (omega (arith, j))
  level_legal (suc n) (suc k) x h j =
      let each = inside (λ y. (level n).encoding.legal (l.means y)
      → (level k).encoding.legal (l.means y)) x
      (λ y less legal. level_legal n k y legal (omega (arith, j, less))) in
      subst (l.layer.codec (level k)).encoding.legal (sym (l.means_is x))
      (l.layer.legal_same (level n) (level k) l.means (l.view x) each
      (subst (l.layer.codec (level n)).encoding.legal (l.means_is x) h))

  level_read : l.layer.reads ≡ true → (n : ℕ) → (level n).is_decodable ≡ true
  unfolding level
  level_read read zero = refl
  level_read read (suc n) = l.layer.is_read read (level n) (level_read read n)

  -- ---- what a level encodes, each above it encodes

  level_rises : (n : ℕ) → IsWithin (level n).encoding (level (suc n)).encoding
  unfolding level
  level_rises zero bytes m h = absurd h
  level_rises (suc n) bytes m h = l.layer.rises (level n) (level (suc n)) (level_rises n) bytes m h

  -- a level encodes what one around the level below it does
  pub level_holds : (n : ℕ) → IsWithin (l.layer.codec (level n)).encoding (level (suc n)).encoding
  unfolding level
  level_holds n bytes m h = h

  -- ---- what is written, at the level just above the value's depth

  unfoldable pub written : A → List ℕ
  written x = (level (suc (l.depth x))).canonical.written x

  written_at : (n : ℕ) (x : A) → l.depth x < n → (level n).canonical.written x ≡ written x
  unfolding written
  written_at n x h = level_written n (suc (l.depth x)) x h (omega arith)

  pub same_written : (x y : A) → l.means x ≡ l.means y → written x ≡ written y
  same_written x y e =
      let n = suc (l.depth x + l.depth y) in
      let h : l.depth x < n = omega arith in
      let j : l.depth y < n = omega arith in
      let same = level_means n x h ∙ (e ∙ sym (level_means n y j)) in
      sym (written_at n x h) ∙ ((level n).canonical.same_written x y same ∙ written_at n y j)

  -- ---- the codec

  -- legal at some level
  abbrev pub Legal : Meaning → Type 0
  Legal m = (n : ℕ) × (level n).encoding.legal m

  -- encoded at some level
  abbrev pub Encodes : List ℕ → Meaning → Type 0
  Encodes bytes m = (n : ℕ) × (level n).encoding.encodes bytes m

  pub nested_laws : IsEncoding Legal Encodes
  nested_laws = record {
    is_legal = λ bytes m h. (h.0, (level h.0).encoding.laws.is_legal bytes m h.1);
    one_value = λ bytes x y h j.
        (level (h.0 + j.0)).encoding.laws.one_value bytes x y (reaches level level_rises h.0 j.0 bytes x h.1)
        (climbs level level_rises h.0 j.0 bytes y j.1);
    one_prefix = λ a b m n x y h j e.
        (level (h.0 + j.0)).encoding.laws.one_prefix a b m n x y (reaches level level_rises h.0 j.0 a x h.1)
        (climbs level level_rises h.0 j.0 b y j.1) e;
  }

  pub reads_back : l.layer.reads ≡ true → (x : A) → Legal (l.means x)
      → Encodes (written x) (l.means x)
  reads_back read x h =
      let n = suc (l.depth x) in
      let below : l.depth x < n = omega arith in
      let same = level_means n x below in
      let legal = subst (level n).encoding.legal (sym same) (level_legal h.0 n x h.1 below) in
      let back = (level n).reads_back (level_read read n) x legal in (
        n,
        subst (λ bytes. (level n).encoding.encodes bytes (l.means x)) (written_at n x below)
            (subst (λ m. (level n).encoding.encodes ((level n).canonical.written x) m) same back),
      )

  abbrev pub nested_codec : Codec A
  nested_codec = record {
    canonical = record { means = l.means; written = written; same_written = same_written };
    encoding = record { legal = Legal; encodes = Encodes; laws = nested_laws };
    is_decodable = l.layer.reads;
    reads_back = reads_back;
  }

  -- ---- a value by the values inside

  pub written_around : (x : A)
      → written x ≡ (l.layer.codec nested_codec).canonical.written (l.view x)
  unfolding level written
  written_around x =
      l.layer.written_same (level (l.depth x)) nested_codec (l.view x)
      (inside (λ y. (level (l.depth x)).canonical.written y ≡ written y) x
      (λ y less. written_at (l.depth x) y less))

  -- what a level encodes, the codec does
  pub level_within : (n : ℕ) → IsWithin (level n).encoding nested_codec.encoding
  level_within n bytes m h = (n, h)

  -- the codec encodes nothing but what one around it does
  level_inside : (n : ℕ) → IsWithin (level n).encoding (l.layer.codec nested_codec).encoding
  unfolding level
  level_inside zero bytes m h = absurd h
  level_inside (suc n) bytes m h = l.layer.rises (level n) nested_codec (level_within n) bytes m h

  pub unrolled : IsWithin nested_codec.encoding (l.layer.codec nested_codec).encoding
  unrolled bytes m h = level_inside h.0 bytes m h.1

  -- and nothing else does one around it encode
  pub rolled : IsWithin (l.layer.codec nested_codec).encoding nested_codec.encoding
  rolled bytes m h =
      let found = l.layer.gathers level level_rises nested_codec (λ a x e. e) bytes m h in
      (suc found.0, level_holds found.0 bytes m found.1)
