-- What is proved of Nested: the codec of a type that contains itself, whose readers go down so many
-- levels and no further.
use Rattle.std.specs.Prelude.{◌≡◌, ◌<◌, ℕ, zero, suc, ◌+◌, refl, List, []}
use Rattle.std.proofs.Common.{sym, ◌∙◌, subst, arith}
use Rattle.nano_value.specs.Meaning.{Meaning, nothing}
use Rattle.nano_grammar.specs.Tokens.{Cutting, IsValueText}
use Rattle.nano_grammar.specs.Codec.{Grammar, IsEncoding, StartsWith}
use Rattle.nano_grammar.specs.Codec.{Codec}
use Rattle.nano_grammar.specs.BaseCodecs.{codec_as}
use Rattle.nano_levels.specs.Layers.{Nested}

pub nothing_encoded : {T : Type 0} (g : Grammar T) → IsEncoding g {A = Meaning} (λ _. ⊥) (λ _ _. ⊥)
nothing_encoded g = record {
  is_legal = λ ts x h. absurd h;
  one_value = λ ts x y h j. absurd h;
  none_begins = λ ts more x y h j. absurd h;
  begins = λ ts x h. absurd h;
}

-- the codec that encodes no value
abbrev pub no_codec : {T : Type 0} {c : Cutting T} {g : Grammar T} {A : Type 0} → Codec c g A
no_codec {g = g} = record {
  canonical = record {
    means = λ _. nothing;
    text = λ d _. [];
    tokens = λ _. [];
    same_text = λ x y e d. refl;
  };
  encoding = record { legal = λ _. ⊥; encodes = λ _ _. ⊥; laws = nothing_encoded g };
  is_written = λ x h d. absurd h;
  sound = λ _. ⊥;
  reads_back = λ x h s. absurd h;
  encoded_is_sound = λ x ts h. absurd h;
  null_alone = λ x ts e h. absurd h;
}

module _ {T : Type 0} {c : Cutting T} {g : Grammar T} {A : Type 0} (l : Nested c g A) where
  -- the codec of the type, given one of the values inside
  abbrev pub around : Codec c g A → Codec c g A
  around f = codec_as l.view (l.layer.codec f)

  -- the codec of the values that are less deep
  unfoldable pub level : ℕ → Codec c g A
  level zero = no_codec
  level (suc n) = around (level n)

  -- all values inside are less deep
  inside : (P : A → Type 0) (x : A) → ((y : A) → l.depth y < l.depth x → P y)
      → l.layer.All P (l.view x)
  inside P x each =
      l.layer.weaker (λ y. l.depth y < l.layer.deep l.depth (l.view x)) P
      (λ y less. each y (subst (λ n. l.depth y < n) (sym (l.depth_is x)) less)) (l.view x)
      (l.layer.less l.depth (l.view x))

  -- ---- a level and the values that are less deep: what they mean, how they are written, and
  -- which of them are legal and sound

  pub level_means : (n : ℕ) (x : A) → l.depth x < n → (level n).canonical.means x ≡ l.means x
  unfolding level
  level_means zero x h = absurd (omega (arith, h))
  level_means (suc n) x h =
      let each = inside (λ y. (level n).canonical.means y ≡ l.means y) x
      (λ y less. level_means n y (omega (arith, h, less))) in
      l.layer.means_is (level n) (l.view x)
      ∙ (l.layer.means_same (level n).canonical.means l.means (l.view x) each
      ∙ sym (l.means_is x))

  level_text : (n k : ℕ) (x : A) → l.depth x < n → l.depth x < k
      → (d : ℕ) → (level n).canonical.text d x ≡ (level k).canonical.text d x
  unfolding level
  level_text zero k x h j = absurd (omega (arith, h))
  level_text (suc n) zero x h j = absurd (omega (arith, j))
  level_text (suc n) (suc k) x h j =
      l.layer.text_same (level n) (level k) (l.view x)
      (inside (λ y. (d : ℕ) → (level n).canonical.text d y ≡ (level k).canonical.text d y) x
      (λ y less. level_text n k y (omega (arith, h, less)) (omega (arith, j, less))))

  level_tokens : (n k : ℕ) (x : A) → l.depth x < n → l.depth x < k
      → (level n).canonical.tokens x ≡ (level k).canonical.tokens x
  unfolding level
  level_tokens zero k x h j = absurd (omega (arith, h))
  level_tokens (suc n) zero x h j = absurd (omega (arith, j))
  level_tokens (suc n) (suc k) x h j =
      l.layer.tokens_same (level n) (level k) (l.view x)
      (inside (λ y. (level n).canonical.tokens y ≡ (level k).canonical.tokens y) x
      (λ y less. level_tokens n k y (omega (arith, h, less)) (omega (arith, j, less))))

  -- what is legal at some level is legal at each above the value's depth
  pub level_legal : (n k : ℕ) (x : A) → (level n).encoding.legal (l.means x) → l.depth x < k
      → (level k).encoding.legal (l.means x)
  unfolding level
  level_legal zero k x h j = absurd h
  level_legal (suc n) zero x h j = absurd (omega (arith, j))
  level_legal (suc n) (suc k) x h j =
      let each = inside (λ y. (level n).encoding.legal (l.means y)
      → (level k).encoding.legal (l.means y)) x
      (λ y less legal. level_legal n k y legal (omega (arith, j, less))) in
      subst (l.layer.codec (level k)).encoding.legal (sym (l.means_is x))
      (l.layer.legal_same (level n) (level k) l.means (l.view x) each
      (subst (l.layer.codec (level n)).encoding.legal (l.means_is x) h))

  -- and nothing deeper is legal there
  pub level_depth : (n : ℕ) (x : A) → (level n).encoding.legal (l.means x) → l.depth x < n
  unfolding level
  level_depth zero x h = absurd h
  level_depth (suc n) x h =
      let parts = l.layer.legal_parts (level n) l.means (l.view x)
      (subst (l.layer.codec (level n)).encoding.legal (l.means_is x) h) in
      let each = l.layer.weaker (λ y. (level n).encoding.legal (l.means y)) (λ y. l.depth y < n)
      (λ y legal. level_depth n y legal) (l.view x) parts in
      let most = l.layer.most l.depth n (l.view x) each in
      let is = l.depth_is x in
      omega (arith, most, is)

  -- a level encodes what one around the level below it does
  pub level_holds : (n : ℕ) (m : Meaning) (ts : List T)
      → (l.layer.codec (level n)).encoding.encodes ts m → (level (suc n)).encoding.encodes ts m
  unfolding level
  level_holds n m ts h = h

  pub level_content : (n : ℕ) (m : Meaning) (ts : List T)
      → (level (suc n)).encoding.encodes ts m → (l.layer.codec (level n)).encoding.encodes ts m
  unfolding level
  level_content n m ts h = h

  pub level_none : (m : Meaning) (ts : List T) → (level 0).encoding.encodes ts m → ⊥
  unfolding level
  level_none m ts h = h

  -- ---- what is written, at the level just above the value's depth

  pub text : ℕ → A → List ℕ
  text d x = (level (suc (l.depth x))).canonical.text d x

  unfoldable pub tokens : A → List T
  tokens x = (level (suc (l.depth x))).canonical.tokens x

  text_at : (n : ℕ) (x : A) → l.depth x < n → (d : ℕ) → (level n).canonical.text d x ≡ text d x
  unfolding text
  text_at n x h = level_text n (suc (l.depth x)) x h (omega arith)

  tokens_at : (n : ℕ) (x : A) → l.depth x < n → (level n).canonical.tokens x ≡ tokens x
  unfolding tokens
  tokens_at n x h = level_tokens n (suc (l.depth x)) x h (omega arith)

  pub same_text : (x y : A) → l.means x ≡ l.means y → (d : ℕ) → text d x ≡ text d y
  same_text x y e d =
      let n = suc (l.depth x + l.depth y) in
      let h : l.depth x < n = omega arith in
      let j : l.depth y < n = omega arith in
      let same = level_means n x h ∙ (e ∙ sym (level_means n y j)) in
      sym (text_at n x h d) ∙ ((level n).canonical.same_text x y same d ∙ text_at n y j d)

  -- legal at some level
  abbrev pub Legal : Meaning → Type 0
  Legal m = (n : ℕ) × (level n).encoding.legal m

  pub is_written : (x : A) → Legal (l.means x) → (d : ℕ) → IsValueText c (tokens x) (text d x)
  unfolding text tokens
  is_written x h d =
      let n = suc (l.depth x) in
      let below : l.depth x < n = omega arith in
      let legal = level_legal h.0 n x h.1 below in
      (level n).is_written x (subst (level n).encoding.legal (sym (level_means n x below)) legal) d

  -- ---- the codec whose readers go down so many levels

  module _ (limit : ℕ) where
    pub limited_laws : IsEncoding g Legal (level limit).encoding.encodes
    limited_laws =
        let laws = (level limit).encoding.laws in
        record {
          is_legal = λ ts m h. (limit, laws.is_legal ts m h);
          one_value = laws.one_value;
          none_begins = laws.none_begins;
          begins = laws.begins;
        }

    -- no deeper than that, and sound there
    abbrev pub Sound : A → Type 0
    Sound x = (l.depth x < limit) × (level limit).sound x

    pub reads_back : (x : A) → Legal (l.means x) → Sound x
        → (level limit).encoding.encodes (tokens x) (l.means x)
    reads_back x h s =
        let same = level_means limit x s.0 in
        let legal = level_legal h.0 limit x h.1 s.0 in
        let back = (level limit).reads_back x
        (subst (level limit).encoding.legal (sym same) legal) s.1 in
        subst (λ ts. (level limit).encoding.encodes ts (l.means x)) (tokens_at limit x s.0)
        (subst (λ m. (level limit).encoding.encodes ((level limit).canonical.tokens x) m) same back)

    encoded_depth : (x : A) (ts : List T) → (level limit).encoding.encodes ts (l.means x)
        → l.depth x < limit
    encoded_depth x ts h =
        level_depth limit x ((level limit).encoding.laws.is_legal ts (l.means x) h)

    encoded_there : (x : A) (ts : List T) → (level limit).encoding.encodes ts (l.means x)
        → (level limit).encoding.encodes ts ((level limit).canonical.means x)
    encoded_there x ts h =
        subst (λ m. (level limit).encoding.encodes ts m)
        (sym (level_means limit x (encoded_depth x ts h))) h

    pub encoded_is_sound : (x : A) (ts : List T) → (level limit).encoding.encodes ts (l.means x)
        → Sound x
    encoded_is_sound x ts h =
        (encoded_depth x ts h, (level limit).encoded_is_sound x ts (encoded_there x ts h))

    pub null_alone : (x : A) (ts : List T) → StartsWith g.none (tokens x)
        → (level limit).encoding.encodes ts (l.means x) → StartsWith g.none ts
    null_alone x ts e h =
        let begins = subst (StartsWith g.none) (sym (tokens_at limit x (encoded_depth x ts h))) e in
        (level limit).null_alone x ts begins (encoded_there x ts h)

    abbrev pub limited : Codec c g A
    limited = record {
      canonical = record {
        means = l.means;
        text = text;
        tokens = tokens;
        same_text = same_text;
      };
      encoding = record {
        legal = Legal;
        encodes = (level limit).encoding.encodes;
        laws = limited_laws;
      };
      is_written = is_written;
      sound = Sound;
      reads_back = reads_back;
      encoded_is_sound = encoded_is_sound;
      null_alone = null_alone;
    }

    -- ---- a value by the values inside

    pub text_around : (d : ℕ) (x : A)
        → text d x ≡ (l.layer.codec limited).canonical.text d (l.view x)
    unfolding level text
    text_around d x =
        l.layer.text_same (level (l.depth x)) limited (l.view x)
        (inside (λ y. (d : ℕ) → (level (l.depth x)).canonical.text d y ≡ text d y) x
        (λ y less. text_at (l.depth x) y less)) d

    pub legal_around : (x : A)
        → (l.layer.codec limited).encoding.legal (l.layer.means l.means (l.view x))
        → Legal (l.means x)
    unfolding level
    legal_around x h =
        let n = l.depth x in
        let each = inside (λ y. Legal (l.means y) → (level n).encoding.legal (l.means y)) x
        (λ y less legal. level_legal legal.0 n y legal.1 less) in (
          suc n,
          subst (l.layer.codec (level n)).encoding.legal (sym (l.means_is x))
              (l.layer.legal_same limited (level n) l.means (l.view x) each h),
        )

    -- where a value is sound if those inside it are, all that are not too deep are
    module _ (each : (f : Codec c g A) (x : l.Seen) → l.layer.All f.sound x
        → (l.layer.codec f).sound x) where
      level_is_sound : (n : ℕ) (x : A) → l.depth x < n → (level n).sound x
      unfolding level
      level_is_sound zero x h = absurd (omega (arith, h))
      level_is_sound (suc n) x h =
          each (level n) (l.view x) (inside (level n).sound x
          (λ y less. level_is_sound n y (omega (arith, h, less))))

      pub below_is_sound : (x : A) → l.depth x < limit → Sound x
      below_is_sound x h = (h, level_is_sound limit x h)
