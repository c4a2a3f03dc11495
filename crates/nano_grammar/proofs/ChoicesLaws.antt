-- What is proved of Choices.
use Rattle.std.specs.Prelude.{◌≡◌, ℕ, suc, ◌&&◌, true, List, refl}
use Rattle.std.proofs.Common.{sym, inl, inr, ◌∙◌, subst, ◌||◌, Bool, false, Some, None, cond}
use Rattle.std.proofs.Common.{bytes_eq, ap}
use Rattle.std.proofs.lemmas.Bool.{and_parts}
use Rattle.nano_value.specs.Meaning.{Meaning, nothing}
use Rattle.nano_value.specs.Sums.{tagged}
use Rattle.nano_grammar.specs.Tokens.{Cutting, IsValueText, At, Spans}
use Rattle.nano_grammar.proofs.FaultLaws.{Encodes}
use Rattle.nano_grammar.specs.Codec.{Codec, Grammar, Encoding}
use Rattle.nano_grammar.specs.BaseCodecs.{codec_as}
use Rattle.nano_grammar.specs.Variants.{VariantStyle, unit_variant, variant, names_differ, Variants}
use Rattle.nano_grammar.specs.Variants.{no_variants, unit_named, content_named, found, either_found}
use Rattle.nano_grammar.specs.Variants.{EncodesFound}
use Rattle.nano_grammar.specs.VariantCodec.{Body, seen_means, seen_text, names_are_good}
use Rattle.nano_grammar.proofs.VariantCodecLaws.{variants_codec}
use Rattle.nano_schema.specs.Choices.{either_is}
use Rattle.nano_schema.specs.declared.choices.Either.{Either}
use Rattle.nano_schema.specs.declared.choices.Either.TheVariants.{First, Later}
use Rattle.nano_grammar.specs.Choices.{before, Placed, Content, Chosen, ChoiceCodec, seen_next}
use Rattle.nano_grammar.specs.Choices.{Rest, no_more, more, stands_alone, EncodesRest, EncodesAfter}
use Rattle.nano_grammar.specs.Choices.{has_alone, is_named}

-- ---- what is encoded

module _ {T : Type 0} {c : Cutting T} {g : Grammar T} (s : VariantStyle c g) where
  -- ---- one variant among others

  abbrev pub alone_placed : Placed s (Unit {0})
  alone_placed = record {
    means = λ _. nothing;
    text = λ name d x. s.alone_text name;
    put = λ name others. unit_variant name others;
    here = λ _ _ x. inl x;
    following = λ _ _ x. inr x;
    here_means = λ _ _ _ _. refl;
    after_means = λ _ _ _ _. refl;
    here_text = λ _ _ _ _. refl;
    after_text = λ _ _ _ _. refl;
  }

  abbrev pub body_placed : (body : Body s) → Placed s body.Fields
  body_placed body = record {
    means = body.codec.canonical.means;
    text = λ name d x. s.content_text name (body.codec.canonical.text d x);
    put = λ name others. variant name body others;
    here = λ _ _ x. inl x;
    following = λ _ _ x. inr x;
    here_means = λ _ _ _ _. refl;
    after_means = λ _ _ _ _. refl;
    here_text = λ _ _ _ _. refl;
    after_text = λ _ _ _ _. refl;
  }

module _ {T : Type 0} {c : Cutting T} {g : Grammar T} {s : VariantStyle c g} where
  module _ {A B : Type 0} (name : List ℕ) (p : Placed s A) (others : Chosen s B) where
    pub next_meant : (from : ℕ) (x : Either A B)
        → seen_means from (p.put name others.variants) (seen_next name p others x)
        ≡ either_is (λ a. tagged from (p.means a)) (others.means (suc from)) x
    next_meant from (First x) = p.here_means name others.variants from x
    next_meant from (Later y) =
        p.after_means name others.variants from (others.seen y) ∙ others.meant (suc from) y

    pub next_written : (d : ℕ) (x : Either A B)
        → seen_text (p.put name others.variants) d (seen_next name p others x)
        ≡ either_is (p.text name d) (others.text d) x
    next_written d (First x) = p.here_text name others.variants d x
    next_written d (Later y) =
        p.after_text name others.variants d (others.seen y) ∙ others.written d y

    abbrev pub chosen_next : Chosen s (Either A B)
    chosen_next = record {
      variants = p.put name others.variants;
      means = λ from. either_is (λ a. tagged from (p.means a)) (others.means (suc from));
      text = λ d. either_is (p.text name d) (others.text d);
      seen = (seen_next name p others);
      meant = next_meant;
      written = next_written;
    }

  -- a variant, and those after it
  abbrev pub next_choice : {A B : Type 0} → List ℕ → Content s A → ChoiceCodec s B
      → ChoiceCodec s (Either A B)
  next_choice name content others = record {
    encodes = before content.rest name others.encodes;
    text = λ d. either_is (content.text name d) (others.text d);
    good = content.good && others.good;
    chosen = λ ok.
        let parts = and_parts content.good others.good ok in
        chosen_next name (content.placed parts.0) (others.chosen parts.1);
  }

-- ---- a format of which another one has the same meanings and texts

module _ {T : Type 0} {c : Cutting T} {g : Grammar T} {A : Type 0} (f : Codec c g A)
    (means : A → Meaning) (text : ℕ → A → List ℕ) (meant : (x : A) → f.canonical.means x ≡ means x)
    (written : (d : ℕ) (x : A) → f.canonical.text d x ≡ text d x) where
  pub as_same : (x y : A) → means x ≡ means y → (d : ℕ) → text d x ≡ text d y
  as_same x y e d =
      let same = meant x ∙ (e ∙ sym (meant y)) in
      sym (written d x) ∙ (f.canonical.same_text x y same d ∙ written d y)

  pub allowed : (x : A) → f.encoding.legal (means x) → f.encoding.legal (f.canonical.means x)
  allowed x h = subst f.encoding.legal (sym (meant x)) h

  pub reported : (x : A) (ts : List T) → f.encoding.encodes ts (means x)
      → f.encoding.encodes ts (f.canonical.means x)
  reported x ts h = subst (f.encoding.encodes ts) (sym (meant x)) h

  pub as_written : (x : A) → f.encoding.legal (means x) → (d : ℕ)
      → IsValueText c (f.canonical.tokens x) (text d x)
  as_written x h d =
      subst (λ l. IsValueText c (f.canonical.tokens x) l) (written d x)
      (f.is_written x (allowed x h) d)

  pub as_read_back : (x : A) → f.encoding.legal (means x) → f.sound x
      → f.encoding.encodes (f.canonical.tokens x) (means x)
  as_read_back x h sound =
      subst (f.encoding.encodes (f.canonical.tokens x)) (meant x)
      (f.reads_back x (allowed x h) sound)

  abbrev pub codec_reported : Codec c g A
  codec_reported = record {
    canonical =
        record { means = means; text = text; tokens = f.canonical.tokens; same_text = as_same };
    encoding = f.encoding;
    is_written = as_written;
    sound = f.sound;
    reads_back = as_read_back;
    encoded_is_sound = λ x ts h. f.encoded_is_sound x ts (reported x ts h);
    null_alone = λ x ts e h. f.null_alone x ts e (reported x ts h);
  }

-- ---- the format of an enum

-- the format of values that are one of the variants. The names in their contents are good, the
-- names of the variants can be written, and no two are one: each is shown by `refl` of names that
-- are given
abbrev pub choice_codec : {T : Type 0} {c : Cutting T} {g : Grammar T} {s : VariantStyle c g}
    {A : Type 0} → (f : ChoiceCodec s A) → (ok : f.good ≡ true)
    → names_are_good (f.chosen ok).variants ≡ true
    → names_differ (f.chosen ok).variants ≡ true → Codec c g A
choice_codec f ok good differ =
    let k = f.chosen ok in
    codec_reported (codec_as k.seen (variants_codec k.variants good differ)) (k.means 0) k.text
    (k.meant 0) k.written

-- ==== readers of a choice of variants

-- ---- names without content

-- the same name, whatever the place that is counted from
pub none_alone : {C : Type 1} (from : ℕ) (vs : Variants C) (name : List ℕ)
    → has_alone vs name ≡ false → unit_named from vs name ≡ None
none_alone from no_variants name e = refl
none_alone from (unit_variant first others) name e =
    let rest = unit_named (suc from) others name in
    let None_is = λ (b : Bool). cond b (Some from) rest ≡ None in
    elim (bytes_eq name first) as (λ b. b || has_alone others name ≡ false → None_is b) [
      | true ↦ λ e. absurd (cc e)
      | false ↦ λ e. none_alone (suc from) others name e
    ] e
none_alone from (variant first content others) name e = none_alone (suc from) others name e

pub some_alone : {C : Type 1} (from : ℕ) (vs : Variants C) (name : List ℕ)
    → has_alone vs name ≡ true → (tag : ℕ) × (unit_named from vs name ≡ Some tag)
some_alone from no_variants name e = absurd (cc e)
some_alone from (unit_variant first others) name e =
    let rest = unit_named (suc from) others name in
    let Some_is = λ (b : Bool). (tag : ℕ) × (cond b (Some from) rest ≡ Some tag) in
    elim (bytes_eq name first) as (λ b. b || has_alone others name ≡ true → Some_is b) [
      | true ↦ λ e. (from, refl)
      | false ↦ λ e. some_alone (suc from) others name e
    ] e
some_alone from (variant first content others) name e = some_alone (suc from) others name e

module _ {T : Type 0} {c : Cutting T} {g : Grammar T} (s : VariantStyle c g)
    (cut : List ℕ → T → List ℕ → Type 0) where
  -- what is encoded after a name that was taken
  abbrev pub After : ℕ → Variants (Encoding g) → Bool → List ℕ → List T → Meaning → Type 0
  After = EncodesAfter s

  -- ---- the first of some variants

  first_after : (rest : Rest g) (first : List ℕ) (others : Variants (Encoding g)) (from : ℕ)
      (stood : Bool) (name : List ℕ) → is_named stood (stands_alone rest) name first ≡ true
      → (ts : List T) (m : Meaning) → EncodesRest s rest ts m
      → After from (before rest first others) stood name ts (tagged from m)
  first_after no_more first others from true name e ts m h =
      let same = (and_parts true (bytes_eq name first) e).1 in
      let others_named = unit_named (suc from) others name in (
        from,
        subst (λ b. cond b (Some from) others_named ≡ Some from) (sym same) refl,
        h.0,
        ap (tagged from) h.1,
      )
  first_after no_more first others from false name e ts m h =
      let bad = (and_parts false (bytes_eq name first) e).0 in absurd (cc bad)
  first_after (more content) first others from true name e ts m h =
      let bad = (and_parts false (bytes_eq name first) e).0 in absurd (cc bad)
  first_after (more content) first others from false name e ts m h =
      let same = (and_parts true (bytes_eq name first) e).1 in
      let here = found from content in
      let later = content_named (suc from) others name in
      let Is : Bool → Type 0 =
      λ b. EncodesFound s (either_found b here later) ts (tagged from m) in
      subst Is (sym same) (record { part = m; has = h; is = refl })

  after_first : (rest : Rest g) (first : List ℕ) (others : Variants (Encoding g)) (from : ℕ)
      (stood : Bool) (name : List ℕ) → is_named stood (stands_alone rest) name first ≡ true
      → (ts : List T) (m : Meaning) → After from (before rest first others) stood name ts m
      → (n : Meaning) × EncodesRest s rest ts n
  after_first no_more first others from true name e ts m h = (nothing, (h.2, refl))
  after_first no_more first others from false name e ts m h =
      let bad = (and_parts false (bytes_eq name first) e).0 in absurd (cc bad)
  after_first (more content) first others from true name e ts m h =
      let bad = (and_parts false (bytes_eq name first) e).0 in absurd (cc bad)
  after_first (more content) first others from false name e ts m h =
      let same = (and_parts true (bytes_eq name first) e).1 in
      let here = found from content in
      let later = content_named (suc from) others name in
      let Is : Bool → Type 0 =
      λ b. EncodesFound s (either_found b here later) ts m in
      let k = subst Is same h in (k.part, k.has)

  -- ---- a later one

  later_after : (rest : Rest g) (first : List ℕ) (others : Variants (Encoding g)) (from : ℕ)
      (stood : Bool) (name : List ℕ) → is_named stood (stands_alone rest) name first ≡ false
      → (ts : List T) (m : Meaning) → After (suc from) others stood name ts m
      → After from (before rest first others) stood name ts m
  later_after no_more first others from true name e ts m h =
      let other : bytes_eq name first ≡ false = e in
      let later = unit_named (suc from) others name in
      (h.0, subst (λ b. cond b (Some from) later ≡ Some h.0) (sym other) h.1, h.2, h.3)
  later_after no_more first others from false name e ts m h = h
  later_after (more content) first others from true name e ts m h = h
  later_after (more content) first others from false name e ts m h =
      let other : bytes_eq name first ≡ false = e in
      let here = found from content in
      let later = content_named (suc from) others name in
      subst (λ b. EncodesFound s (either_found b here later) ts m) (sym other) h

  after_later : (rest : Rest g) (first : List ℕ) (others : Variants (Encoding g)) (from : ℕ)
      (stood : Bool) (name : List ℕ) → is_named stood (stands_alone rest) name first ≡ false
      → (ts : List T) (m : Meaning) → After from (before rest first others) stood name ts m
      → After (suc from) others stood name ts m
  after_later no_more first others from true name e ts m h =
      let other : bytes_eq name first ≡ false = e in
      let later = unit_named (suc from) others name in
      (h.0, subst (λ b. cond b (Some from) later ≡ Some h.0) other h.1, h.2, h.3)
  after_later no_more first others from false name e ts m h = h
  after_later (more content) first others from true name e ts m h = h
  after_later (more content) first others from false name e ts m h =
      let other : bytes_eq name first ≡ false = e in
      let here = found from content in
      let later = content_named (suc from) others name in
      subst (λ b. EncodesFound s (either_found b here later) ts m) other h

  -- ---- what is read, and what is rejected

  module _ (rest : Rest g) (first : List ℕ) (others : Variants (Encoding g)) (stood : Bool)
      (name : List ℕ) where
    abbrev All : ℕ → List T → Meaning → Type 0
    All from = After from (before rest first others) stood name

    module _ (named : is_named stood (stands_alone rest) name first ≡ true) where
      pub first_reads : (from : ℕ) (start end : At T) (m : Meaning)
          → Spans cut (EncodesRest s rest) start end m
          → Spans cut (All from) start end (tagged from m)
      first_reads from start end m h =
          (h.0, first_after rest first others from stood name named h.0 m h.1, h.2)

      pub first_encodes : (from : ℕ) → Encodes (All from) (EncodesRest s rest)
      first_encodes from = after_first rest first others from stood name named

    module _ (other : is_named stood (stands_alone rest) name first ≡ false) where
      pub later_reads : (from : ℕ) (start end : At T) (m : Meaning)
          → Spans cut (After (suc from) others stood name) start end m
          → Spans cut (All from) start end m
      later_reads from start end m h =
          (h.0, later_after rest first others from stood name other h.0 m h.1, h.2)

      pub later_encodes : (from : ℕ) → Encodes (All from) (After (suc from) others stood name)
      later_encodes from ts m h = (m, after_later rest first others from stood name other ts m h)

  pub none_named : (from : ℕ) (stood : Bool) (name : List ℕ) (ts : List T) (m : Meaning)
      → After from no_variants stood name ts m → ⊥
  none_named from true name ts m f = let bad = f.1 in absurd (cc bad)
  none_named from false name ts m f = f
