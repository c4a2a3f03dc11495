-- What is proved of VariantCodec.
use Rattle.std.specs.Prelude.{◌≡◌, ℕ, suc, ◌&&◌, ◌||◌, not, Bool, true, false, List, [], ◌∷◌, ◌++◌}
use Rattle.std.specs.Prelude.{Some, bytes_eq, cond, refl}
use Rattle.std.proofs.Common.{sym, ◌∙◌, subst, ap, inl, inr, arith}
use Rattle.std.proofs.lemmas.Bool.{and_parts}
use Rattle.std.proofs.lemmas.Slice.Eq.{bytes_eq-Decides}
use Rattle.nano_value.specs.Meaning.{Meaning, nothing}
use Rattle.nano_meaning.proofs.MeaningLaws.{whole_injective, both_injective}
use Rattle.nano_value.specs.Sums.{LegalFrom, tagged}
use Rattle.nano_meaning.proofs.SumsLaws.{place_above}
use Rattle.nano_grammar.specs.Tokens.{Cutting, IsValueText}
use Rattle.nano_grammar.specs.Codec.{Codec, Grammar, BeginsValue, Encoding, StartsWith}
use Rattle.nano_grammar.proofs.EncodingLaws.{starts_after}
use Rattle.nano_grammar.proofs.FieldReading.{same_name}
use Rattle.nano_grammar.specs.Variants.{VariantStyle, Variants, no_variants, unit_variant, variant}
use Rattle.nano_grammar.specs.Variants.{has_name, names_differ, unit_named, found, either_found}
use Rattle.nano_grammar.specs.Variants.{content_named, sums_of, EncodesFound, EncodesFrom}
use Rattle.nano_grammar.specs.Variants.{EncodesVariant}
use Rattle.nano_grammar.proofs.VariantLaws.{unit_has_name, other_name, content_has_name}
use Rattle.nano_grammar.proofs.VariantLaws.{unit_is_legal, found_is_legal, variants_of}
use Rattle.nano_grammar.proofs.VariantLaws.{first_is_none_after, variants_canonical}
use Rattle.nano_grammar.specs.VariantCodec.{Body, encodings, Seen, tag_of, seen_means, seen_text}
use Rattle.nano_grammar.specs.VariantCodec.{seen_tokens, names_are_good, SoundContent}
use Rattle.nano_grammar.proofs.OptionsLaws.{some_injective}

-- ---- the laws of it

same_place : (j k : ℕ) (m n : Meaning) → tagged j m ≡ tagged k n → j ≡ k
same_place j k m n e = whole_injective j k (both_injective _ _ _ _ e).0

same_content : (j k : ℕ) (m n : Meaning) → tagged j m ≡ tagged k n → m ≡ n
same_content j k m n e = (both_injective _ _ _ _ e).1

-- the tokens begin with these
abbrev pub BeginsWith : {T : Type 0} → List T → List T → Type 0
BeginsWith {T} prefix ts = (more : List T) × (ts ≡ prefix ++ more)

prefix_starts : {T : Type 0} (g : Grammar T) (t : T) (ts more : List T) → BeginsValue g ts
    → StartsWith t (ts ++ more) → StartsWith t ts
prefix_starts g t [] more h e = absurd h
prefix_starts g t (u ∷ us) more h e = e

module _ {T : Type 0} {c : Cutting T} {g : Grammar T} {s : VariantStyle c g} where
  -- the names are those of the encodings of the contents
  encoded_names : (vs : Variants (Body s)) (name : List ℕ)
      → has_name (encodings vs) name ≡ has_name vs name
  encoded_names no_variants name = refl
  encoded_names (unit_variant first others) name =
      ap (λ b. bytes_eq name first || b) (encoded_names others name)
  encoded_names (variant first content others) name =
      ap (λ b. bytes_eq name first || b) (encoded_names others name)

  encoded_differ : (vs : Variants (Body s)) → names_differ (encodings vs) ≡ names_differ vs
  encoded_differ no_variants = refl
  encoded_differ (unit_variant name others) =
      λ i. not (encoded_names others name i) && encoded_differ others i
  encoded_differ (variant name content others) =
      λ i. not (encoded_names others name i) && encoded_differ others i

  pub names_are_two : (vs : Variants (Body s)) → names_differ vs ≡ true
      → names_differ (encodings vs) ≡ true
  names_are_two vs differ = encoded_differ vs ∙ differ

  -- no variant after the first has its place
  none_after : (from : ℕ) (vs : Variants (Body s)) (m : Meaning)
      → LegalFrom (suc from) (sums_of (encodings vs)) (tagged from m) → ⊥
  none_after from vs m h =
      let above = place_above (sums_of (encodings vs)) (suc from) from m h in
      omega (arith, above)

  -- ---- what is written is cut into its tokens

  abbrev IsWritten : (vs : Variants (Body s)) → Seen vs → ℕ → Type 0
  IsWritten vs x d = IsValueText c (seen_tokens vs x) (seen_text vs d x)

  are_written : (tag : ℕ) (vs : Variants (Body s)) → names_are_good vs ≡ true → (x : Seen vs)
      → LegalFrom tag (sums_of (encodings vs)) (seen_means tag vs x) → (d : ℕ) → IsWritten vs x d
  are_written tag no_variants good x legal d = absurd x
  are_written tag (unit_variant name others) good (inl x) legal d =
      s.alone_is_written name (and_parts (s.is_name name) (names_are_good others) good).0
  are_written tag (unit_variant name others) good (inr x) (inl h) d =
      absurd (first_is_none_after tag others x (sym (same_place _ _ _ _ h.is)))
  are_written tag (unit_variant name others) good (inr x) (inr h) d =
      let parts = and_parts (s.is_name name) (names_are_good others) good in
      are_written (suc tag) others parts.1 x h d
  are_written tag (variant name content others) good (inl x) (inl h) d =
      let codec = content.codec in
      let legal = subst codec.encoding.legal (sym (same_content _ _ _ _ h.is)) h.has in
      let is = (and_parts (s.is_name name) (names_are_good others) good).0 in
      let text = codec.is_written x legal d in
      s.content_is_written name (codec.canonical.tokens x) (codec.canonical.text d x) is
      (content.fits x d) text
  are_written tag (variant name content others) good (inl x) (inr h) d =
      absurd (none_after tag others (content.codec.canonical.means x) h)
  are_written tag (variant name content others) good (inr x) (inl h) d =
      absurd (first_is_none_after tag others x (sym (same_place _ _ _ _ h.is)))
  are_written tag (variant name content others) good (inr x) (inr h) d =
      let parts = and_parts (s.is_name name) (names_are_good others) good in
      are_written (suc tag) others parts.1 x h d

  pub variants_are_written : (vs : Variants (Body s)) → names_are_good vs ≡ true → (x : Seen vs)
      → LegalFrom 0 (sums_of (encodings vs)) (seen_means 0 vs x) → (d : ℕ) → IsWritten vs x d
  variants_are_written = are_written 0

  -- ---- what is written encodes the meaning

  module _ (from : ℕ) (first : List ℕ) (others : Variants (Body s)) (ts : List T) (m : Meaning)
      (new : not (has_name others first) ≡ true) where
    is_new : not (has_name (encodings others) first) ≡ true
    is_new = ap not (encoded_names others first) ∙ new

    -- what the variants after the first encode, they all encode
    after_unit : EncodesFrom s (suc from) (encodings others) ts m
        → EncodesFrom s from (unit_variant first (encodings others)) ts m
    after_unit (inl h) =
        let has = unit_has_name (suc from) (encodings others) h.name h.tag h.has in
        let other = other_name (encodings others) h.name first has is_new in
        inl (record { name = h.name; tag = h.tag; has = rw other h.has; one = h.one; is = h.is })
    after_unit (inr h) =
        inr (record { name = h.name; back = h.back; are = h.are; content = h.content })

    after_variant : (content : Encoding g) → EncodesFrom s (suc from) (encodings others) ts m
        → EncodesFrom s from (variant first content (encodings others)) ts m
    after_variant content (inl h) =
        inl (record { name = h.name; tag = h.tag; has = h.has; one = h.one; is = h.is })
    after_variant content (inr h) =
        let has = content_has_name s (suc from) (encodings others) h.name h.back m h.content in
        let other = other_name (encodings others) h.name first has is_new in
        inr (record { name = h.name; back = h.back; are = h.are; content = rw other h.content })

  read_back : (from : ℕ) (vs : Variants (Body s)) → names_differ vs ≡ true → (x : Seen vs)
      → LegalFrom from (sums_of (encodings vs)) (seen_means from vs x) → SoundContent vs x
      → EncodesFrom s from (encodings vs) (seen_tokens vs x) (seen_means from vs x)
  read_back from no_variants differ x legal sound = absurd x
  read_back from (unit_variant name others) differ (inl x) legal sound =
      inl (record {
        name = name;
        tag = from;
        has = rw (same_name name) refl;
        one = refl;
        is = refl;
      })
  read_back from (unit_variant name others) differ (inr x) (inl h) sound =
      absurd (first_is_none_after from others x (sym (same_place _ _ _ _ h.is)))
  read_back from (unit_variant name others) differ (inr x) (inr h) sound =
      let parts = and_parts (not (has_name others name)) (names_differ others) differ in
      after_unit from name others _ _ parts.0 (read_back (suc from) others parts.1 x h sound)
  read_back from (variant name content others) differ (inl x) (inl h) sound =
      let codec = content.codec in
      let legal = subst codec.encoding.legal (sym (same_content _ _ _ _ h.is)) h.has in
      let encodes = codec.reads_back x legal sound in
      inr (record {
        name = name;
        back = codec.canonical.tokens x ++ s.closing;
        are = refl;
        content = rw (same_name name) (record {
          part = codec.canonical.means x;
          has = (codec.canonical.tokens x, refl, encodes);
          is = refl;
        });
      })
  read_back from (variant name content others) differ (inl x) (inr h) sound =
      absurd (none_after from others (content.codec.canonical.means x) h)
  read_back from (variant name content others) differ (inr x) (inl h) sound =
      absurd (first_is_none_after from others x (sym (same_place _ _ _ _ h.is)))
  read_back from (variant name content others) differ (inr x) (inr h) sound =
      let parts = and_parts (not (has_name others name)) (names_differ others) differ in
      after_variant from name others _ _ parts.0 content.codec.encoding
      (read_back (suc from) others parts.1 x h sound)

  pub variants_read_back : (vs : Variants (Body s)) → names_differ vs ≡ true → (x : Seen vs)
      → LegalFrom 0 (sums_of (encodings vs)) (seen_means 0 vs x) → SoundContent vs x
      → EncodesVariant s (encodings vs) (seen_tokens vs x) (seen_means 0 vs x)
  variants_read_back = read_back 0

  -- ---- what is encoded is of the value's variant

  -- a variant without content that has the place of a value is the value's
  unit_is_that : (from : ℕ) (vs : Variants (Body s)) (x : Seen vs) (name : List ℕ)
      → unit_named from (encodings vs) name ≡ Some (tag_of from vs x)
      → SoundContent vs x × (seen_tokens vs x ≡ s.alone name)
  unit_is_that from no_variants x name e = absurd x
  unit_is_that from (unit_variant first others) (inl x) name e =
      let rest = unit_named (suc from) (encodings others) name in
      let That = Unit {0} × (s.alone first ≡ s.alone name) in
      let Shown : Bool → Type 0 =
      λ b. bytes_eq name first ≡ b → cond b (Some from) rest ≡ Some from → That in
      elim (bytes_eq name first) as Shown [
        | true ↦ λ same e. (tt, ap s.alone (sym ((bytes_eq-Decides name first).0 same)))
        | false ↦ λ same e.
            let legal = unit_is_legal s (suc from) (encodings others) name from e in
            absurd (none_after from others nothing legal)
      ] refl e
  unit_is_that from (unit_variant first others) (inr x) name e =
      let rest = unit_named (suc from) (encodings others) name in
      let That = SoundContent others x × (seen_tokens others x ≡ s.alone name) in
      let Shown : Bool → Type 0 =
      λ b. cond b (Some from) rest ≡ Some (tag_of (suc from) others x) → That in
      elim (bytes_eq name first) as Shown [
        | true ↦ λ e. absurd (first_is_none_after from others x (some_injective _ _ e))
        | false ↦ λ e. unit_is_that (suc from) others x name e
      ] e
  unit_is_that from (variant first content others) (inl x) name e =
      let legal = unit_is_legal s (suc from) (encodings others) name from e in
      absurd (none_after from others nothing legal)
  unit_is_that from (variant first content others) (inr x) name e =
      unit_is_that (suc from) others x name e

  -- a variant with content that has the place of a value is the value's
  content_is_that : (from : ℕ) (vs : Variants (Body s)) (x : Seen vs) (name : List ℕ) (ts : List T)
      → EncodesFound s (content_named from (encodings vs) name) ts (seen_means from vs x)
      → SoundContent vs x × BeginsWith (s.opened name) (seen_tokens vs x)
  content_is_that from no_variants x name ts h = absurd x
  content_is_that from (unit_variant first others) (inl x) name ts h =
      let legal = found_is_legal s (suc from) (encodings others) name ts _ h in
      absurd (none_after from others nothing legal)
  content_is_that from (unit_variant first others) (inr x) name ts h =
      content_is_that (suc from) others x name ts h
  content_is_that from (variant first content others) (inl x) name ts h =
      let codec = content.codec in
      let m = tagged from (codec.canonical.means x) in
      let rest = content_named (suc from) (encodings others) name in
      let following = codec.canonical.tokens x ++ s.closing in
      let That = codec.sound x × BeginsWith (s.opened name) (s.opened first ++ following) in
      let this = found from codec.encoding in
      let Shown : Bool → Type 0 =
      λ b. bytes_eq name first ≡ b → EncodesFound s (either_found b this rest) ts m → That in
      elim (bytes_eq name first) as Shown [
        | true ↦ λ same h.
            let content = sym (same_content _ _ _ _ h.is) in
            let encodes = subst (codec.encoding.encodes h.has.0) content h.has.2 in
            let names = sym ((bytes_eq-Decides name first).0 same) in
            let begins = ap (λ n. s.opened n ++ following) names in
            (codec.encoded_is_sound x h.has.0 encodes, (following, begins))
        | false ↦ λ same h.
            let legal = found_is_legal s (suc from) (encodings others) name ts m h in
            absurd (none_after from others (codec.canonical.means x) legal)
      ] refl h
  content_is_that from (variant first content others) (inr x) name ts h =
      let m = seen_means (suc from) others x in
      let rest = content_named (suc from) (encodings others) name in
      let That = SoundContent others x × BeginsWith (s.opened name) (seen_tokens others x) in
      let this = found from content.codec.encoding in
      let Shown : Bool → Type 0 = λ b. EncodesFound s (either_found b this rest) ts m → That in
      elim (bytes_eq name first) as Shown [
        | true ↦ λ h. absurd (first_is_none_after from others x (sym (same_place _ _ _ _ h.is)))
        | false ↦ λ h. content_is_that (suc from) others x name ts h
      ] h

  -- what is encoded is sound
  pub variant_is_sound : (vs : Variants (Body s)) (x : Seen vs) (ts : List T)
      → EncodesVariant s (encodings vs) ts (seen_means 0 vs x) → SoundContent vs x
  variant_is_sound vs x ts (inl h) =
      let place = ap Some (sym (same_place _ _ _ _ h.is)) in
      (unit_is_that 0 vs x h.name (h.has ∙ place)).0
  variant_is_sound vs x ts (inr h) = (content_is_that 0 vs x h.name h.back h.content).0

  pub variant_null_alone : (vs : Variants (Body s)) (x : Seen vs) (ts : List T)
      → StartsWith g.none (seen_tokens vs x)
      → EncodesVariant s (encodings vs) ts (seen_means 0 vs x) → StartsWith g.none ts
  variant_null_alone vs x ts e (inl h) =
      let place = ap Some (sym (same_place _ _ _ _ h.is)) in
      let that = (unit_is_that 0 vs x h.name (h.has ∙ place)).1 in
      subst (StartsWith g.none) (that ∙ sym h.one) e
  variant_null_alone vs x ts e (inr h) =
      let that = (content_is_that 0 vs x h.name h.back h.content).1 in
      let prefix =
      prefix_starts g g.none (s.opened h.name) that.0 (s.opened_begins h.name)
      (subst (StartsWith g.none) that.1 e) in
      subst (StartsWith g.none) (sym h.are) (starts_after g.none (s.opened h.name) h.back prefix)

  -- the variants of an enum, by the formats of their contents. Each name has to be one that can be
  -- written, and two variants have two names: both are shown by `refl`
  abbrev pub variants_codec : (vs : Variants (Body s)) → names_are_good vs ≡ true
      → names_differ vs ≡ true → Codec c g (Seen vs)
  variants_codec vs good differ = record {
    canonical = variants_canonical vs;
    encoding = variants_of s (encodings vs) (names_are_two vs differ);
    is_written = variants_are_written vs good;
    sound = SoundContent vs;
    reads_back = variants_read_back vs differ;
    encoded_is_sound = variant_is_sound vs;
    null_alone = variant_null_alone vs;
  }
