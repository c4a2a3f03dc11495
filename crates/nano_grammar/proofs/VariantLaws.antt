-- The laws of enums, from those of the encodings of their contents.
use Rattle.std.specs.Prelude.{◌≡◌, ℕ, suc, ◌||◌, not, Bool, true, false, List, [], ◌∷◌, ◌++◌, Some}
use Rattle.std.specs.Prelude.{bytes_eq, cond, refl, ◌≤◌}
use Rattle.std.proofs.Common.{sym, ◌∙◌, subst, ap, inl, inr, append_assoc, append-nil, arith}
use Rattle.std.proofs.lemmas.Bool.{and_parts, or_right}
use Rattle.std.proofs.lemmas.Slice.Eq.{bytes_eq-Decides}
use Rattle.nano_value.specs.Meaning.{Meaning, nothing}
use Rattle.nano_value.specs.Sums.{LegalFrom, tagged}
use Rattle.nano_grammar.specs.Tokens.{Cutting}
use Rattle.nano_grammar.proofs.ItemLaws.{same_prefix}
use Rattle.nano_grammar.specs.Codec.{Grammar, BeginsValue, IsEncoding, Encoding, Canonical}
use Rattle.nano_grammar.proofs.EncodingLaws.{begins_append}
use Rattle.nano_grammar.specs.Variants.{VariantStyle, Variants, no_variants, unit_variant, variant}
use Rattle.nano_grammar.specs.Variants.{has_name, names_differ, unit_named, Found, nobody, found}
use Rattle.nano_grammar.specs.Variants.{either_found, content_named, sums_of, LegalEncoded, Closed}
use Rattle.nano_grammar.specs.Variants.{EncodesFound, NameAlone, NameAndContent, EncodesVariant}
use Rattle.nano_grammar.proofs.OptionsLaws.{some_injective}
use Rattle.nano_meaning.proofs.MeaningLaws.{whole_injective, both_injective}
use Rattle.nano_grammar.specs.VariantCodec.{Body, Seen, tag_of, content_of, seen_means, seen_text}
use Rattle.nano_grammar.specs.VariantCodec.{seen_tokens}

-- ---- names

module _ {C : Type 1} where
  pub unit_has_name : (from : ℕ) (vs : Variants C) (name : List ℕ) (tag : ℕ)
      → unit_named from vs name ≡ Some tag → has_name vs name ≡ true
  unit_has_name from no_variants name tag e = absurd (cc e)
  unit_has_name from (variant first content others) name tag e =
      or_right (bytes_eq name first) (has_name others name)
      (unit_has_name (suc from) others name tag e)
  unit_has_name from (unit_variant first others) name tag e =
      let rest = unit_named (suc from) others name in
      let Shown : Bool → Type 0 =
      λ b. cond b (Some from) rest ≡ Some tag → b || has_name others name ≡ true in
      elim (bytes_eq name first) as Shown [
        | true ↦ λ e. refl
        | false ↦ λ e. unit_has_name (suc from) others name tag e
      ] e

  -- a name that one of them has is another than one that none has
  pub other_name : (vs : Variants C) (name first : List ℕ) → has_name vs name ≡ true
      → not (has_name vs first) ≡ true → bytes_eq name first ≡ false
  other_name vs name first h n =
      elim (bytes_eq name first) as (λ b. (b ≡ true → name ≡ first) → b ≡ false) [
        | true ↦ λ same.
            let taken = sym (ap (has_name vs) (same refl)) ∙ h in
            let none = sym (ap not taken) ∙ n in absurd (cc none)
        | false ↦ λ same. refl
      ] (bytes_eq-Decides name first).0

  same_as_first : (vs : Variants C) (name first : List ℕ) → has_name vs name ≡ true
      → not (has_name vs first) ≡ true → bytes_eq name first ≡ true → ⊥
  same_as_first vs name first h n e = let x = sym e ∙ other_name vs name first h n in absurd (cc x)

module _ {T : Type 0} {c : Cutting T} {g : Grammar T} (s : VariantStyle c g) where
  pub content_has_name : (from : ℕ) (vs : Variants (Encoding g)) (name : List ℕ) (ts : List T)
      (m : Meaning) → EncodesFound s (content_named from vs name) ts m → has_name vs name ≡ true
  content_has_name from no_variants name ts m h = absurd h
  content_has_name from (unit_variant first others) name ts m h =
      or_right (bytes_eq name first) (has_name others name)
      (content_has_name (suc from) others name ts m h)
  content_has_name from (variant first content others) name ts m h =
      let rest = content_named (suc from) others name in
      let this = found from content in
      let Shown : Bool → Type 0 =
      λ b. EncodesFound s (either_found b this rest) ts m → b || has_name others name ≡ true in
      elim (bytes_eq name first) as Shown [
        | true ↦ λ h. refl
        | false ↦ λ h. content_has_name (suc from) others name ts m h
      ] h

  -- where names differ, a name is that of a variant without content or of one with content
  one_kind : (from : ℕ) (vs : Variants (Encoding g)) → names_differ vs ≡ true → (name : List ℕ)
      (tag : ℕ) (ts : List T) (m : Meaning) → unit_named from vs name ≡ Some tag
      → EncodesFound s (content_named from vs name) ts m → ⊥
  one_kind from no_variants differ name tag ts m h k = k
  one_kind from (unit_variant first others) differ name tag ts m h k =
      let parts = and_parts (not (has_name others first)) (names_differ others) differ in
      let rest = unit_named (suc from) others name in
      let Shown : Bool → Type 0 =
      λ b. bytes_eq name first ≡ b → cond b (Some from) rest ≡ Some tag → ⊥ in
      elim (bytes_eq name first) as Shown [
        | true ↦ λ e h.
            let has = content_has_name (suc from) others name ts m k in
            same_as_first others name first has parts.0 e
        | false ↦ λ e h. one_kind (suc from) others parts.1 name tag ts m h k
      ] refl h
  one_kind from (variant first content others) differ name tag ts m h k =
      let parts = and_parts (not (has_name others first)) (names_differ others) differ in
      let rest = content_named (suc from) others name in
      let this = found from content in
      let Shown : Bool → Type 0 =
      λ b. bytes_eq name first ≡ b → EncodesFound s (either_found b this rest) ts m → ⊥ in
      elim (bytes_eq name first) as Shown [
        | true ↦ λ e k.
            let has = unit_has_name (suc from) others name tag h in
            same_as_first others name first has parts.0 e
        | false ↦ λ e k. one_kind (suc from) others parts.1 name tag ts m h k
      ] refl k

  -- ---- encodings of which one goes on from another

  -- contents that one goes on from are the same
  closed_same : (sp : Encoding g) (a b more : List T) (m n : Meaning) → Closed s sp.encodes a m
      → Closed s sp.encodes b n → a ++ more ≡ b → (more ≡ []) × (m ≡ n)
  closed_same sp a b more m n h k e =
      let whole : h.0 ++ (s.closing ++ more) ≡ k.0 ++ s.closing =
      sym (append_assoc h.0 s.closing more)
      ∙ (ap (λ (l : List T). l ++ more) (sym h.1) ∙ (e ∙ k.1)) in
      let none = sp.laws.none_begins in
      let same =
      same_prefix sp.encodes none h.0 (s.closing ++ more) k.0 s.closing m n h.2 k.2 whole in (
        nothing_after s.closing more same.1,
        sp.laws.one_value k.0 m n (subst (λ (l : List T). sp.encodes l m) same.0 h.2) k.2,
      ) where
        nothing_after : (a more : List T) → a ++ more ≡ a → more ≡ []
        nothing_after [] more e = e
        nothing_after (t ∷ a) more e =
            let rest : a ++ more ≡ a = cc e in nothing_after a more rest

  found_same : (f : Found (Encoding g)) (a b more : List T) (m n : Meaning)
      → EncodesFound s f a m → EncodesFound s f b n → a ++ more ≡ b → (more ≡ []) × (m ≡ n)
  found_same nobody a b more m n h k e = absurd h
  found_same (found tag sp) a b more m n h k e =
      let same = closed_same sp a b more h.part k.part h.has k.has e in
      (same.0, h.is ∙ (ap (tagged tag) same.1 ∙ sym k.is))

  module _ (vs : Variants (Encoding g)) (differ : names_differ vs ≡ true) where
    alone_same : (a b more : List T) (m n : Meaning) → NameAlone s 0 vs a m → NameAlone s 0 vs b n
        → a ++ more ≡ b → (more ≡ []) × (m ≡ n)
    alone_same a b more m n h k e =
        let whole : s.alone h.name ++ more ≡ s.alone k.name ++ [] =
        ap (λ (l : List T). l ++ more) (sym h.one) ∙ (e ∙ (k.one ∙ sym (append-nil _))) in
        let same = s.alone_meets h.name k.name more [] whole in
        let has = sym h.has ∙ (ap (unit_named 0 vs) same.0 ∙ k.has) in
        let tag = some_injective h.tag k.tag has in
        (same.1, h.is ∙ (ap (λ j. tagged j nothing) tag ∙ sym k.is))

    content_same : (a b more : List T) (m n : Meaning) → NameAndContent s 0 vs a m
        → NameAndContent s 0 vs b n → a ++ more ≡ b → (more ≡ []) × (m ≡ n)
    content_same a b more m n h k e =
        let whole : s.opened h.name ++ (h.back ++ more) ≡ s.opened k.name ++ k.back =
        sym (append_assoc (s.opened h.name) h.back more)
        ∙ (ap (λ (l : List T). l ++ more) (sym h.are) ∙ (e ∙ k.are)) in
        let same = s.opened_meets h.name k.name (h.back ++ more) k.back whole in
        let first = subst (λ x. EncodesFound s (content_named 0 vs x) h.back m) same.0 h.content in
        found_same (content_named 0 vs k.name) h.back k.back more m n first k.content same.1

    -- a name alone is no beginning of a name with content, nor the other way round
    two_kinds : (a b : List ℕ) (tag : ℕ) (back x : List T) (m : Meaning)
        → unit_named 0 vs a ≡ Some tag → EncodesFound s (content_named 0 vs b) back m
        → (y : List T) → s.alone a ++ x ≡ s.opened b ++ y → ⊥
    two_kinds a b tag back x m h k y e =
        let name = s.apart a b x y e in
        let has = sym (ap (unit_named 0 vs) name) ∙ h in
        one_kind 0 vs differ b tag back m has k

    -- of two encodings of which one goes on from the other, both are the same and mean the
    -- same
    variant_same : (a b more : List T) (m n : Meaning) → EncodesVariant s vs a m
        → EncodesVariant s vs b n → a ++ more ≡ b → (more ≡ []) × (m ≡ n)
    variant_same a b more m n (inl h) (inl k) e = alone_same a b more m n h k e
    variant_same a b more m n (inl h) (inr k) e =
        let whole = ap (λ (l : List T). l ++ more) (sym h.one) ∙ (e ∙ k.are) in
        absurd (two_kinds h.name k.name h.tag k.back more n h.has k.content k.back whole)
    variant_same a b more m n (inr h) (inl k) e =
        let whole =
        append-nil (s.alone k.name) ∙ (sym k.one ∙ (sym e
        ∙ (ap (λ (l : List T). l ++ more) h.are
        ∙ append_assoc (s.opened h.name) h.back more))) in
        absurd (two_kinds k.name h.name k.tag h.back [] m k.has h.content (h.back ++ more) whole)
    variant_same a b more m n (inr h) (inr k) e = content_same a b more m n h k e

  variant_begins : (vs : Variants (Encoding g)) (ts : List T) (m : Meaning)
      → EncodesVariant s vs ts m → BeginsValue g ts
  variant_begins vs ts m (inl h) = subst (BeginsValue g) (sym h.one) (s.alone_begins h.name)
  variant_begins vs ts m (inr h) =
      subst (BeginsValue g) (sym h.are)
      (begins_append g (s.opened h.name) h.back (s.opened_begins h.name))

  -- ---- the variant that has a name is one of them

  pub unit_is_legal : (from : ℕ) (vs : Variants (Encoding g)) (name : List ℕ) (tag : ℕ)
      → unit_named from vs name ≡ Some tag → LegalFrom from (sums_of vs) (tagged tag nothing)
  unit_is_legal from no_variants name tag e = absurd (cc e)
  unit_is_legal from (variant first content others) name tag e =
      inr (unit_is_legal (suc from) others name tag e)
  unit_is_legal from (unit_variant first others) name tag e =
      let rest = unit_named (suc from) others name in
      let Legal = LegalFrom from (sums_of (unit_variant first others)) (tagged tag nothing) in
      elim (bytes_eq name first) as (λ b. cond b (Some from) rest ≡ Some tag → Legal) [
        | true ↦ λ e.
            let place = sym (some_injective from tag e) in
            inl (record { part = nothing; has = refl; is = ap (λ j. tagged j nothing) place })
        | false ↦ λ e. inr (unit_is_legal (suc from) others name tag e)
      ] e

  pub found_is_legal : (from : ℕ) (vs : Variants (Encoding g)) (name : List ℕ) (ts : List T)
      (m : Meaning) → EncodesFound s (content_named from vs name) ts m
      → LegalFrom from (sums_of vs) m
  found_is_legal from no_variants name ts m h = absurd h
  found_is_legal from (unit_variant first others) name ts m h =
      inr (found_is_legal (suc from) others name ts m h)
  found_is_legal from (variant first content others) name ts m h =
      let rest = content_named (suc from) others name in
      let Legal = LegalFrom from (sums_of (variant first content others)) m in
      let Shown : Bool → Type 0 =
      λ b. EncodesFound s (either_found b (found from content) rest) ts m → Legal in
      elim (bytes_eq name first) as Shown [
        | true ↦ λ h. inl (record {
          part = h.part;
          has = content.laws.is_legal h.has.0 h.part h.has.2;
          is = h.is;
        })
        | false ↦ λ h. inr (found_is_legal (suc from) others name ts m h)
      ] h

  variant_is_legal : (vs : Variants (Encoding g)) (ts : List T) (m : Meaning)
      → EncodesVariant s vs ts m → LegalEncoded vs m
  variant_is_legal vs ts m (inl h) =
      subst (LegalEncoded vs) (sym h.is) (unit_is_legal 0 vs h.name h.tag h.has)
  variant_is_legal vs ts m (inr h) = found_is_legal 0 vs h.name h.back m h.content

  pub variant_encoding : (vs : Variants (Encoding g)) → names_differ vs ≡ true
      → IsEncoding g (LegalEncoded vs) (EncodesVariant s vs)
  variant_encoding vs differ = record {
    is_legal = variant_is_legal vs;
    one_value = λ ts m n h k. (variant_same vs differ ts ts [] m n h k (append-nil ts)).1;
    none_begins = λ ts more m n h k. (variant_same vs differ ts (ts ++ more) more m n h k refl).0;
    begins = variant_begins vs;
  }

  -- the variants of an enum, by how their contents are encoded
  abbrev pub variants_of : (vs : Variants (Encoding g)) → names_differ vs ≡ true → Encoding g
  variants_of vs differ = record {
    legal = LegalEncoded vs;
    encodes = EncodesVariant s vs;
    laws = variant_encoding vs differ;
  }

-- ==== how variants are written

module _ {T : Type 0} {c : Cutting T} {g : Grammar T} {s : VariantStyle c g} where
  -- ---- the laws of it

  -- places are counted upwards
  tag_from : (tag : ℕ) (vs : Variants (Body s)) (x : Seen vs) → tag ≤ tag_of tag vs x
  tag_from tag no_variants x = absurd x
  tag_from tag (unit_variant name others) (inl x) = omega arith
  tag_from tag (unit_variant name others) (inr x) =
      let h = tag_from (suc tag) others x in omega (arith, h)
  tag_from tag (variant name content others) (inl x) = omega arith
  tag_from tag (variant name content others) (inr x) =
      let h = tag_from (suc tag) others x in omega (arith, h)

  -- a variant is none of those after it
  pub first_is_none_after : (tag : ℕ) (vs : Variants (Body s)) (x : Seen vs)
      → tag ≡ tag_of (suc tag) vs x → ⊥
  first_is_none_after tag vs x e = let h = tag_from (suc tag) vs x in omega (arith, h, e)

  same_variant : (tag : ℕ) (vs : Variants (Body s)) → (x y : Seen vs)
      → tag_of tag vs x ≡ tag_of tag vs y → content_of vs x ≡ content_of vs y → (d : ℕ)
      → seen_text vs d x ≡ seen_text vs d y
  same_variant tag no_variants x y e f d = absurd x
  same_variant tag (unit_variant name others) (inl x) (inl y) e f d = refl
  same_variant tag (unit_variant name others) (inl x) (inr y) e f d =
      absurd (first_is_none_after tag others y e)
  same_variant tag (unit_variant name others) (inr x) (inl y) e f d =
      absurd (first_is_none_after tag others x (sym e))
  same_variant tag (unit_variant name others) (inr x) (inr y) e f d =
      same_variant (suc tag) others x y e f d
  same_variant tag (variant name content others) (inl x) (inl y) e f d =
      ap (s.content_text name) (content.codec.canonical.same_text x y f d)
  same_variant tag (variant name content others) (inl x) (inr y) e f d =
      absurd (first_is_none_after tag others y e)
  same_variant tag (variant name content others) (inr x) (inl y) e f d =
      absurd (first_is_none_after tag others x (sym e))
  same_variant tag (variant name content others) (inr x) (inr y) e f d =
      same_variant (suc tag) others x y e f d

  pub variants_same : (vs : Variants (Body s)) (x y : Seen vs)
      → seen_means 0 vs x ≡ seen_means 0 vs y → (d : ℕ) → seen_text vs d x ≡ seen_text vs d y
  variants_same vs x y e d =
      let same = both_injective _ _ _ _ e in
      same_variant 0 vs x y (whole_injective _ _ same.0) same.1 d

  -- the variants of an enum, by how their contents are written
  abbrev pub variants_canonical : (vs : Variants (Body s)) → Canonical c (Seen vs)
  variants_canonical vs = record {
    means = seen_means 0 vs;
    text = seen_text vs;
    tokens = seen_tokens vs;
    same_text = variants_same vs;
  }
