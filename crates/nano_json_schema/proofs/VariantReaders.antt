-- What a reader of an enum answers, from what the readers of the name and of the content answer.
use Rattle.std.proofs.Common.{◌≡◌, ℕ, List, [], ◌∷◌, ◌++◌, inl, inr, None, sym, ◌∙◌, ap, subst, Bool}
use Rattle.std.proofs.Common.{Some, string_bytes, refl, true, false, append_assoc}
use Rattle.nano_value.specs.Meaning.{Meaning}
use Rattle.nano_grammar.specs.Tokens.{At, Leaves, Spans}
use Rattle.nano_grammar.proofs.TokensLaws.{leaves_split, meets, leaves_append}
use Rattle.nano_grammar.proofs.FaultLaws.{LeadsTo, first_token}
use Rattle.nano_grammar.specs.Variants.{Variants, unit_named, content_named, nobody, found}
use Rattle.nano_grammar.specs.Variants.{EncodesFound, EncodesVariant}
use Rattle.nano_json_tokens.specs.Cut.{Cut}
use Rattle.nano_json_tokens.proofs.ScalarsLaws.{str_injective}
use Rattle.nano_json_tokens.specs.Token.{Token, str, curly_open}
use Rattle.nano_json_tokens.proofs.Cuts.{cut_one_way}
use Rattle.nano_json.specs.Codec.{Encoding}
use Rattle.nano_json_schema.specs.VariantCodecs.{json_variants}
use Rattle.nano_json_schema.specs.Variants.{alone, opened, is_alone, bytes_of}
use Rattle.nano_json_schema.specs.Reading.{Closed, VariantBegins, name_tokens}
use Rattle.nano_json_schema.specs.declared.variants.VariantName.{VariantName}
use Rattle.nano_json_schema.specs.declared.variants.VariantName.TheVariants.{Unit as Alone}
use Rattle.nano_json_schema.specs.declared.variants.VariantName.TheVariants.{Content as Opened}
use Rattle.nano_grammar.specs.Choices.{EncodesAfter}

-- ---- tokens that a value begins with

opened_names : (a b : List ℕ) (more : List Token) → opened a ≡ opened b ++ more
    → (a ≡ b) × (more ≡ [])
opened_names a b more e = (cc e, cc e)

module _ (start : At Token) where
  -- after what opens a content, the rest of a value is left
  pub after_opened : (a b : List ℕ) (back : List Token) (mid end : At Token)
      → Leaves Cut (opened a) start mid → Leaves Cut (opened b ++ back) start end
      → (b ≡ a) × Leaves Cut back mid end
  after_opened a b back mid end h k =
      let r = leaves_split Cut (opened b) back start end k in
      elim (meets Cut cut_one_way (opened a) (opened b) start mid r.0 h r.1) [
        | inl m ↦
            let same = opened_names b a m.0 m.1 in
            let here : mid ≡ r.0 = subst (λ (l : List Token). Leaves Cut l mid r.0) same.1 m.2 in
            (same.0, subst (λ (z : At Token). Leaves Cut back z end) (sym here) r.2)
        | inr m ↦
            let same = opened_names a b m.0 m.1 in
            let here : r.0 ≡ mid = subst (λ (l : List Token). Leaves Cut l r.0 mid) same.1 m.2 in
            (sym same.0, subst (λ (z : At Token). Leaves Cut back z end) here r.2)
      ]

-- ==== readers of a choice of variants

-- what is encoded after a name that was taken
abbrev pub After : ℕ → Variants Encoding → Bool → List ℕ → List Token → Meaning → Type 0
After = EncodesAfter json_variants

pub choice_reads : (vs : Variants Encoding) (name : VariantName) (start mid end : At Token)
    (m : Meaning) → Leaves Cut (name_tokens name) start mid
    → Spans Cut (After 0 vs (is_alone name) (bytes_of name)) mid end m
    → Spans Cut (EncodesVariant json_variants vs) start end m
choice_reads vs (Alone name) start mid end m l h =
    let bytes = string_bytes name in
    let here : mid ≡ end = subst (λ (us : List Token). Leaves Cut us mid end) h.1.2 h.2 in
    let taken = subst (λ (z : At Token). Leaves Cut (alone bytes) start z) here l in (
      alone bytes,
      inl (record { name = bytes; tag = h.1.0; has = h.1.1; one = refl; is = h.1.3 }),
      taken,
    )
choice_reads vs (Opened name) start mid end m l h =
    let bytes = string_bytes name in (
      opened bytes ++ h.0,
      inr (record { name = bytes; back = h.0; are = refl; content = h.1 }),
      leaves_append Cut (opened bytes) h.0 start mid end l h.2,
    )

module _ (vs : Variants Encoding) where
  abbrev pub Encoded : List Token → Meaning → Type 0
  Encoded = EncodesVariant json_variants vs

  -- a variant begins with its name
  pub name_leads : (pending : Token) → LeadsTo Encoded VariantBegins [] pending
  name_leads pending us more rest next m (inl h) is = (us, h.name, next, more, inl h.one, is)
  name_leads pending us more rest next m (inr h) is =
      let f = first_token h.back next more in
      let joined = append_assoc (opened h.name) h.back (next ∷ more) in
      let whole = sym joined ∙ (ap (λ (xs : List Token). xs ++ next ∷ more) (sym h.are) ∙ is) in
      (opened h.name, h.name, f.0, f.1, inr refl, ap (λ (xs : List Token). opened h.name ++ xs) (sym f.2) ∙ whole)

  -- after its name comes its content, if it has one
  pub alone_leads : (name : List ℕ) (pending : Token) → LeadsTo Encoded (After 0 vs true name) (alone name) pending
  alone_leads name pending us more rest next m (inl h) is =
      let whole = ap (λ (xs : List Token). xs ++ next ∷ more) (sym h.one) ∙ is in
      let first : str h.name ≡ str name = cc whole in
      let left : next ∷ more ≡ pending ∷ rest = cc whole in
      let same = str_injective h.name name first in
      ([], m, next, more, (h.tag, subst (λ (n : List ℕ). unit_named 0 vs n ≡ Some h.tag) same h.has, refl, h.is), left)
  alone_leads name pending us more rest next m (inr h) is =
      let joined = append_assoc (opened h.name) h.back (next ∷ more) in
      let whole = sym joined ∙ (ap (λ (xs : List Token). xs ++ next ∷ more) (sym h.are) ∙ is) in
      let both : curly_open ≡ str name = cc whole in
      absurd (cc both)

  pub opened_leads : (name : List ℕ) (pending : Token) → LeadsTo Encoded (After 0 vs false name) (opened name) pending
  opened_leads name pending us more rest next m (inl h) is =
      let whole = ap (λ (xs : List Token). xs ++ next ∷ more) (sym h.one) ∙ is in
      let both : str h.name ≡ curly_open = cc whole in
      absurd (cc both)
  opened_leads name pending us more rest next m (inr h) is =
      let joined = append_assoc (opened h.name) h.back (next ∷ more) in
      let whole = sym joined ∙ (ap (λ (xs : List Token). xs ++ next ∷ more) (sym h.are) ∙ is) in
      let first : str h.name ≡ str name = cc whole in
      let left : h.back ++ next ∷ more ≡ pending ∷ rest = cc whole in
      let same = str_injective h.name name first in
      let Is = λ (x : List ℕ). EncodesFound json_variants (content_named 0 vs x) h.back m in
      (h.back, m, next, more, subst Is same h.content, left)

  pub choice_leads : (name : VariantName) (pending : Token)
      → LeadsTo Encoded (After 0 vs (is_alone name) (bytes_of name)) (name_tokens name) pending
  choice_leads (Alone name) pending = alone_leads (string_bytes name) pending
  choice_leads (Opened name) pending = opened_leads (string_bytes name) pending

  -- the content of the variant with the name
  pub content_leads : (name : List ℕ) (tag : ℕ) (content : Encoding) → content_named 0 vs name ≡ found tag content
      → (pending : Token) → LeadsTo Encoded (Closed content.encodes) (opened name) pending
  content_leads name tag content has pending us more rest next m e is =
      let k = opened_leads name pending us more rest next m e is in
      let h = subst (λ x. EncodesFound json_variants x k.0 k.1) has k.4 in
      (k.0, h.part, k.2, k.3, h.has, k.5)

  -- no variant has the name
  pub no_unit : (name : List ℕ) → unit_named 0 vs name ≡ None → (ts : List Token) (m : Meaning)
      → After 0 vs true name ts m → ⊥
  no_unit name none ts m h = let both = sym h.1 ∙ none in absurd (cc both)

  pub no_content : (name : List ℕ) → content_named 0 vs name ≡ nobody → (ts : List Token) (m : Meaning)
      → After 0 vs false name ts m → ⊥
  no_content name none ts m h = subst (λ x. EncodesFound json_variants x ts m) none h
