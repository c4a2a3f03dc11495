-- What a reader of an enum answers, from what the readers of the name and of the content answer.
use Rattle.std.proofs.Common.{◌≡◌, ℕ, List, [], ◌∷◌, ◌++◌, inl, inr, None, refl, sym, ◌∙◌, ap, subst}
use Rattle.std.proofs.Common.{Bool, true, false}
use Rattle.nano_value.specs.Meaning.{Meaning, nothing}
use Rattle.nano_grammar.specs.Tokens.{At, Leaves, Spans}
use Rattle.nano_grammar.proofs.TokensLaws.{leaves_append}
use Rattle.nano_grammar.proofs.FaultLaws.{LeadsTo, first_token}
use Rattle.nano_grammar.specs.Variants.{Variants, unit_named, content_named, EncodesFound}
use Rattle.nano_grammar.specs.Variants.{EncodesVariant}
use Rattle.nano_ron_tokens.specs.Cut.{Cut}
use Rattle.nano_ron_tokens.specs.Token.{Token, ident}
use Rattle.nano_ron.specs.Codec.{Encoding}
use Rattle.nano_ron_schema.specs.Reading.{VariantBegins}
use Rattle.nano_ron_schema.specs.FieldCodecs.{ident_injective}
use Rattle.nano_ron_schema.specs.VariantCodecs.{ron_variants}
use Rattle.nano_ron_schema.specs.Variants.{named}
use Rattle.nano_value.specs.Sums.{tagged}
use Rattle.nano_grammar.specs.Choices.{EncodesAfter, has_alone}
use Rattle.nano_grammar.proofs.ChoicesLaws.{none_alone, some_alone}

-- ==== readers of a choice of variants

-- ---- a name, and what comes after it

module _ (vs : Variants Encoding) (name : List ℕ) (start mid : At Token)
    (taken : Leaves Cut (named name) start mid) where
  abbrev pub After : Bool → List Token → Meaning → Type 0
  After alone = EncodesAfter ron_variants 0 vs alone name

  pub choice_reads : (alone : Bool) (end : At Token) (m : Meaning)
      → Spans Cut (After alone) mid end m → Spans Cut (EncodesVariant ron_variants vs) start end m
  choice_reads true end m h =
      let here : mid ≡ end = subst (λ (us : List Token). Leaves Cut us mid end) h.1.2 h.2 in (
        named name,
        inl (record { name = name; tag = h.1.0; has = h.1.1; one = refl; is = h.1.3 }),
        subst (λ (z : At Token). Leaves Cut (named name) start z) here taken,
      )
  choice_reads false end m h = (
    named name ++ h.0,
    inr (record { name = name; back = h.0; are = refl; content = h.1 }),
    leaves_append Cut (named name) h.0 start mid end taken h.2,
  )

module _ (vs : Variants Encoding) where
  abbrev pub Encoded : List Token → Meaning → Type 0
  Encoded = EncodesVariant ron_variants vs

  -- a variant begins with its name
  pub name_leads : (pending : Token) → LeadsTo Encoded VariantBegins [] pending
  name_leads pending us more rest next m (inl h) is = (us, h.name, next, more, h.one, is)
  name_leads pending us more rest next m (inr h) is =
      let f = first_token h.back next more in
      let whole = ap (λ (xs : List Token). xs ++ next ∷ more) (sym h.are) ∙ is in
      (named h.name, h.name, f.0, f.1, refl, ap (λ (xs : List Token). ident h.name ∷ xs) (sym f.2) ∙ whole)

  -- after its name comes its content, if it has one
  content_leads : (name : List ℕ) (pending : Token) → unit_named 0 vs name ≡ None
      → LeadsTo Encoded (EncodesAfter ron_variants 0 vs false name) (named name) pending
  content_leads name pending none us more rest next m (inl h) is =
      let whole = ap (λ (xs : List Token). xs ++ next ∷ more) (sym h.one) ∙ is in
      let first : ident h.name ≡ ident name = cc whole in
      let same = ident_injective h.name name first in
      let both = sym h.has ∙ (ap (unit_named 0 vs) same ∙ none) in
      absurd (cc both)
  content_leads name pending none us more rest next m (inr h) is =
      let whole = ap (λ (xs : List Token). xs ++ next ∷ more) (sym h.are) ∙ is in
      let first : ident h.name ≡ ident name = cc whole in
      let left : h.back ++ next ∷ more ≡ pending ∷ rest = cc whole in
      let same = ident_injective h.name name first in
      let Is = λ (x : List ℕ). EncodesFound ron_variants (content_named 0 vs x) h.back m in
      (h.back, m, next, more, subst Is same h.content, left)

  pub choice_leads : (name : List ℕ) (pending : Token) (alone : Bool) → alone ≡ has_alone vs name
      → LeadsTo Encoded (EncodesAfter ron_variants 0 vs alone name) (named name) pending
  choice_leads name pending true e us more rest next m h is =
      let some = some_alone 0 vs name (sym e) in
      ([], tagged some.0 nothing, pending, rest, (some.0, some.1, refl, refl), refl)
  choice_leads name pending false e us more rest next m h is =
      content_leads name pending (none_alone 0 vs name (sym e)) us more rest next m h is
