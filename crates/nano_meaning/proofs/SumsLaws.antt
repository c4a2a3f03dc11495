-- What is proved of Sums.
use Rattle.std.specs.Prelude.{◌≡◌, ℕ, zero, suc, ◌+◌, ◌<◌, ◌≤◌}
use Rattle.std.proofs.Common.{sym, subst, ap, inl, inr, arith}
use Rattle.nano_meaning.specs.Meaning.{Meaning}
use Rattle.nano_meaning.proofs.MeaningLaws.{whole_injective, both_injective}
use Rattle.nano_meaning.specs.Sums.{Variants, no_variants, variant, tagged, LegalFrom, LegalVariant}
use Rattle.nano_meaning.specs.Sums.{count_variants}

-- ---- the same by place

-- the content is legal for the variant at the place
abbrev pub legal_at : Variants → ℕ → Meaning → Type 0
legal_at no_variants place content = ⊥
legal_at (variant legal others) zero content = legal content
legal_at (variant legal others) (suc place) content = legal_at others place content

-- the meaning has a place of one of the variants, and content that is legal there
pub record LegalAt (from : ℕ) (vs : Variants) (m : Meaning) : Type 0 where
  pub place : ℕ
  pub content : Meaning
  pub legal : legal_at vs place content
  pub is : m ≡ tagged (place + from) content

pub at_place :
    (vs : Variants) (from place : ℕ) (content : Meaning)
    → legal_at vs place content
    → LegalFrom from vs (tagged (place + from) content)
at_place no_variants from place content h = absurd h
at_place (variant legal others) from zero content h =
    let e : zero + from ≡ from = omega arith in
    inl (record { part = content; has = h; is = ap (λ n. tagged n content) e })
at_place (variant legal others) from (suc place) content h =
    let e : place + suc from ≡ suc place + from = omega arith in
    inr (subst (λ n. LegalFrom (suc from) others (tagged n content)) e
    (at_place others (suc from) place content h))

pub by_place : (vs : Variants) (from : ℕ) (m : Meaning) → LegalFrom from vs m → LegalAt from vs m
by_place no_variants from m h = absurd h
by_place (variant legal others) from m (inl h) =
    let e : from ≡ 0 + from = omega arith in
    record {
      place = 0;
      content = h.part;
      legal = h.has;
      is =
          subst (λ n. m ≡ tagged n h.part) e h.is;
    }
by_place (variant legal others) from m (inr h) =
    let rest = by_place others (suc from) m h in
    let e : rest.place + suc from ≡ suc rest.place + from = omega arith in
    record {
      place = suc rest.place;
      content = rest.content;
      legal = rest.legal;
      is = subst (λ n. m ≡ tagged n rest.content) e rest.is;
    }

-- content that is legal for the variant at a place makes a legal value
pub variant_is_legal : (vs : Variants) (place : ℕ) (content : Meaning) → legal_at vs place content
    → LegalVariant vs (tagged place content)
variant_is_legal vs place content h =
    let e : place + 0 ≡ place = omega arith in
    subst (λ n. LegalVariant vs (tagged n content)) e (at_place vs 0 place content h)

-- the content of a legal value is legal at the value's place
pub content_is_legal : (vs : Variants) (place : ℕ) (content : Meaning)
    → LegalVariant vs (tagged place content) → legal_at vs place content
content_is_legal vs place content h =
    let found = by_place vs 0 (tagged place content) h in
    let parts = both_injective _ _ _ _ found.is in
    let same = whole_injective place (found.place + 0) parts.0 in
    let e : found.place ≡ place = omega (arith, same) in
    subst (λ n. legal_at vs n content) e (subst (legal_at vs found.place) (sym parts.1) found.legal)

-- a legal place is one of the variants'
pub place_below : (vs : Variants) (place : ℕ) (content : Meaning) → legal_at vs place content
    → place < count_variants vs
place_below no_variants place content h = absurd h
place_below (variant legal others) zero content h = omega arith
place_below (variant legal others) (suc place) content h = let below =
    place_below others place content h in omega (arith, below)

-- a legal meaning has a place from the first one on
pub place_above : (vs : Variants) (from place : ℕ) (content : Meaning)
    → LegalFrom from vs (tagged place content) → from ≤ place
place_above no_variants from place content h = absurd h
place_above (variant legal others) from place content (inl h) =
    let e = whole_injective place from (both_injective _ _ _ _ h.is).0 in
    omega (arith, e)
place_above (variant legal others) from place content (inr h) =
    let above = place_above others (suc from) place content h in
    omega (arith, above)

-- ---- variants whose contents may be more
