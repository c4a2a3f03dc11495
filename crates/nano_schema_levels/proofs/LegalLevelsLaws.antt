-- What is proved of LegalLevels: what a format calls legal at its levels is legal, and all of it.
use Rattle.std.specs.Prelude.{◌≡◌, ℕ, zero, suc, refl}
use Rattle.std.proofs.Common.{sym, ◌∙◌, ap, subst}
use Rattle.nano_value.specs.Meaning.{Meaning, Agrees}
use Rattle.nano_grammar.specs.Tokens.{Cutting}
use Rattle.nano_grammar.specs.Codec.{Grammar, Codec}
use Rattle.nano_levels.specs.Layers.{Nested}
use Rattle.nano_levels.proofs.LevelsLaws.{level, limited}
use Rattle.nano_schema_levels.specs.LegalLevels.{LegalStep, legal_level, LegalNested, IsWeaker}

module _ {T : Type 0} {c : Cutting T} {g : Grammar T} {A : Type 0} (l : Nested c g A)
    (step : LegalStep) where
  -- the layer calls legal what the step does, as `λ f. refl` proves of a type
  module _ (same : (f : Codec c g A)
      → (l.layer.codec f).encoding.legal ≡ step f.encoding.legal) where
    pub level_is_legal : (n : ℕ) → (level l n).encoding.legal ≡ legal_level step n
    unfolding level
    level_is_legal zero = refl
    level_is_legal (suc n) = same (level l n) ∙ ap step (level_is_legal n)

    pub nested_agrees : (limit : ℕ)
        → Agrees l.means (LegalNested step) l.means (limited l limit).encoding.legal
    nested_agrees limit = record {
      means_is = refl;
      allows = λ m h. (h.0, subst (λ P. P m) (sym (level_is_legal h.0)) h.1);
      is_legal = λ m h. (h.0, subst (λ P. P m) (level_is_legal h.0) h.1);
    }

-- two formats that each call legal what is legal call the same legal
pub agree_through : {A : Type 0} {means : A → Meaning} {legal allowed other : Meaning → Type 0}
    → Agrees means legal means allowed → Agrees means legal means other
    → Agrees means allowed means other
agree_through first second = record {
  means_is = refl;
  allows = λ m h. second.allows m (first.is_legal m h);
  is_legal = λ m h. first.allows m (second.is_legal m h);
}

-- a codec, of which what is legal is said in other words: so formats of one type call the same legal
-- by computing, and those of a type around it do
abbrev pub legal_as : {T : Type 0} {c : Cutting T} {g : Grammar T} {A : Type 0} {means : A → Meaning}
    {legal : Meaning → Type 0} (f : Codec c g A)
    → Agrees means legal f.canonical.means f.encoding.legal → Codec c g A
legal_as {legal = legal} f agrees = record {
  canonical = f.canonical;
  encoding = record {
    legal = legal;
    encodes = f.encoding.encodes;
    laws = record {
      is_legal = λ ts x h. agrees.is_legal x (f.encoding.laws.is_legal ts x h);
      one_value = f.encoding.laws.one_value;
      none_begins = f.encoding.laws.none_begins;
      begins = f.encoding.laws.begins;
    };
  };
  is_written = λ x h d. f.is_written x (agrees.allows (f.canonical.means x) h) d;
  sound = f.sound;
  reads_back = λ x h s. f.reads_back x (agrees.allows (f.canonical.means x) h) s;
  encoded_is_sound = f.encoded_is_sound;
  null_alone = f.null_alone;
}

-- ---- a type with parameters: what a format calls legal for these is legal, and all of it

-- what remains legal
pub remains : (P : Meaning → Type 0) (m : Meaning) → P m → P m
remains P m h = h

module _ {s t : LegalStep} (w : IsWeaker s t) where
  pub level_weaker : (n : ℕ) (m : Meaning) → legal_level s n m → legal_level t n m
  level_weaker zero m h = h
  level_weaker (suc n) m h = w (legal_level s n) (legal_level t n) (level_weaker n) m h

  pub nested_weaker : (m : Meaning) → LegalNested s m → LegalNested t m
  nested_weaker m h = (h.0, level_weaker h.0 m h.1)

-- two formats agree where the one's step is as weak as the other's
pub agree_by_steps : {s t : LegalStep} → IsWeaker s t → IsWeaker t s → {A : Type 0}
    {means first second : A → Meaning} {legal allowed : Meaning → Type 0}
    → Agrees first (LegalNested s) first legal → Agrees second (LegalNested t) second allowed
    → second ≡ means → Agrees means legal second allowed
agree_by_steps down up first second same = record {
  means_is = same;
  allows = λ m h. second.allows m (nested_weaker down m (first.is_legal m h));
  is_legal = λ m h. first.allows m (nested_weaker up m (second.is_legal m h));
}

-- what a type calls legal of a value, a format does in its own words
pub legal_in_words : {A : Type 0} {means seen : A → Meaning} {legal allowed : Meaning → Type 0}
    → Agrees means legal seen allowed → (x : A) → legal (means x) → allowed (seen x)
legal_in_words {means = means} {allowed = allowed} t x h =
    subst allowed (λ i. sym t.means_is i x) (t.allows (means x) h)

-- two formats of a type agree
pub between : {A : Type 0} {means first second : A → Meaning} {legal allowed other : Meaning → Type 0}
    → Agrees means legal first allowed → Agrees means legal second other
    → Agrees first allowed second other
between t u = record {
  means_is = u.means_is ∙ sym t.means_is;
  allows = λ m h. u.allows m (t.is_legal m h);
  is_legal = λ m h. t.allows m (u.is_legal m h);
}
