-- The variants of an enum around values of one type, over any format's tokens.
use Rattle.std.specs.Prelude.{◌≡◌, ◌+◌, ℕ, List, true}
use Rattle.nano_value.specs.Meaning.{Meaning}
use Rattle.nano_value.specs.Sums.{tagged, Variants as Sums}
use Rattle.nano_meaning.proofs.SumsLaws.{legal_at}
use Rattle.nano_grammar.specs.Tokens.{Cutting}
use Rattle.nano_grammar.specs.Codec.{Grammar, Codec}
use Rattle.nano_grammar.specs.Variants.{VariantStyle, sums_of, names_differ}
use Rattle.nano_grammar.specs.VariantCodec.{encodings, seen_tokens, SoundContent, names_are_good}
use Rattle.nano_grammar.specs.Choices.{Chosen}
use Rattle.nano_levels.specs.Layers.{Layer}
use Rattle.nano_schema_levels.specs.Inside.{Inside}

module _ {T : Type 0} {c : Cutting T} {g : Grammar T} {s : VariantStyle c g} where
  -- what is legal for the content of each variant
  abbrev pub legal_contents : {V : Type 0} → Chosen s V → Sums
  legal_contents k = sums_of (encodings k.variants)

  -- the tokens of a value
  abbrev pub chosen_tokens : {V : Type 0} → Chosen s V → V → List T
  chosen_tokens k x = seen_tokens k.variants (k.seen x)

  -- its content is sound
  abbrev pub ChosenSound : {V : Type 0} → Chosen s V → V → Type 0
  ChosenSound k x = SoundContent k.variants (k.seen x)

-- the variants, given the codec of the inner values; what they hold of these, what a value means
-- where the first of them has this tag, the place of a value's variant, and what its content means.
-- What holds of a value hangs on the inner ones alone
pub record VariantsLayer {T : Type 0} {c : Cutting T} {g : Grammar T} (s : VariantStyle c g)
    (A V : Type 0) : Type 1 where
  pub chosen : Codec c g A → Chosen s V
  pub inside : Inside A V
  pub meant : ℕ → (A → Meaning) → V → Meaning
  pub place : V → ℕ
  pub content : (A → Meaning) → V → Meaning
  pub means_is : (f : Codec c g A) (from : ℕ) (x : V)
      → (chosen f).means from x ≡ meant from f.canonical.means x
  pub is_tagged : (m : A → Meaning) (from : ℕ) (x : V)
      → meant from m x ≡ tagged (place x + from) (content m x)
  pub content_same : (m n : A → Meaning) (x : V) → inside.All (λ y. m y ≡ n y) x
      → content m x ≡ content n x
  pub text_same : (f h : Codec c g A) (x : V)
      → inside.All (λ y. (d : ℕ) → f.canonical.text d y ≡ h.canonical.text d y) x → (d : ℕ)
      → (chosen f).text d x ≡ (chosen h).text d x
  pub tokens_same : (f h : Codec c g A) (x : V)
      → inside.All (λ y. f.canonical.tokens y ≡ h.canonical.tokens y) x
      → chosen_tokens (chosen f) x ≡ chosen_tokens (chosen h) x
  pub sound_same : (f h : Codec c g A) (x : V)
      → inside.All (λ y. f.canonical.tokens y ≡ h.canonical.tokens y) x
      → inside.All (λ y. f.sound y → h.sound y) x
      → ChosenSound (chosen f) x → ChosenSound (chosen h) x
  pub legal_parts : (f : Codec c g A) (m : A → Meaning) (x : V)
      → legal_at (legal_contents (chosen f)) (place x) (content m x)
      → inside.All (λ y. f.encoding.legal (m y)) x
  pub legal_same : (f h : Codec c g A) (m : A → Meaning) (x : V)
      → inside.All (λ y. f.encoding.legal (m y) → h.encoding.legal (m y)) x
      → legal_at (legal_contents (chosen f)) (place x) (content m x)
      → legal_at (legal_contents (chosen h)) (place x) (content m x)

-- the texts of a layer can stand as content
abbrev pub FitsContent : {T : Type 0} {c : Cutting T} {g : Grammar T} (s : VariantStyle c g)
    {A B : Type 0} → Layer c g A B → Type 1
FitsContent {c = c} {g = g} s {A} {B} p =
    (f : Codec c g A) (x : B) (d : ℕ) → s.IsContent ((p.codec f).canonical.text d x)

-- each name can be written, and two variants have two names
abbrev pub NamesAreGood : {T : Type 0} {c : Cutting T} {g : Grammar T} {s : VariantStyle c g}
    {A V : Type 0} → VariantsLayer s A V → Type 1
NamesAreGood {c = c} {g = g} {A = A} v =
    (f : Codec c g A) → names_are_good (v.chosen f).variants ≡ true

abbrev pub NamesDiffer : {T : Type 0} {c : Cutting T} {g : Grammar T} {s : VariantStyle c g}
    {A V : Type 0} → VariantsLayer s A V → Type 1
NamesDiffer {c = c} {g = g} {A = A} v =
    (f : Codec c g A) → names_differ (v.chosen f).variants ≡ true
