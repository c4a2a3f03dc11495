-- Layers of variants: the last one, one and those after it, and the choice as a whole. Each stands
-- alone or has content.
use Rattle.std.specs.Prelude.{◌≡◌, ◌+◌, ◌++◌, ℕ, suc, List, refl}
use Rattle.std.proofs.Common.{sym, ◌∙◌, subst, ap, arith}
use Rattle.nano_value.specs.Meaning.{Meaning, nothing}
use Rattle.nano_value.specs.Sums.{tagged}
use Rattle.nano_meaning.proofs.SumsLaws.{legal_at, variant_is_legal, content_is_legal}
use Rattle.nano_grammar.specs.Tokens.{Cutting}
use Rattle.nano_grammar.specs.Codec.{Grammar, Codec}
use Rattle.nano_grammar.specs.BaseCodecs.{codec_as}
use Rattle.nano_grammar.specs.Variants.{VariantStyle, names_differ}
use Rattle.nano_grammar.specs.VariantCodec.{Body, names_are_good}
use Rattle.nano_grammar.proofs.VariantCodecLaws.{variants_codec}
use Rattle.nano_grammar.specs.Choices.{Chosen, Placed, chosen_last}
use Rattle.nano_grammar.proofs.ChoicesLaws.{alone_placed, body_placed, chosen_next}
use Rattle.nano_grammar.proofs.ChoicesLaws.{codec_reported}
use Rattle.nano_levels.specs.Layers.{Layer}
use Rattle.nano_schema.specs.Choices.{either_is}
use Rattle.nano_schema.specs.declared.choices.Either.{Either}
use Rattle.nano_schema.specs.declared.choices.Either.TheVariants.{First, Later}
use Rattle.nano_schema_levels.specs.VariantLayers.{VariantsLayer, FitsContent, NamesAreGood}
use Rattle.nano_schema_levels.specs.VariantLayers.{NamesDiffer, legal_contents, chosen_tokens}
use Rattle.nano_schema_levels.specs.VariantLayers.{ChosenSound}
use Rattle.nano_schema_levels.proofs.InsideLaws.{nothing_inside, inside_of, either_inside}
use Rattle.nano_schema_levels.specs.Inside.{Inside}

module _ {T : Type 0} {c : Cutting T} {g : Grammar T} (s : VariantStyle c g) where
  -- ---- the last variant

  -- it stands alone
  abbrev pub last_unit : {A : Type 0} → List ℕ → VariantsLayer s A (Unit {0})
  last_unit name = record {
    chosen = λ f. chosen_last name (alone_placed s);
    inside = nothing_inside;
    meant = λ from m x. tagged from nothing;
    place = λ x. 0;
    content = λ m x. nothing;
    means_is = λ f from x. refl;
    is_tagged = λ m from x. let e : from ≡ 0 + from = omega arith in ap (λ n. tagged n nothing) e;
    content_same = λ m n x e. refl;
    text_same = λ f h x e d. refl;
    tokens_same = λ f h x e. refl;
    sound_same = λ f h x e w sound. sound;
    legal_parts = λ f m x h. tt;
    legal_same = λ f h m x w legal. legal;
  }

  module _ {A B : Type 0} (name : List ℕ) (p : Layer c g A B) (fits : FitsContent s p) where
    -- the content, given the codec of the inner values
    abbrev pub body_around : Codec c g A → Body s
    body_around f = record { Fields = B; codec = p.codec f; fits = fits f }

    abbrev placed : Codec c g A → Placed s B
    placed f = body_placed s (body_around f)

    abbrev pub content_meant : ℕ → (A → Meaning) → B → Meaning
    content_meant from m x = tagged from (p.means m x)

    pub tagged_content : (f : Codec c g A) (from : ℕ) (x : B)
        → tagged from ((p.codec f).canonical.means x) ≡ content_meant from f.canonical.means x
    tagged_content f from x = ap (tagged from) (p.means_is f x)

    pub content_tagged : (m : A → Meaning) (from : ℕ) (x : B)
        → content_meant from m x ≡ tagged (0 + from) (p.means m x)
    content_tagged m from x =
        let e : from ≡ 0 + from = omega arith in ap (λ n. tagged n (p.means m x)) e

    -- it has content
    abbrev pub last_variant : VariantsLayer s A B
    last_variant = record {
      chosen = λ f. chosen_last name (placed f);
      inside = inside_of p;
      meant = content_meant;
      place = λ x. 0;
      content = p.means;
      means_is = tagged_content;
      is_tagged = content_tagged;
      content_same = p.means_same;
      text_same = λ f h x e d. ap (s.content_text name) (p.text_same f h x e d);
      tokens_same = λ f h x e. ap (λ l. s.opened name ++ (l ++ s.closing)) (p.tokens_same f h x e);
      sound_same = p.sound_same;
      legal_parts = p.legal_parts;
      legal_same = p.legal_same;
    }

  -- ---- a variant that stands alone, and those after it

  module _ {A C : Type 0} (name : List ℕ) (others : VariantsLayer s A C) where
    abbrev pub unit_inside : Inside A (Either (Unit {0}) C)
    unit_inside = either_inside nothing_inside others.inside

    abbrev unit_before : Codec c g A → Chosen s (Either (Unit {0}) C)
    unit_before f = chosen_next name (alone_placed s) (others.chosen f)

    abbrev pub unit_place : Either (Unit {0}) C → ℕ
    unit_place (First x) = 0
    unit_place (Later y) = suc (others.place y)

    abbrev pub unit_content : (A → Meaning) → Either (Unit {0}) C → Meaning
    unit_content m (First x) = nothing
    unit_content m (Later y) = others.content m y

    abbrev pub unit_meant : ℕ → (A → Meaning) → Either (Unit {0}) C → Meaning
    unit_meant from m = either_is (λ x. tagged from nothing) (others.meant (suc from) m)

    pub unit_means : (f : Codec c g A) (from : ℕ) (x : Either (Unit {0}) C)
        → (unit_before f).means from x ≡ unit_meant from f.canonical.means x
    unit_means f from (First x) = refl
    unit_means f from (Later y) = others.means_is f (suc from) y

    pub unit_tagged : (m : A → Meaning) (from : ℕ) (x : Either (Unit {0}) C)
        → unit_meant from m x ≡ tagged (unit_place x + from) (unit_content m x)
    unit_tagged m from (First x) =
        let e : from ≡ 0 + from = omega arith in ap (λ n. tagged n nothing) e
    unit_tagged m from (Later y) =
        let place = others.place y in
        let e : place + suc from ≡ suc place + from = omega arith in
        others.is_tagged m (suc from) y ∙ ap (λ n. tagged n (others.content m y)) e

    pub unit_same : (m n : A → Meaning) (x : Either (Unit {0}) C)
        → unit_inside.All (λ y. m y ≡ n y) x → unit_content m x ≡ unit_content n x
    unit_same m n (First x) e = refl
    unit_same m n (Later y) e = others.content_same m n y e

    pub unit_text : (f h : Codec c g A) (x : Either (Unit {0}) C)
        → unit_inside.All (λ y. (d : ℕ) → f.canonical.text d y ≡ h.canonical.text d y) x → (d : ℕ)
        → (unit_before f).text d x ≡ (unit_before h).text d x
    unit_text f h (First x) e d = refl
    unit_text f h (Later y) e d = others.text_same f h y e d

    pub unit_tokens : (f h : Codec c g A) (x : Either (Unit {0}) C)
        → unit_inside.All (λ y. f.canonical.tokens y ≡ h.canonical.tokens y) x
        → chosen_tokens (unit_before f) x ≡ chosen_tokens (unit_before h) x
    unit_tokens f h (First x) e = refl
    unit_tokens f h (Later y) e = others.tokens_same f h y e

    pub unit_sound : (f h : Codec c g A) (x : Either (Unit {0}) C)
        → unit_inside.All (λ y. f.canonical.tokens y ≡ h.canonical.tokens y) x
        → unit_inside.All (λ y. f.sound y → h.sound y) x
        → ChosenSound (unit_before f) x → ChosenSound (unit_before h) x
    unit_sound f h (First x) e w sound = sound
    unit_sound f h (Later y) e w sound = others.sound_same f h y e w sound

    pub unit_parts : (f : Codec c g A) (m : A → Meaning) (x : Either (Unit {0}) C)
        → legal_at (legal_contents (unit_before f)) (unit_place x) (unit_content m x)
        → unit_inside.All (λ y. f.encoding.legal (m y)) x
    unit_parts f m (First x) h = tt
    unit_parts f m (Later y) h = others.legal_parts f m y h

    pub unit_legal : (f h : Codec c g A) (m : A → Meaning) (x : Either (Unit {0}) C)
        → unit_inside.All (λ y. f.encoding.legal (m y) → h.encoding.legal (m y)) x
        → legal_at (legal_contents (unit_before f)) (unit_place x) (unit_content m x)
        → legal_at (legal_contents (unit_before h)) (unit_place x) (unit_content m x)
    unit_legal f h m (First x) w legal = legal
    unit_legal f h m (Later y) w legal = others.legal_same f h m y w legal

    abbrev pub next_unit : VariantsLayer s A (Either (Unit {0}) C)
    next_unit = record {
      chosen = unit_before;
      inside = unit_inside;
      meant = unit_meant;
      place = unit_place;
      content = unit_content;
      means_is = unit_means;
      is_tagged = unit_tagged;
      content_same = unit_same;
      text_same = unit_text;
      tokens_same = unit_tokens;
      sound_same = unit_sound;
      legal_parts = unit_parts;
      legal_same = unit_legal;
    }

  -- ---- a variant with content, and those after it

  module _ {A B C : Type 0} (name : List ℕ) (p : Layer c g A B) (fits : FitsContent s p)
      (others : VariantsLayer s A C) where
    abbrev pub either_holds : Inside A (Either B C)
    either_holds = either_inside (inside_of p) others.inside

    abbrev next_of : Codec c g A → Chosen s (Either B C)
    next_of f = chosen_next name (body_placed s (body_around name p fits f)) (others.chosen f)

    abbrev pub either_place : Either B C → ℕ
    either_place (First x) = 0
    either_place (Later y) = suc (others.place y)

    abbrev pub either_content : (A → Meaning) → Either B C → Meaning
    either_content m (First x) = p.means m x
    either_content m (Later y) = others.content m y

    abbrev pub either_meant : ℕ → (A → Meaning) → Either B C → Meaning
    either_meant from m = either_is (content_meant name p fits from m) (others.meant (suc from) m)

    pub next_means : (f : Codec c g A) (from : ℕ) (x : Either B C)
        → (next_of f).means from x ≡ either_meant from f.canonical.means x
    next_means f from (First x) = tagged_content name p fits f from x
    next_means f from (Later y) = others.means_is f (suc from) y

    pub next_tagged : (m : A → Meaning) (from : ℕ) (x : Either B C)
        → either_meant from m x ≡ tagged (either_place x + from) (either_content m x)
    next_tagged m from (First x) = content_tagged name p fits m from x
    next_tagged m from (Later y) =
        let place = others.place y in
        let e : place + suc from ≡ suc place + from = omega arith in
        others.is_tagged m (suc from) y ∙ ap (λ n. tagged n (others.content m y)) e

    pub next_same : (m n : A → Meaning) (x : Either B C)
        → either_holds.All (λ y. m y ≡ n y) x → either_content m x ≡ either_content n x
    next_same m n (First x) e = p.means_same m n x e
    next_same m n (Later y) e = others.content_same m n y e

    pub next_text : (f h : Codec c g A) (x : Either B C)
        → either_holds.All (λ y. (d : ℕ) → f.canonical.text d y ≡ h.canonical.text d y) x → (d : ℕ)
        → (next_of f).text d x ≡ (next_of h).text d x
    next_text f h (First x) e d = ap (s.content_text name) (p.text_same f h x e d)
    next_text f h (Later y) e d = others.text_same f h y e d

    pub next_tokens : (f h : Codec c g A) (x : Either B C)
        → either_holds.All (λ y. f.canonical.tokens y ≡ h.canonical.tokens y) x
        → chosen_tokens (next_of f) x ≡ chosen_tokens (next_of h) x
    next_tokens f h (First x) e =
        ap (λ l. s.opened name ++ (l ++ s.closing)) (p.tokens_same f h x e)
    next_tokens f h (Later y) e = others.tokens_same f h y e

    pub next_sound : (f h : Codec c g A) (x : Either B C)
        → either_holds.All (λ y. f.canonical.tokens y ≡ h.canonical.tokens y) x
        → either_holds.All (λ y. f.sound y → h.sound y) x
        → ChosenSound (next_of f) x → ChosenSound (next_of h) x
    next_sound f h (First x) e w sound = p.sound_same f h x e w sound
    next_sound f h (Later y) e w sound = others.sound_same f h y e w sound

    pub next_parts : (f : Codec c g A) (m : A → Meaning) (x : Either B C)
        → legal_at (legal_contents (next_of f)) (either_place x) (either_content m x)
        → either_holds.All (λ y. f.encoding.legal (m y)) x
    next_parts f m (First x) h = p.legal_parts f m x h
    next_parts f m (Later y) h = others.legal_parts f m y h

    pub next_legal : (f h : Codec c g A) (m : A → Meaning) (x : Either B C)
        → either_holds.All (λ y. f.encoding.legal (m y) → h.encoding.legal (m y)) x
        → legal_at (legal_contents (next_of f)) (either_place x) (either_content m x)
        → legal_at (legal_contents (next_of h)) (either_place x) (either_content m x)
    next_legal f h m (First x) w legal = p.legal_same f h m x w legal
    next_legal f h m (Later y) w legal = others.legal_same f h m y w legal

    abbrev pub next_variant : VariantsLayer s A (Either B C)
    next_variant = record {
      chosen = next_of;
      inside = either_holds;
      meant = either_meant;
      place = either_place;
      content = either_content;
      means_is = next_means;
      is_tagged = next_tagged;
      content_same = next_same;
      text_same = next_text;
      tokens_same = next_tokens;
      sound_same = next_sound;
      legal_parts = next_parts;
      legal_same = next_legal;
    }

-- ---- all of them

module _ {T : Type 0} {c : Cutting T} {g : Grammar T} {s : VariantStyle c g} {A V : Type 0}
    (v : VariantsLayer s A V) (good : NamesAreGood v) (differ : NamesDiffer v) where
  abbrev pub choice_means : (A → Meaning) → V → Meaning
  choice_means m x = v.meant 0 m x

  pub choice_tagged : (m : A → Meaning) (x : V)
      → choice_means m x ≡ tagged (v.place x) (v.content m x)
  choice_tagged m x =
      let e : v.place x + 0 ≡ v.place x = omega arith in
      v.is_tagged m 0 x ∙ ap (λ n. tagged n (v.content m x)) e

  -- the codec of the values, given that of the inner ones
  abbrev pub choice_around : Codec c g A → Codec c g V
  choice_around f =
      let k = v.chosen f in
      codec_reported (codec_as k.seen (variants_codec k.variants (good f) (differ f))) (k.means 0)
      k.text (k.meant 0) k.written

  pub choice_content : (f : Codec c g A) (m : A → Meaning) (x : V)
      → (choice_around f).encoding.legal (choice_means m x)
      → legal_at (legal_contents (v.chosen f)) (v.place x) (v.content m x)
  choice_content f m x h =
      content_is_legal (legal_contents (v.chosen f)) (v.place x) (v.content m x)
      (subst (choice_around f).encoding.legal (choice_tagged m x) h)

  pub choice_same : (m n : A → Meaning) (x : V) → v.inside.All (λ y. m y ≡ n y) x
      → choice_means m x ≡ choice_means n x
  choice_same m n x e =
      choice_tagged m x
      ∙ (ap (λ k. tagged (v.place x) k) (v.content_same m n x e) ∙ sym (choice_tagged n x))

  abbrev pub choice_layer : Layer c g A V
  choice_layer = record {
    codec = choice_around;
    All = v.inside.All;
    means = choice_means;
    deep = v.inside.deep;
    weaker = v.inside.weaker;
    less = v.inside.less;
    most = v.inside.most;
    means_is = λ f x. v.means_is f 0 x;
    means_same = choice_same;
    text_same = v.text_same;
    tokens_same = v.tokens_same;
    sound_same = v.sound_same;
    legal_parts = λ f m x h. v.legal_parts f m x (choice_content f m x h);
    legal_same = λ f h m x w legal.
        subst (choice_around h).encoding.legal (sym (choice_tagged m x))
        (variant_is_legal (legal_contents (v.chosen h)) (v.place x) (v.content m x)
        (v.legal_same f h m x w (choice_content f m x legal)));
  }
