-- Layers of fields: fields that hold no value of the type, one field, and fields and more fields;
-- and the layer of a struct.
use Rattle.std.specs.Prelude.{◌≡◌, ℕ, List, [], ◌∷◌, ◌++◌, map, true, refl, Option, Some, None}
use Rattle.std.proofs.Common.{sym, ◌∙◌, subst, ap}
use Rattle.std.proofs.lemmas.List.{map-append}
use Rattle.nano_text.specs.Place.{saturating_next}
use Rattle.nano_value.specs.Meaning.{Meaning, paired}
use Rattle.nano_meaning.proofs.MeaningLaws.{both_injective}
use Rattle.nano_grammar.specs.Tokens.{Cutting}
use Rattle.nano_grammar.specs.Codec.{Grammar, Codec}
use Rattle.nano_grammar.specs.Items.{no_gaps}
use Rattle.nano_grammar.specs.Fields.{FieldStyle, are_distinct}
use Rattle.nano_grammar.specs.FieldCodec.{WrittenField, FieldsCodec, AreNames}
use Rattle.nano_grammar.specs.FieldCodec.{field_text, field_tokens}
use Rattle.nano_grammar.proofs.AliasesLaws.{alias_field}
use Rattle.nano_grammar.proofs.BothFieldsLaws.{also_fields}
use Rattle.nano_grammar.proofs.DefaultsLaws.{default_field}
use Rattle.nano_grammar.proofs.FieldCodecLaws.{must_field, may_field, written_if_some}
use Rattle.nano_grammar.proofs.LayoutsLaws.{laid_out_same}
use Rattle.nano_grammar.proofs.StructCodecLaws.{fields_codec}
use Rattle.nano_levels.specs.Layers.{Layer}
use Rattle.nano_levels.proofs.LayersLaws.{option_layer, SomeAll, item_means, some_means}
use Rattle.nano_levels.proofs.LayersLaws.{some_mean_same, some_sound, some_parts, some_legal}
use Rattle.nano_schema_levels.specs.Inside.{Inside}
use Rattle.nano_schema_levels.specs.FieldLayers.{FieldsLayer}
use Rattle.nano_schema_levels.proofs.InsideLaws.{nothing_inside, inside_of, both_inside}

module _ {T : Type 0} {c : Cutting T} {g : Grammar T} (s : FieldStyle c g) where
  -- ---- fields that hold no value of the type

  abbrev pub other_fields : {A B : Type 0} → FieldsCodec s B → FieldsLayer s A B
  other_fields k = record {
    codec = λ f. k;
    inside = nothing_inside;
    means = λ m. k.canonical.means;
    means_is = λ f x. refl;
    means_same = λ m n x e. refl;
    texts_same = λ f h x e d. refl;
    tokens_same = λ f h x e. refl;
    sound_same = λ f h x e w sound. sound;
    legal_parts = λ f m x h. tt;
    legal_same = λ f h m x w legal. legal;
  }

  -- ---- one field

  module _ {A B : Type 0} (name : List ℕ) (p : Layer c g A B) where
    pub text_of_field : (f h : Codec c g A) (x : B)
        → p.All (λ y. (d : ℕ) → f.canonical.text d y ≡ h.canonical.text d y) x → (d : ℕ)
        → s.name_text name ++ s.pair.punctuator ∷ (s.pair.gap ++ (p.codec f).canonical.text d x)
        ≡ s.name_text name ++ s.pair.punctuator ∷ (s.pair.gap ++ (p.codec h).canonical.text d x)
    text_of_field f h x e d =
        ap (λ l. s.name_text name ++ s.pair.punctuator ∷ (s.pair.gap ++ l)) (p.text_same f h x e d)

    pub tokens_of_field : (f h : Codec c g A) (x : B)
        → p.All (λ y. f.canonical.tokens y ≡ h.canonical.tokens y) x
        → s.name name ∷ (s.pair.token ∷ (p.codec f).canonical.tokens x)
        ≡ s.name name ∷ (s.pair.token ∷ (p.codec h).canonical.tokens x)
    tokens_of_field f h x e = ap (λ l. s.name name ∷ (s.pair.token ∷ l)) (p.tokens_same f h x e)

    -- a field that must be there
    abbrev pub required_layer : FieldsLayer s A B
    required_layer = record {
      codec = λ f. must_field s name (p.codec f);
      inside = inside_of p;
      means = p.means;
      means_is = p.means_is;
      means_same = p.means_same;
      texts_same = λ f h x e d i. text_of_field f h x e d i ∷ [];
      tokens_same = λ f h x e i. tokens_of_field f h x e i ∷ [];
      sound_same = p.sound_same;
      legal_parts = p.legal_parts;
      legal_same = p.legal_same;
    }

    -- a field that is always written, and has a default where it is missing
    abbrev pub defaulted_layer : Meaning → FieldsLayer s A B
    defaulted_layer missing = record {
      codec = λ f. default_field s name (p.codec f) missing;
      inside = inside_of p;
      means = p.means;
      means_is = p.means_is;
      means_same = p.means_same;
      texts_same = λ f h x e d i. text_of_field f h x e d i ∷ [];
      tokens_same = λ f h x e i. tokens_of_field f h x e i ∷ [];
      sound_same = p.sound_same;
      legal_parts = p.legal_parts;
      legal_same = p.legal_same;
    }

    -- ---- a field that may be missing

    pub optional_texts : (f h : Codec c g A) (x : Option B)
        → SomeAll s.none p (λ y. (d : ℕ) → f.canonical.text d y ≡ h.canonical.text d y) x → (d : ℕ)
        → map (field_text s d) (written_if_some name (p.codec f).canonical x)
        ≡ map (field_text s d) (written_if_some name (p.codec h).canonical x)
    optional_texts f h None e d = refl
    optional_texts f h (Some x) e d = λ i. text_of_field f h x e d i ∷ []

    pub optional_tokens : (f h : Codec c g A) (x : Option B)
        → SomeAll s.none p (λ y. f.canonical.tokens y ≡ h.canonical.tokens y) x
        → map (field_tokens s) (written_if_some name (p.codec f).canonical x)
        ≡ map (field_tokens s) (written_if_some name (p.codec h).canonical x)
    optional_tokens f h None e = refl
    optional_tokens f h (Some x) e = λ i. tokens_of_field f h x e i ∷ []

    -- a field that is not written where it is none, and may be missing
    abbrev pub optional_layer : FieldsLayer s A (Option B)
    optional_layer = record {
      codec = λ f. may_field s name (p.codec f);
      inside = inside_of (option_layer s.none p);
      means = item_means s.none p;
      means_is = some_means s.none p;
      means_same = some_mean_same s.none p;
      texts_same = optional_texts;
      tokens_same = optional_tokens;
      sound_same = some_sound s.none p;
      legal_parts = λ f m x h. some_parts s.none p f m x h.part h.has h.is;
      legal_same = (option_layer s.none p).legal_same;
    }

pub joined_same : {T X : Type 0} (W : WrittenField T → X) (xs ys us vs : List (WrittenField T))
    → map W xs ≡ map W us → map W ys ≡ map W vs → map W (xs ++ ys) ≡ map W (us ++ vs)
joined_same W xs ys us vs e k =
    map-append W xs ys ∙ ((λ i. e i ++ k i) ∙ sym (map-append W us vs))

module _ {T : Type 0} {c : Cutting T} {g : Grammar T} {s : FieldStyle c g} where
  -- a field with an alias and an own name
  abbrev pub aliased_layer : {A B : Type 0} → List ℕ → List ℕ → FieldsLayer s A B
      → FieldsLayer s A B
  aliased_layer alias own l = record {
    codec = λ f. alias_field alias own (l.codec f);
    inside = l.inside;
    means = l.means;
    means_is = l.means_is;
    means_same = l.means_same;
    texts_same = l.texts_same;
    tokens_same = l.tokens_same;
    sound_same = l.sound_same;
    legal_parts = l.legal_parts;
    legal_same = l.legal_same;
  }

  -- ---- fields, and more fields

  module _ {A B C : Type 0} (l : FieldsLayer s A B) (r : FieldsLayer s A C) where
    abbrev pub fields_mean : (A → Meaning) → B × C → Meaning
    fields_mean m x = paired (l.means m x.0, r.means m x.1)

    abbrev pub fields_pair_layer : FieldsLayer s A (B × C)
    fields_pair_layer = record {
      codec = λ f. also_fields (l.codec f) (r.codec f);
      inside = both_inside l.inside r.inside;
      means = fields_mean;
      means_is = λ f x i. paired (l.means_is f x.0 i, r.means_is f x.1 i);
      means_same = λ m n x e i. paired (l.means_same m n x.0 e.0 i, r.means_same m n x.1 e.1 i);
      texts_same = λ f h x e d.
          joined_same (field_text s d) ((l.codec f).canonical.fields x.0)
          ((r.codec f).canonical.fields x.1) ((l.codec h).canonical.fields x.0)
          ((r.codec h).canonical.fields x.1) (l.texts_same f h x.0 e.0 d)
          (r.texts_same f h x.1 e.1 d);
      tokens_same = λ f h x e.
          joined_same (field_tokens s) ((l.codec f).canonical.fields x.0)
          ((r.codec f).canonical.fields x.1) ((l.codec h).canonical.fields x.0)
          ((r.codec h).canonical.fields x.1) (l.tokens_same f h x.0 e.0)
          (r.tokens_same f h x.1 e.1);
      sound_same = λ f h x e w sound. (
        l.sound_same f h x.0 e.0 w.0 sound.0,
        r.sound_same f h x.1 e.1 w.1 sound.1,
      );
      legal_parts = λ f m x h.
          let same = both_injective _ _ h.part.0 h.part.1 h.is in (
            l.legal_parts f m x.0 (subst (l.codec f).struct.shape.legal (sym same.0) h.has.0),
            r.legal_parts f m x.1 (subst (r.codec f).struct.shape.legal (sym same.1) h.has.1),
          );
      legal_same = λ f h m x w legal.
          let same = both_injective _ _ legal.part.0 legal.part.1 legal.is in
          record {
            part = (l.means m x.0, r.means m x.1);
            has = (
              l.legal_same f h m x.0 w.0
                  (subst (l.codec f).struct.shape.legal (sym same.0) legal.has.0),
              r.legal_same f h m x.1 w.1
                  (subst (r.codec f).struct.shape.legal (sym same.1) legal.has.1),
            );
            is = refl;
          };
    }

  -- ---- a struct

  -- its fields between brackets. The names can be written, and none occurs twice, as `refl` proves
  -- of given names
  abbrev pub struct_layer : {A B : Type 0} (l : FieldsLayer s A B)
      → ((f : Codec c g A) → AreNames s (l.codec f).canonical.names)
      → ((f : Codec c g A) → are_distinct (l.codec f).canonical.names ≡ true) → Layer c g A B
  struct_layer l names distinct = record {
    codec = λ f. fields_codec (l.codec f) (names f) (distinct f);
    All = l.inside.All;
    means = l.means;
    deep = l.inside.deep;
    weaker = l.inside.weaker;
    less = l.inside.less;
    most = l.inside.most;
    means_is = l.means_is;
    means_same = l.means_same;
    text_same = λ f h x e d.
        let each = field_text s (saturating_next d) in
        laid_out_same s.list.ends (s.list.gaps d) s.list.punctuation each each
        ((l.codec f).canonical.fields x) ((l.codec h).canonical.fields x)
        (l.texts_same f h x e (saturating_next d));
    tokens_same = λ f h x e.
        let each = field_tokens s in
        laid_out_same s.list.ends no_gaps s.list.tokens each each
        ((l.codec f).canonical.fields x) ((l.codec h).canonical.fields x)
        (l.tokens_same f h x e);
    sound_same = l.sound_same;
    legal_parts = l.legal_parts;
    legal_same = l.legal_same;
  }
