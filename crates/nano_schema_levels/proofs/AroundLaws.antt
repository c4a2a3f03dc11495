-- What is proved of a type that is a layer around values of a type that contains itself. What
-- encodes a choice of variants hangs on what encodes their contents alone, and not on what is said
-- to be legal.
use Rattle.std.specs.Prelude.{◌≡◌, ℕ, suc, List, Bool, true, false, Some, bytes_eq, cond, refl}
use Rattle.std.proofs.Common.{sym, ◌∙◌, subst, ap, inl, inr}
use Rattle.nano_value.specs.Meaning.{Meaning, IsImage}
use Rattle.nano_value.specs.Sums.{tagged}
use Rattle.nano_grammar.specs.Tokens.{Cutting}
use Rattle.nano_grammar.specs.Codec.{Grammar, Codec, Encoding}
use Rattle.nano_grammar.specs.Outcomes.{Position, Read}
use Rattle.nano_grammar.specs.Variants.{VariantStyle, Variants, no_variants, unit_variant, variant}
use Rattle.nano_grammar.specs.Variants.{unit_named, content_named, Found, nobody, found}
use Rattle.nano_grammar.specs.Variants.{either_found, Closed, EncodesFound, EncodesVariant}
use Rattle.nano_grammar.specs.VariantCodec.{encodings}
use Rattle.nano_levels.specs.Layers.{Layer}
use Rattle.nano_schema_levels.specs.VariantLayers.{VariantsLayer, NamesAreGood, NamesDiffer}
use Rattle.nano_schema_levels.proofs.PartLaws.{seen_layer}
use Rattle.nano_schema_levels.proofs.VariantLayersLaws.{choice_layer}

-- ---- variants by what encodes their contents

-- the variants with what encodes each content
abbrev pub encoders : {T : Type 0} {g : Grammar T} → Variants (Encoding g)
    → Variants (List T → Meaning → Type 0)
encoders no_variants = no_variants
encoders (unit_variant name others) = unit_variant name (encoders others)
encoders (variant name content others) = variant name content.encodes (encoders others)

module _ {T : Type 0} {c : Cutting T} {g : Grammar T} (s : VariantStyle c g) where
  -- what the content after the name of a variant means
  abbrev Encodes : Found (List T → Meaning → Type 0) → List T → Meaning → Type 0
  Encodes nobody ts m = ⊥
  Encodes (found tag content) ts m = IsImage (tagged tag) (Closed s content ts) m

  same_unit : (from : ℕ) (vs : Variants (Encoding g)) (name : List ℕ)
      → unit_named from vs name ≡ unit_named from (encoders vs) name
  same_unit from no_variants name = refl
  same_unit from (unit_variant first others) name =
      ap (cond (bytes_eq name first) (Some from)) (same_unit (suc from) others name)
  same_unit from (variant first content others) name = same_unit (suc from) others name

  same_content : (from : ℕ) (vs : Variants (Encoding g)) (name : List ℕ) (ts : List T)
      (m : Meaning) → EncodesFound s (content_named from vs name) ts m
      ≡ Encodes (content_named from (encoders vs) name) ts m
  same_content from no_variants name ts m = refl
  same_content from (unit_variant first others) name ts m =
      same_content (suc from) others name ts m
  same_content from (variant first content others) name ts m =
      let here = found from content in
      let rest = content_named (suc from) others name in
      let encoder = found from content.encodes in
      let encoders_after = content_named (suc from) (encoders others) name in
      elim (bytes_eq name first) as (λ b. EncodesFound s (either_found b here rest) ts m
      ≡ Encodes (either_found b encoder encoders_after) ts m) [
        | true ↦ refl
        | false ↦ same_content (suc from) others name ts m
      ]

  -- what some variants encode, those with the same names and encoders do
  pub same_encoded : (vs ws : Variants (Encoding g)) → encoders vs ≡ encoders ws → (ts : List T)
      (m : Meaning) → EncodesVariant s vs ts m → EncodesVariant s ws ts m
  same_encoded vs ws e ts m (inl h) =
      let same =
      same_unit 0 vs h.name
      ∙ (ap (λ us. unit_named 0 us h.name) e ∙ sym (same_unit 0 ws h.name)) in
      inl (record {
        name = h.name;
        tag = h.tag;
        has = sym same ∙ h.has;
        one = h.one;
        is = h.is;
      })
  same_encoded vs ws e ts m (inr h) =
      let same =
      same_content 0 vs h.name h.back m
      ∙ (ap (λ us. Encodes (content_named 0 us h.name) h.back m) e
      ∙ sym (same_content 0 ws h.name h.back m)) in
      inr (record {
        name = h.name;
        back = h.back;
        are = h.are;
        content = subst (λ X. X) same h.content;
      })

-- ---- a codec, and what encodes its values in other words

module _ {T : Type 0} {c : Cutting T} {g : Grammar T} {A : Type 0} (f h : Codec c g A)
    (to : (ts : List T) (m : Meaning) → f.encoding.encodes ts m → h.encoding.encodes ts m)
    (back : (ts : List T) (m : Meaning) → h.encoding.encodes ts m → f.encoding.encodes ts m)
  where
    -- the first codec, whose values are encoded as the second says it
    abbrev pub encoded_as : Codec c g A
    encoded_as = record {
      canonical = f.canonical;
      encoding = record {
        legal = f.encoding.legal;
        encodes = h.encoding.encodes;
        laws = record {
          is_legal = λ ts x k. f.encoding.laws.is_legal ts x (back ts x k);
          one_value = h.encoding.laws.one_value;
          none_begins = h.encoding.laws.none_begins;
          begins = h.encoding.laws.begins;
        };
      };
      is_written = f.is_written;
      sound = f.sound;
      reads_back = λ x legal sound.
          to (f.canonical.tokens x) (f.canonical.means x) (f.reads_back x legal sound);
      encoded_is_sound = λ x ts k. f.encoded_is_sound x ts (back ts (f.canonical.means x) k);
      null_alone = λ x ts e k. f.null_alone x ts e (back ts (f.canonical.means x) k);
    }

-- ---- an enum around values of the root

module _ {T : Type 0} {c : Cutting T} {g : Grammar T} {s : VariantStyle c g} {A B V : Type 0}
    (view : B → V) (v : VariantsLayer s A V) (good : NamesAreGood v) (differ : NamesDiffer v) where
  abbrev of : Codec c g A → Codec c g B
  of f = (seen_layer view (choice_layer v good differ)).codec f

  abbrev encoded_by : Codec c g A → Variants (Encoding g)
  encoded_by f = encodings (v.chosen f).variants

  -- the codec around the first one of the root, whose values are encoded as around the second. That
  -- these encode the same values is shown by `refl`
  abbrev pub choice_as : (f h : Codec c g A) → encoders (encoded_by f) ≡ encoders (encoded_by h)
      → Codec c g B
  choice_as f h e =
      encoded_as (of f) (of h) (same_encoded s (encoded_by f) (encoded_by h) e)
      (same_encoded s (encoded_by h) (encoded_by f) (sym e))

-- ---- what is read of it

module _ {T : Type 0} {c : Cutting T} {g : Grammar T} {A B V : Type 0} (view : B → V)
    (l : Layer c g A V) (f : Codec c g A) (means : A → Meaning) {start end : Position T} where
  -- what is read as values are seen, is read as a value
  pub layer_read : (x : B) (v : V) → view x ≡ v
      → Read c.cut (l.codec f).encoding.encodes start end (l.means means v)
      → Read c.cut (l.codec f).encoding.encodes start end (l.means means (view x))
  layer_read x v e h =
      subst (λ w. Read c.cut (l.codec f).encoding.encodes start end (l.means means w)) (sym e) h
