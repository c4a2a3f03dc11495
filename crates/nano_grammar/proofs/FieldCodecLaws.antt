-- What is proved of FieldCodec.
use Rattle.std.specs.Prelude.{◌≡◌, ℕ, List, [], ◌∷◌, ◌++◌, map, Option, Some, None, refl, false}
use Rattle.std.specs.Prelude.{bytes_eq}
use Rattle.std.specs.Option.{option_map}
use Rattle.std.proofs.Common.{sym, ◌∙◌, ap, inl, inr}
use Rattle.std.proofs.lemmas.List.{map-append}
use Rattle.std.specs.List.{AllByRecursion}
use Rattle.nano_value.specs.Meaning.{optional, paired, pair_map, Meaning}
use Rattle.nano_meaning.proofs.MeaningLaws.{both_injective}
use Rattle.nano_text.specs.Place.{saturating_next}
use Rattle.nano_grammar.specs.Tokens.{Cutting, IsValueText}
use Rattle.nano_grammar.specs.Codec.{Grammar, Canonical, Codec}
use Rattle.nano_grammar.proofs.LayoutsLaws.{laid_out_same, pair_written}
use Rattle.nano_grammar.specs.Fields.{FieldStyle, Field, LastEncodes, last}
use Rattle.nano_grammar.specs.FieldCodec.{WrittenField, field_text, fields_tokens, fields_text}
use Rattle.nano_grammar.specs.FieldCodec.{FieldsCanonical, named, AreNames, IsWrittenField}
use Rattle.nano_grammar.specs.FieldCodec.{FieldsCodec}
use Rattle.nano_grammar.proofs.OptionsLaws.{option_codec}
use Rattle.nano_grammar.proofs.FieldsLaws.{optional_field}
use Rattle.nano_grammar.proofs.StructLaws.{must_read, may_read}
use Rattle.nano_grammar.proofs.FieldReading.{same_name}

-- ==== how fields are written

-- the field of this name and value
abbrev pub written_field : {T : Type 0} {c : Cutting T} {A : Type 0} → List ℕ → Canonical c A → A
    → WrittenField T
written_field name w x = record { name = name; tokens = w.tokens x; text = λ d. w.text d x }

-- the field if there is a value, and else none
abbrev pub written_if_some : {T : Type 0} {c : Cutting T} {A : Type 0} → List ℕ → Canonical c A
    → Option A → List (WrittenField T)
written_if_some name w None = []
written_if_some name w (Some x) = written_field name w x ∷ []

module _ {T : Type 0} {c : Cutting T} {g : Grammar T} (s : FieldStyle c g) where
  -- ---- one field

  module _ {A : Type 0} (name : List ℕ) (w : Canonical c A) where
    pub must_same : (x y : A) → w.means x ≡ w.means y → (d : ℕ)
        → map (field_text s d) (written_field name w x ∷ []) ≡ map (field_text s d)
        (written_field name w y ∷ [])
    must_same x y e d =
        ap (λ l. (s.name_text name ++ s.pair.punctuator ∷ (s.pair.gap ++ l)) ∷ [])
        (w.same_text x y e d)

    pub may_same : (x y : Option A)
        → optional (option_map w.means x) ≡ optional (option_map w.means y) → (d : ℕ)
        → map (field_text s d) (written_if_some name w x) ≡ map (field_text s d)
        (written_if_some name w y)
    may_same None None e d = refl
    may_same None (Some y) e d = absurd (cc)
    may_same (Some x) None e d = absurd (cc)
    may_same (Some x) (Some y) e d = must_same x y (both_injective _ _ _ _ e).0 d

    -- a field that is always written
    abbrev pub must_write : FieldsCanonical s A
    must_write = record {
      means = w.means;
      names = name ∷ [];
      fields = λ x. written_field name w x ∷ [];
      same_texts = must_same;
    }

    -- a field that is not written where it is none
    abbrev pub may_write : FieldsCanonical s (Option A)
    may_write = record {
      means = λ x. optional (option_map w.means x);
      names = name ∷ [];
      fields = written_if_some name w;
      same_texts = may_same;
    }

  -- ---- fields, and more fields

  module _ {A B : Type 0} (v : FieldsCanonical s A) (w : FieldsCanonical s B) where
    pub also_same : (x y : A × B)
        → paired (pair_map v.means w.means x) ≡ paired (pair_map v.means w.means y) → (d : ℕ)
        → map (field_text s d) (v.fields x.0 ++ w.fields x.1) ≡ map (field_text s d)
        (v.fields y.0 ++ w.fields y.1)
    also_same x y e d =
        let same = both_injective (v.means x.0) (w.means x.1) (v.means y.0) (w.means y.1) e in
        let first = v.same_texts x.0 y.0 same.0 d in
        let second = w.same_texts x.1 y.1 same.1 d in
        map-append (field_text s d) (v.fields x.0) (w.fields x.1)
        ∙ ((λ i. first i ++ second i)
        ∙ sym (map-append (field_text s d) (v.fields y.0) (w.fields y.1)))

    abbrev pub also_write : FieldsCanonical s (A × B)
    also_write = record {
      means = λ x. paired (pair_map v.means w.means x);
      names = v.names ++ w.names;
      fields = λ x. v.fields x.0 ++ w.fields x.1;
      same_texts = also_same;
    }

  -- ---- a struct

  module _ {A : Type 0} (w : FieldsCanonical s A) where
    pub struct_same : (x y : A) → w.means x ≡ w.means y → (d : ℕ)
        → fields_text s d (w.fields x) ≡ fields_text s d (w.fields y)
    struct_same x y e d =
        let each = field_text s (saturating_next d) in
        laid_out_same s.list.ends (s.list.gaps d) s.list.punctuation each each (w.fields x)
        (w.fields y)
        (w.same_texts x y e (saturating_next d))

    -- what a struct is written as: its fields between brackets, and their values at the next level
    abbrev pub fields_canonical : Canonical c A
    fields_canonical = record {
      means = w.means;
      text = λ d x. (fields_text s) d (w.fields x);
      tokens = λ x. (fields_tokens s) (w.fields x);
      same_text = struct_same;
    }

-- ==== field codec

-- ---- the last field of a name

module _ {T : Type 0} (name : List ℕ) where
  -- where no field has the name, there is no last one
  none_last : (fs : List (Field T)) → AllByRecursion (λ f. bytes_eq f.name name ≡ false) fs
      → last name fs ≡ None
  none_last [] h = refl
  none_last (f ∷ fs) h = rw (none_last fs h.1, h.0) refl

  -- a field that only fields of another name come after is the last of its name
  alone_is_last : (value : List T) (fs : List (Field T))
      → AllByRecursion (λ f. bytes_eq f.name name ≡ false) fs
      → last name (record { name = name; value = value } ∷ fs) ≡ Some value
  alone_is_last value fs h = rw (none_last fs h, same_name name) refl

-- ---- one field

module _ {T : Type 0} {c : Cutting T} {g : Grammar T} (s : FieldStyle c g) {A : Type 0}
    (name : List ℕ) (f : Codec c g A) where
  abbrev OtherNames : List (Field T) → Type 0
  OtherNames more = AllByRecursion (λ m. bytes_eq m.name name ≡ false) more

  pub some_named : (P : List ℕ → Type 0) → AllByRecursion P (name ∷ []) → (x : Option A)
      → AllByRecursion (λ w. P w.name) (written_if_some name f.canonical x)
  some_named P h None = tt
  some_named P h (Some x) = (h.0, tt)

  pub must_be_meant : (x : A) → f.encoding.legal (f.canonical.means x) → f.sound x
      → (more : List (Field T)) → OtherNames more
      → LastEncodes name f.encoding.encodes (named (written_field name f.canonical x) ∷ more)
      (f.canonical.means x)
  must_be_meant x legal sound more unknown =
      let tokens = f.canonical.tokens x in
      (tokens, alone_is_last name tokens more unknown, f.reads_back x legal sound)

  -- a name, a colon and a value are cut into their tokens
  named_text : s.IsName name → (ts : List T) (text : List ℕ) → IsValueText c ts text
      → IsValueText c (s.name name ∷ (s.pair.token ∷ ts))
      (s.name_text name ++ s.pair.punctuator ∷ (s.pair.gap ++ text))
  named_text is ts text h =
      pair_written c s.pair.token s.pair.punctuator s.pair.gap s.pair.is_punctuator s.pair.follows
      s.pair.is_gap
      (λ (_ : Unit {0}). s.name name ∷ []) (λ _. s.name_text name) (λ (_ : Unit {0}). ts)
      (λ _. text) (tt, tt) (s.name_is_written name is) h

  pub must_be_written : AreNames s (name ∷ []) → (x : A) → f.encoding.legal (f.canonical.means x)
      → (d : ℕ) → AllByRecursion (IsWrittenField s d) (written_field name f.canonical x ∷ [])
  must_be_written names x legal d =
      let text = f.is_written x legal d in
      (named_text names.each.0 (f.canonical.tokens x) (f.canonical.text d x) text, tt)

  -- a field that is always written, and must be there
  abbrev pub must_field : FieldsCodec s A
  must_field = record {
    canonical = must_write s name f.canonical;
    struct = must_read name f.encoding;
    sound = f.sound;
    are_named = λ P h x. (h.0, tt);
    are_known = (same_name name, tt);
    others_unknown = λ n h. h.0;
    are_taken = λ _ x legal sound. ((f.canonical.means x, f.reads_back x legal sound), tt);
    are_meant = λ _. must_be_meant;
    meant_is_sound = λ x fs h. f.encoded_is_sound x h.0 h.2;
    are_written = must_be_written;
  }

  -- ---- one that may be missing

  abbrev Optional : Codec c g (Option A)
  Optional = option_codec s.none f

  pub may_be_taken : (x : Option A) → Optional.encoding.legal (Optional.canonical.means x)
      → Optional.sound x
      → AllByRecursion (λ w. (m : Meaning) × Optional.encoding.encodes w.tokens m)
      (written_if_some name f.canonical x)
  may_be_taken None legal sound = tt
  may_be_taken (Some x) legal sound =
      ((Optional.canonical.means (Some x), Optional.reads_back (Some x) legal sound), tt)

  pub may_be_meant : (x : Option A) → Optional.encoding.legal (Optional.canonical.means x)
      → Optional.sound x → (more : List (Field T)) → OtherNames more
      → (optional_field name f.encoding).means
      (map named (written_if_some name f.canonical x) ++ more) (Optional.canonical.means x)
  may_be_meant None legal sound more unknown = inl (none_last name more unknown, refl)
  may_be_meant (Some x) legal sound more unknown =
      let tokens = f.canonical.tokens x in
      let encodes = Optional.reads_back (Some x) legal sound in
      inr (tokens, alone_is_last name tokens more unknown, encodes)

  pub may_is_sound : (x : Option A) (fs : List (Field T))
      → (optional_field name f.encoding).means fs (Optional.canonical.means x) → Optional.sound x
  may_is_sound None fs h = tt
  may_is_sound (Some x) fs (inl h) = let e = h.1 in absurd (cc e)
  may_is_sound (Some x) fs (inr h) = Optional.encoded_is_sound (Some x) h.0 h.2

  pub may_be_written : AreNames s (name ∷ []) → (x : Option A)
      → Optional.encoding.legal (Optional.canonical.means x) → (d : ℕ)
      → AllByRecursion (IsWrittenField s d) (written_if_some name f.canonical x)
  may_be_written names None legal d = tt
  may_be_written names (Some x) legal d =
      let text = Optional.is_written (Some x) legal d in
      (named_text names.each.0 (f.canonical.tokens x) (f.canonical.text d x) text, tt)

  -- a field that is not written where it is none, and may be missing
  abbrev pub may_field : FieldsCodec s (Option A)
  may_field = record {
    canonical = may_write s name f.canonical;
    struct = may_read name f.encoding;
    sound = Optional.sound;
    are_named = some_named;
    are_known = (same_name name, tt);
    others_unknown = λ n h. h.0;
    are_taken = λ _. may_be_taken;
    are_meant = λ _. may_be_meant;
    meant_is_sound = may_is_sound;
    are_written = may_be_written;
  }
