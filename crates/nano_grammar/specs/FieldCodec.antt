-- Fields that are written and read back: the canonical text of fields and the shape that reads
-- them.
use Rattle.std.specs.Prelude.{◌≡◌, ℕ, List, ◌∷◌, ◌++◌, map, true, false}
use Rattle.std.specs.List.{AllByRecursion}
use Rattle.nano_value.specs.Meaning.{Meaning}
use Rattle.nano_text.specs.Place.{saturating_next}
use Rattle.nano_grammar.specs.Tokens.{Cutting, IsValueText}
use Rattle.nano_grammar.specs.Codec.{Grammar}
use Rattle.nano_grammar.specs.Items.{no_gaps, laid_out}
use Rattle.nano_grammar.specs.Fields.{FieldStyle, Field, Struct, Differs, AreDistinct}

-- ==== how the fields of a struct are written

-- a field as it is written: its name in bytes of UTF-8, the tokens of its value, and the value's
-- text at a level
pub record WrittenField (T : Type 0) : Type 0 where
  pub name : List ℕ
  pub tokens : List T
  pub text : ℕ → List ℕ

module _ {T : Type 0} {c : Cutting T} {g : Grammar T} (s : FieldStyle c g) where
  -- the name, a colon and the value
  abbrev pub field_tokens : WrittenField T → List T
  field_tokens f = s.name f.name ∷ (s.pair.token ∷ f.tokens)

  abbrev pub field_text : ℕ → WrittenField T → List ℕ
  field_text d f = s.name_text f.name ++ s.pair.punctuator ∷ (s.pair.gap ++ f.text d)

  -- fields between brackets, with their values at the next level
  abbrev pub fields_tokens : List (WrittenField T) → List T
  fields_tokens = laid_out s.list.ends no_gaps s.list.tokens field_tokens

  abbrev pub fields_text : ℕ → List (WrittenField T) → List ℕ
  fields_text d = laid_out s.list.ends (s.list.gaps d) s.list.punctuation
      (field_text (saturating_next d))

  -- which fields are written of a value, each once, in the order in which they are declared. The
  -- names are those of all fields, also of such as are left out where there is nothing to write
  pub record FieldsCanonical (A : Type 0) : Type 1 where
    pub means : A → Meaning
    pub names : List (List ℕ)
    pub fields : A → List (WrittenField T)
    pub same_texts : (x y : A) → means x ≡ means y → (d : ℕ)
        → map (field_text d) (fields x) ≡ map (field_text d) (fields y)

-- ==== fields that are written and read back

-- a written field as it stands in a text
abbrev pub named : {T : Type 0} → WrittenField T → Field T
named f = record { name = f.name; value = f.tokens }

abbrev pub IsKnown : {T : Type 0} → Struct T → List ℕ → Type 0
IsKnown struct name = struct.shape.knows name ≡ true

abbrev pub IsUnknown : {T : Type 0} → Struct T → List ℕ → Type 0
IsUnknown struct name = struct.shape.knows name ≡ false

-- names that a format can write
pub record AreNames {T : Type 0} {c : Cutting T} {g : Grammar T} (s : FieldStyle c g)
    (names : List (List ℕ)) : Type 0 where
  pub each : AllByRecursion s.IsName names

-- a written field is cut into its tokens
abbrev pub IsWrittenField : {T : Type 0} {c : Cutting T} {g : Grammar T} → FieldStyle c g → ℕ
    → WrittenField T → Type 0
IsWrittenField {c = c} s d f = IsValueText c (field_tokens s f) (field_text s d f)

-- the canonical text of fields and a struct that reads them. The struct knows the names that
-- are written and no other. Where no name occurs twice, the written fields of a sound value
-- mean it, whatever unknown fields come after them. What fields mean is sound. Each written
-- field is cut into its tokens
pub record FieldsCodec {T : Type 0} {c : Cutting T} {g : Grammar T} (s : FieldStyle c g)
    (A : Type 0) : Type 1 where
  pub canonical : FieldsCanonical s A
  pub struct : Struct T
  pub sound : A → Type 0
  pub are_named : (P : List ℕ → Type 0) → AllByRecursion P canonical.names → (x : A)
      → AllByRecursion (λ f. P f.name) (canonical.fields x)
  pub are_known : AllByRecursion (IsKnown struct) canonical.names
  pub others_unknown : (name : List ℕ) → AllByRecursion (Differs name) canonical.names
      → IsUnknown struct name
  pub are_taken : AreDistinct canonical.names → (x : A) → struct.shape.legal (canonical.means x)
      → sound x → AllByRecursion (λ f. struct.shape.takes f.name f.tokens) (canonical.fields x)
  pub are_meant : AreDistinct canonical.names → (x : A) → struct.shape.legal (canonical.means x)
      → sound x
      → (more : List (Field T)) → AllByRecursion (λ f. IsUnknown struct f.name) more
      → struct.shape.means (map named (canonical.fields x) ++ more) (canonical.means x)
  pub meant_is_sound : (x : A) (fs : List (Field T)) → struct.shape.means fs (canonical.means x)
      → sound x
  pub are_written : AreNames s canonical.names → (x : A) → struct.shape.legal (canonical.means x)
      → (d : ℕ)
      → AllByRecursion (IsWrittenField s d) (canonical.fields x)
