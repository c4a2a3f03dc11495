-- Codecs of structs in RON: named fields between parentheses.
use Rattle.std.specs.Prelude.{List, ◌∷◌, ◌++◌, ◌≡◌, ◌≢◌, ℕ, true, Option, chars}
use Rattle.nano_ron_tokens.specs.Token.{Token, parens, paren_punctuation, ident, comma}
use Rattle.nano_ron_tokens.specs.Token.{paren_close}
use Rattle.nano_ron_tokens.specs.Skipped.{SkippedField}
use Rattle.nano_ron_tokens.proofs.BracketCounts.{skipped_in_list}
pub use Rattle.nano_grammar.proofs.StructCodecLaws.{fields_codec}
use Rattle.nano_value.specs.Meaning.{Meaning}
use Rattle.nano_grammar.specs.Codec.{Codec, ListStyle}
use Rattle.nano_grammar.proofs.AliasesLaws.{alias_field}
use Rattle.nano_grammar.proofs.BothFieldsLaws.{also_fields}
use Rattle.nano_grammar.proofs.DefaultsLaws.{default_field}
use Rattle.nano_grammar.specs.FieldCodec.{AreNames, FieldsCanonical, FieldsCodec}
use Rattle.nano_grammar.proofs.FieldCodecLaws.{must_field, may_field}
use Rattle.nano_grammar.proofs.NoFieldsLaws.{no_field}
use Rattle.nano_grammar.proofs.PairsLaws.{next_codec}
use Rattle.nano_grammar.proofs.TuplesLaws.{tuple_codec}
use Rattle.nano_grammar.specs.BaseCodecs.{part_style}
use Rattle.nano_grammar.specs.Fields.{FieldStyle}
use Rattle.nano_ron_tokens.specs.Cut.{IsName, ron_grammar}
use Rattle.nano_ron_tokens.proofs.RonLaws.{ron, parens_are, paren_brackets}
use Rattle.nano_ron_tokens.proofs.ScalarsLaws.{none_style}
use Rattle.nano_ron_tokens.specs.Written.{lines}
use Rattle.nano_ron_tokens.proofs.StylesLaws.{lines_written, entry_style, tuple_style}
use Rattle.nano_ron_tokens.specs.Names.{are_names}
use Rattle.nano_ron_tokens.proofs.NamesLaws.{name_is_written, good_names}

-- ==== codecs of structs

-- what may come after a name that is not known: where that begins something else that may, neither
-- the comma nor the closing parenthesis goes on with it
pub record AfterUnknown : Type 1 where
  pub Value : List Token → Type 0
  pub apart : (us more : List Token) (t : Token) → Value us → Value (us ++ t ∷ more)
      → (t ≢ comma) × (t ≢ paren_close)

-- nothing: no field has such a name
abbrev pub nothing_after : AfterUnknown
nothing_after = record { Value = λ us. ⊥; apart = λ us more t h k. absurd h }

-- a value of any type, which is passed over
abbrev pub passed_over : AfterUnknown
passed_over = record { Value = SkippedField; apart = skipped_in_list }

-- each field on a line of its own, with a comma after it
abbrev pub field_lines : ListStyle ron
field_lines = record {
  tokens = parens;
  punctuation = paren_punctuation;
  punctuation_is = parens_are;
  ends = true;
  gaps = lines;
  gaps_are = lines_written paren_punctuation;
}

pub ident_injective : (m n : List ℕ) → ident m ≡ ident n → m ≡ n
ident_injective m n e = cc e

-- fields with this after a name that is not known
abbrev pub fields_with : AfterUnknown → FieldStyle ron ron_grammar
fields_with unknown = record {
  list = field_lines;
  brackets = paren_brackets;
  pair = entry_style;
  none = none_style;
  name = λ name. ident name;
  injective = ident_injective;
  begins = λ name. tt;
  Skipped = unknown.Value;
  skipped_apart = unknown.apart;
  IsName = IsName;
  name_text = λ name. chars name;
  name_is_written = name_is_written;
}

-- each name is known
abbrev pub ron_fields : FieldStyle ron ron_grammar
ron_fields = fields_with nothing_after

-- fields of an open struct: one whose name is not known is passed over
abbrev pub open_fields : FieldStyle ron ron_grammar
open_fields = fields_with passed_over

-- ---- the schema of a user-defined struct

-- a field that must be there
abbrev pub required_field : {A : Type 0} → List ℕ → Codec ron ron_grammar A → FieldsCodec ron_fields A
required_field = must_field ron_fields

-- a field that is always written, and has a default where it is missing
abbrev pub defaulted_field : {A : Type 0} → List ℕ → Codec ron ron_grammar A → Meaning
    → FieldsCodec ron_fields A
defaulted_field = default_field ron_fields

-- a field that may be missing, and is not written where it is none
abbrev pub optional_field : {A : Type 0} → List ℕ → Codec ron ron_grammar A → FieldsCodec ron_fields (Option A)
optional_field = may_field ron_fields

-- a field with an alias and an own name
abbrev pub aliased_field : {A : Type 0} → List ℕ → List ℕ → FieldsCodec ron_fields A
    → FieldsCodec ron_fields A
aliased_field = alias_field

-- no fields
abbrev pub no_fields : {A : Type 0} → FieldsCodec ron_fields A
no_fields = no_field ron_fields

-- fields, and more fields
abbrev pub fields_pair : {A B : Type 0} → FieldsCodec ron_fields A → FieldsCodec ron_fields B
    → FieldsCodec ron_fields (A × B)
fields_pair = also_fields

-- the same fields of an open struct. What is written is the same, and what the fields of a text mean
abbrev pub open_canonical : {A : Type 0} → FieldsCanonical ron_fields A
    → FieldsCanonical open_fields A
open_canonical f = record {
  means = f.means;
  names = f.names;
  fields = f.fields;
  same_texts = f.same_texts;
}

abbrev pub open_codec : {A : Type 0} → FieldsCodec ron_fields A → FieldsCodec open_fields A
open_codec f = record {
  canonical = open_canonical f.canonical;
  struct = f.struct;
  sound = f.sound;
  are_named = f.are_named;
  are_known = f.are_known;
  others_unknown = f.others_unknown;
  are_taken = f.are_taken;
  are_meant = f.are_meant;
  meant_is_sound = f.meant_is_sound;
  are_written = λ names. f.are_written (record { each = names.each });
}

-- words but `true` and `false` can be written: `word_names refl` proves it of names that are
-- given
pub word_names : {names : List (List ℕ)} → are_names names ≡ true → AreNames ron_fields names
word_names {names} h = record { each = good_names names h }

pub open_names : {names : List (List ℕ)} → are_names names ≡ true → AreNames open_fields names
open_names {names} h = record { each = good_names names h }

-- ==== parts of tuple structs

-- a part and the comma after it, and the parts that follow with the closing parenthesis
abbrev pub next_part : {A B : Type 0} → Codec ron ron_grammar A → Codec ron ron_grammar B
    → Codec ron ron_grammar (A × B)
next_part f others = next_codec (part_style tuple_style) paren_brackets.divides f others

-- the opening parenthesis, and a row of parts after it
abbrev pub row_codec : {A : Type 0} → Codec ron ron_grammar A → Codec ron ron_grammar A
row_codec parts = tuple_codec tuple_style paren_brackets parts
