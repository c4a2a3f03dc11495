-- Named fields in JSON: between braces, with their names as they are between quotes. A
-- field whose name is not known is passed over, or rejected where the struct is strict.
use Rattle.std.specs.Prelude.{◌≡◌, ◌++◌, ◌∷◌, ℕ, true, List, [], Option, ℤ, String, string_bytes}
use Rattle.std.specs.Global.{Global}
use Rattle.std.specs.Int.{w8, w16, w32, w64}
use Rattle.nano_value.specs.Meaning.{Meaning}
use Rattle.nano_grammar.proofs.AliasesLaws.{alias_field}
use Rattle.nano_grammar.proofs.BothFieldsLaws.{also_fields}
use Rattle.nano_grammar.proofs.DefaultsLaws.{default_field}
use Rattle.nano_grammar.specs.FieldCodec.{AreNames, FieldsCanonical, FieldsCodec}
use Rattle.nano_grammar.proofs.FieldCodecLaws.{must_field, may_field}
use Rattle.nano_grammar.proofs.NoFieldsLaws.{no_field}
use Rattle.nano_grammar.specs.Fields.{FieldStyle}
use Rattle.nano_json_tokens.proofs.JsonLaws.{json, curly_style, entry_style, null_style}
use Rattle.nano_json_tokens.proofs.JsonLaws.{curly_brackets, tuple_style, block_brackets}
use Rattle.nano_json_tokens.specs.Cut.{json_grammar}
use Rattle.nano_json_tokens.proofs.ScalarsLaws.{str_injective}
use Rattle.nano_json_tokens.specs.Skipped.{SkippedField}
use Rattle.nano_json_tokens.specs.Token.{Token, str}
use Rattle.nano_json_tokens.proofs.BracketCounts.{skipped_apart}
use Rattle.nano_json_tokens.specs.Names.{IsPlainName, are_plain_names, quoted_name}
use Rattle.nano_json_tokens.proofs.NamesLaws.{name_is_written, each_plain}
pub use Rattle.nano_grammar.proofs.StructCodecLaws.{fields_codec}
use Rattle.nano_grammar.proofs.PairsLaws.{next_codec}
use Rattle.nano_grammar.proofs.TuplesLaws.{last_codec, tuple_codec}
use Rattle.nano_grammar.specs.BaseCodecs.{part_style}
use Rattle.nano_json.specs.Codec.{Codec, codec_as}
use Rattle.nano_json.specs.ScalarCodecs.{unsigned_codec, signed_codec, below_8, below_16, below_32}
use Rattle.nano_json.specs.ScalarCodecs.{below_64, within_8, within_16, within_32, within_64}
use Rattle.nano_json.specs.ScalarCodecs.{text_codec}
pub use Rattle.nano_json.specs.ContainerCodecs.{array_codec, pair_codec, triple_codec}

-- what may come after a name that is not known, of which nothing is a proper prefix of another
pub record AfterUnknown : Type 1 where
  pub Value : List Token → Type 0
  pub apart : (us more : List Token) → Value us → Value (us ++ more) → more ≡ []

-- a value of any type, which is passed over
abbrev pub passed_over : AfterUnknown
passed_over = record { Value = SkippedField; apart = skipped_apart }

-- nothing: no field has such a name
abbrev pub nothing_after : AfterUnknown
nothing_after = record { Value = λ us. ⊥; apart = λ us more h k. absurd h }

-- so none goes on
pub goes_nowhere : (unknown : AfterUnknown) (us more : List Token) (t : Token) → unknown.Value us
    → unknown.Value (us ++ t ∷ more) → ⊥
goes_nowhere unknown us more t h k =
    let none = unknown.apart us (t ∷ more) h k in
    cc none

-- fields with this after a name that is not known
abbrev pub fields_with : AfterUnknown → FieldStyle json json_grammar
fields_with unknown = record {
  list = curly_style;
  brackets = curly_brackets;
  pair = entry_style;
  none = null_style;
  name = λ name. str name;
  injective = str_injective;
  begins = λ name. tt;
  Skipped = unknown.Value;
  skipped_apart = λ us more t h k. absurd (goes_nowhere unknown us more t h k);
  IsName = IsPlainName;
  name_text = quoted_name;
  name_is_written = name_is_written;
}

abbrev pub json_fields : FieldStyle json json_grammar
json_fields = fields_with passed_over

-- fields of a strict struct: each name is known
abbrev pub strict_fields : FieldStyle json json_grammar
strict_fields = fields_with nothing_after

-- ---- the schema of a user-defined struct

-- a field that must be there
abbrev pub required_field : {A : Type 0} → List ℕ → Codec A → FieldsCodec json_fields A
required_field = must_field json_fields

-- a field that is always written, and has a default where it is missing
abbrev pub defaulted_field : {A : Type 0} → List ℕ → Codec A → Meaning
    → FieldsCodec json_fields A
defaulted_field = default_field json_fields

-- a field that may be missing, and is not written where it is none
abbrev pub optional_field : {A : Type 0} → List ℕ → Codec A
    → FieldsCodec json_fields (Option A)
optional_field = may_field json_fields

-- a field with an alias and an own name
abbrev pub aliased_field : {A : Type 0} → List ℕ → List ℕ → FieldsCodec json_fields A
    → FieldsCodec json_fields A
aliased_field = alias_field

-- no fields
abbrev pub no_fields : {A : Type 0} → FieldsCodec json_fields A
no_fields = no_field json_fields

-- fields, and more fields
abbrev pub fields_pair : {A B : Type 0} → FieldsCodec json_fields A → FieldsCodec json_fields B
    → FieldsCodec json_fields (A × B)
fields_pair = also_fields

-- the same fields of a strict struct. What is written is the same, and what the fields of a text mean
abbrev pub strict_canonical : {A : Type 0} → FieldsCanonical json_fields A
    → FieldsCanonical strict_fields A
strict_canonical f = record {
  means = f.means;
  names = f.names;
  fields = f.fields;
  same_texts = f.same_texts;
}

abbrev pub strict : {A : Type 0} → FieldsCodec json_fields A → FieldsCodec strict_fields A
strict f = record {
  canonical = strict_canonical f.canonical;
  struct = f.struct;
  sound = f.sound;
  are_named = f.are_named;
  are_known = f.are_known;
  others_unknown = f.others_unknown;
  are_taken = f.are_taken;
  are_meant = f.are_meant;
  meant_is_sound = f.meant_is_sound;
  are_written = λ names. f.are_written (record { each = names.each });
}

-- plain names can be written: `plain_names refl` checks it for given names
pub plain_names : {names : List (List ℕ)} → are_plain_names names ≡ true
    → AreNames json_fields names
plain_names {names} h = record { each = each_plain names h }

pub strict_names : {names : List (List ℕ)} → are_plain_names names ≡ true
    → AreNames strict_fields names
strict_names {names} h = record { each = each_plain names h }

-- ==== parts of tuple structs

abbrev pub u8_codec : Codec ℕ
u8_codec = unsigned_codec 8 below_8

abbrev pub u16_codec : Codec ℕ
u16_codec = unsigned_codec 16 below_16

abbrev pub u32_codec : Codec ℕ
u32_codec = unsigned_codec 32 below_32

abbrev pub u64_codec : Codec ℕ
u64_codec = unsigned_codec 64 below_64

abbrev pub usize_codec : Codec ℕ
usize_codec = unsigned_codec 64 below_64

abbrev pub i8_codec : Codec ℤ
i8_codec = signed_codec w8 within_8

abbrev pub i16_codec : Codec ℤ
i16_codec = signed_codec w16 within_16

abbrev pub i32_codec : Codec ℤ
i32_codec = signed_codec w32 within_32

abbrev pub i64_codec : Codec ℤ
i64_codec = signed_codec w64 within_64

abbrev pub string_codec : Codec (String Global)
string_codec = codec_as (λ x. string_bytes x) text_codec

-- a tuple of one part
abbrev pub single_codec : {A : Type 0} → Codec A → Codec A
single_codec f =
    tuple_codec tuple_style block_brackets (last_codec tuple_style block_brackets f)

-- a part and the comma after it, and the parts that follow with the closing bracket
abbrev pub next_part : {A B : Type 0} → Codec A → Codec B → Codec (A × B)
next_part f others = next_codec (part_style tuple_style) block_brackets.divides f others

-- the opening bracket, and a row of parts after it
abbrev pub row_codec : {A : Type 0} → Codec A → Codec A
row_codec parts = tuple_codec tuple_style block_brackets parts
