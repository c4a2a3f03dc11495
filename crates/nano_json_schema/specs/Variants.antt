-- Enums in JSON: a variant without content is its name between quotes; a variant with content
-- stands between braces, its name, a colon and the content.
use Rattle.std.specs.Prelude.{ℕ, List, [], ◌∷◌, ◌++◌, Bool, true, false, string_bytes}
use Rattle.nano_json_tokens.specs.Token.{Token, str, colon, curly_open}
use Rattle.nano_json_tokens.specs.Written.{written_text}
pub use Rattle.nano_grammar.specs.Variants.{Variants, no_variants, unit_variant, variant}
pub use Rattle.nano_grammar.specs.VariantCodec.{Seen, encodings}
pub use Rattle.nano_grammar.proofs.VariantCodecLaws.{variants_codec}
use Rattle.nano_json_schema.specs.declared.variants.VariantName.{VariantName}
use Rattle.nano_json_schema.specs.declared.variants.VariantName.TheVariants.{Unit as Alone}
use Rattle.nano_json_schema.specs.declared.variants.VariantName.TheVariants.{Content as Opened}

-- the name of a variant without content
abbrev pub alone : List ℕ → List Token
alone name = str name ∷ []

-- what stands before the content of a variant with this name
abbrev pub opened : List ℕ → List Token
opened name = curly_open ∷ str name ∷ colon ∷ []

-- `{`, a name, a colon, content, `}`
abbrev pub content_text : List ℕ → List ℕ → List ℕ
content_text name text = 123 ∷ (written_text name ++ 58 ∷ (text ++ 125 ∷ []))

-- ==== what a variant holds in JSON, and how its name stands

-- ---- names

-- a name that is taken stood alone
abbrev pub is_alone : VariantName → Bool
is_alone (Alone name) = true
is_alone (Opened name) = false

abbrev pub bytes_of : VariantName → List ℕ
bytes_of (Alone name) = string_bytes name
bytes_of (Opened name) = string_bytes name
