-- Enums in RON: a variant is its name, and its content comes directly after it: the parts of a
-- tuple or named fields, between parentheses.
use Rattle.std.specs.Prelude.{◌≡◌, ℕ, ◌==◌, true, List, [], ◌∷◌, ◌++◌, chars}
use Rattle.nano_text.specs.Characters.{first_is}
use Rattle.nano_ron_tokens.specs.Token.{Token, ident}
pub use Rattle.nano_grammar.specs.Variants.{Variants, no_variants, unit_variant, variant}
pub use Rattle.nano_grammar.specs.VariantCodec.{Seen, encodings}
pub use Rattle.nano_grammar.proofs.VariantCodecLaws.{variants_codec}

-- the name of a variant
abbrev pub named : List ℕ → List Token
named name = ident name ∷ []

-- a name with content after it
abbrev pub content_text : List ℕ → List ℕ → List ℕ
content_text name text = chars name ++ text

-- the text begins with a parenthesis
abbrev pub InParentheses : List ℕ → Type 0
InParentheses text = first_is (λ c. c == 40) text ≡ true
