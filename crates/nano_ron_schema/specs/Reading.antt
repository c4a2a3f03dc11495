-- What encodes the fields and the variants of user-defined types in RON.
use Rattle.std.specs.Prelude.{◌≡◌, ◌⊎◌, ℕ, List, [], ◌∷◌, ◌++◌}
use Rattle.nano_value.specs.Meaning.{Meaning}
use Rattle.nano_grammar.specs.Fields.{Field as FieldOf, EncodedField as EncodedFieldOf}
use Rattle.nano_grammar.specs.Fields.{EncodedNamed as EncodedNamedOf, Allowed as AllowedOf}
use Rattle.nano_grammar.specs.Fields.{EncodedFields, Shape as ShapeOf}
use Rattle.nano_ron_tokens.specs.Token.{Token, ident, colon, comma, paren_close}
use Rattle.nano_ron_schema.specs.FieldCodecs.{AfterUnknown, fields_with, open_fields, ron_fields}
use Rattle.nano_grammar.specs.Codec.{Encoding as EncodingOf}
use Rattle.nano_grammar.specs.Choices.{Rest, EncodesRest as EncodesRestOf}
use Rattle.nano_grammar.specs.Variants.{Closed as ClosedIn, Variants as VariantsOf}
use Rattle.nano_grammar.specs.Variants.{EncodesVariant as EncodesVariantOf}
use Rattle.nano_ron_tokens.specs.Cut.{ron_grammar}
use Rattle.nano_ron_schema.specs.VariantCodecs.{ron_variants}
use Rattle.nano_ron_schema.specs.Variants.{named}

-- a field of a text: its name, in bytes of UTF-8, and the tokens of its value
abbrev pub Field : Type 0
Field = FieldOf Token

-- which names are known, what may come after them, and what a list of fields means
abbrev pub Shape : Type 1
Shape = ShapeOf Token

-- a name and a colon
abbrev pub head : List ℕ → List Token
head name = ident name ∷ (colon ∷ [])

-- after a known name what it takes, after any other what may come there
abbrev pub Allowed : AfterUnknown → Shape → List ℕ → List Token → Type 0
Allowed unknown = AllowedOf (fields_with unknown)

-- a name, a colon, and what may come after that name
abbrev pub EncodesField : AfterUnknown → Shape → List Token → Field → Type 0
EncodesField unknown shape = EncodedFieldOf (fields_with unknown) (Allowed unknown shape)

-- this name, a colon, and what encodes the value
abbrev pub EncodesNamed : {A : Type 0} → List ℕ → (List Token → A → Type 0) → List Token → A
    → Type 0
EncodesNamed = EncodedNamedOf ron_fields

-- these tokens and what divides a list after them: the comma, or the closing parenthesis
abbrev pub Divided : {A : Type 0} → (List Token → A → Type 0) → List Token → A → Type 0
Divided S ts x =
    (us : List Token) × (t : Token) × (ts ≡ us ++ t ∷ []) × S us x
    × ((t ≡ comma) ⊎ (t ≡ paren_close))

-- named fields between parentheses, each of a known name, and what they mean
abbrev pub EncodesFields : Shape → List Token → Meaning → Type 0
EncodesFields shape = EncodedFields ron_fields shape

-- named fields between parentheses, also of other names, and what they mean
abbrev pub EncodesOpenFields : Shape → List Token → Meaning → Type 0
EncodesOpenFields shape = EncodedFields open_fields shape

-- the one or the other, by what may come after a name that is not known
abbrev pub EncodesFieldsWith : AfterUnknown → Shape → List Token → Meaning → Type 0
EncodesFieldsWith unknown shape = EncodedFields (fields_with unknown) shape

-- ==== variants

-- what a variant begins with
abbrev pub VariantBegins : List Token → List ℕ → Type 0
VariantBegins ts name = ts ≡ named name

-- content, after which nothing comes
abbrev pub Closed : (List Token → Meaning → Type 0) → List Token → Meaning → Type 0
Closed = ClosedIn ron_variants

-- what comes after the name of a variant: nothing, or content
abbrev pub EncodesRest : Rest ron_grammar → List Token → Meaning → Type 0
EncodesRest = EncodesRestOf ron_variants

-- the variants of an enum, each with its name, and with what encodes its content if it has one
abbrev pub Encodings : Type 1
Encodings = VariantsOf (EncodingOf ron_grammar)

-- the name of a variant, and its content if it has one
abbrev pub EncodesVariant : Encodings → List Token → Meaning → Type 0
EncodesVariant = EncodesVariantOf ron_variants
