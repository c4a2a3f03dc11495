-- What is written of a type that contains itself: a struct, and a variant with its parts.
use Rattle.std.proofs.Common.{◌≡◌, ℕ, List, [], ◌∷◌, ◌++◌, codes, chars, encode_utf8_all, subst}
use Rattle.nano_grammar.specs.FieldCodec.{WrittenField, field_text, fields_text}
use Rattle.nano_grammar.proofs.WrittenLists.{parts_written}
use Rattle.nano_text.specs.Place.{saturating_next}
use Rattle.nano_ron_tokens.specs.Token.{Token}
use Rattle.nano_ron_tokens.specs.Written.{indent}
use Rattle.nano_ron_schema.specs.FieldCodecs.{ron_fields}
use Rattle.nano_ron_schema.specs.Outcomes.{on_lines}
use Rattle.nano_ron_schema.specs.Variants.{content_text}
use Rattle.nano_ron_schema.proofs.WrittenFields.{struct_written}

-- parentheses around fields, with their values at the next level
pub written_between : (d inner : ℕ) (fs : List (WrittenField Token))
    (before opened inside after : List ℕ) → inner ≡ saturating_next d
    → opened ≡ before ++ codes "(\n"
    → inside ≡ opened ++ encode_utf8_all (on_lines inner (field_text ron_fields inner) fs)
    → after ≡ inside ++ (indent d ++ codes ")")
    → after ≡ before ++ encode_utf8_all (fields_text ron_fields d fs)
written_between d inner fs before opened inside after is e h k =
    struct_written d fs before opened inside after e
    (subst (λ n. inside ≡ opened ++ encode_utf8_all (on_lines n (field_text ron_fields n) fs)) is h)
    k

-- the name of a variant with the opening parenthesis, and what comes after it
pub opened_before : (name rest before opened after : List ℕ)
    → opened ≡ before ++ encode_utf8_all (content_text name (40 ∷ []))
    → after ≡ opened ++ encode_utf8_all rest
    → after ≡ before ++ encode_utf8_all (content_text name (40 ∷ rest))
opened_before name rest before opened after e h =
    parts_written before opened after (chars name) (40 ∷ []) rest e h

-- a part with a comma and a space after it, and the other parts
pub part_before : (part rest before middle after : List ℕ)
    → middle ≡ before ++ encode_utf8_all (part ++ 44 ∷ (32 ∷ []))
    → after ≡ middle ++ encode_utf8_all rest
    → after ≡ before ++ encode_utf8_all (part ++ 44 ∷ (32 ∷ rest))
part_before part rest before middle after e h =
    parts_written before middle after part (44 ∷ (32 ∷ [])) rest e h
