-- What is written of a struct that contains itself, or of a variant with named fields.
use Rattle.std.specs.Prelude.{Bool}
use Rattle.std.proofs.Common.{◌≡◌, ℕ, true, List, [], ◌∷◌, ◌++◌, encode_utf8_all, subst}
use Rattle.std.proofs.Common.{◌∙◌, ap, append_assoc, lit<, sym}
use Rattle.std.proofs.lemmas.Str.{encode_ascii, encodes-append}
use Rattle.nano_grammar.specs.FieldCodec.{WrittenField, field_text, fields_text}
use Rattle.nano_text.specs.Place.{saturating_next}
use Rattle.nano_json_tokens.specs.Token.{Token}
use Rattle.nano_json_schema.specs.FieldCodecs.{json_fields}
use Rattle.nano_json_schema.specs.Outcomes.{in_a_row, none_yet}
use Rattle.nano_json_schema.proofs.WrittenFields.{struct_written}

-- brackets around fields, with their values at the next level
pub written_between : (d inner : ℕ) (fs : List (WrittenField Token))
    (before opened inside after : List ℕ) → inner ≡ saturating_next d
    → opened ≡ before ++ 123 ∷ []
    → inside ≡ opened ++ encode_utf8_all (in_a_row true (field_text json_fields inner) fs)
    → after ≡ inside ++ 125 ∷ []
    → after ≡ before ++ encode_utf8_all (fields_text json_fields d fs)
written_between d inner fs before opened inside after is e h k =
    struct_written d fs before opened inside after e
    (subst (λ n. inside ≡ opened ++ encode_utf8_all (in_a_row true (field_text json_fields n) fs))
    is h) k

-- whether none comes before what follows fields and more fields
pub none_so_far : {A : Type 0} (first second third : Bool) (xs ys : List A)
    → second ≡ none_yet first xs → third ≡ none_yet second ys → third ≡ none_yet first (xs ++ ys)
none_so_far first second third [] ys e k = k ∙ ap (λ b. none_yet b ys) e
none_so_far first second third (x ∷ xs) [] e k = k ∙ e
none_so_far first second third (x ∷ xs) (y ∷ ys) e k = k

-- a name, a colon and content between braces
pub named_between : (name body before opened named colon inside after : List ℕ)
    → opened ≡ before ++ 123 ∷ [] → named ≡ opened ++ encode_utf8_all name
    → colon ≡ named ++ 58 ∷ [] → inside ≡ colon ++ encode_utf8_all body
    → after ≡ inside ++ 125 ∷ []
    → after ≡ before ++ encode_utf8_all (123 ∷ (name ++ 58 ∷ (body ++ 125 ∷ [])))
named_between name body before opened named colon inside after e h k m n =
    let words = encode_utf8_all name in
    let content = encode_utf8_all body in
    let start = before ++ 123 ∷ [] in
    let closed : encode_utf8_all (body ++ 125 ∷ []) ≡ content ++ 125 ∷ [] =
    encodes-append body (125 ∷ []) ∙ (λ j. content ++ (encode_ascii 125 (lit< tt) j ++ [])) in
    let rest : encode_utf8_all (name ++ 58 ∷ (body ++ 125 ∷ []))
    ≡ words ++ 58 ∷ (content ++ 125 ∷ []) =
    encodes-append name (58 ∷ (body ++ 125 ∷ []))
    ∙ (λ j. words ++ (encode_ascii 58 (lit< tt) j ++ closed j)) in
    let inner : encode_utf8_all (123 ∷ (name ++ 58 ∷ (body ++ 125 ∷ [])))
    ≡ 123 ∷ (words ++ 58 ∷ (content ++ 125 ∷ [])) =
    λ i. encode_ascii 123 (lit< tt) i ++ rest i in
    n
    ∙ (ap (λ l. l ++ 125 ∷ []) (m ∙ ap (λ l. l ++ content)
    (k ∙ ap (λ l. l ++ 58 ∷ []) (h ∙ ap (λ l. l ++ words) e)))
    ∙ (append_assoc ((start ++ words) ++ 58 ∷ []) content (125 ∷ [])
    ∙ (append_assoc (start ++ words) (58 ∷ []) (content ++ 125 ∷ [])
    ∙ (append_assoc start words (58 ∷ (content ++ 125 ∷ []))
    ∙ (append_assoc before (123 ∷ []) (words ++ 58 ∷ (content ++ 125 ∷ []))
    ∙ ap (λ l. before ++ l) (sym inner))))))
