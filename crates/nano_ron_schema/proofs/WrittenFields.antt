-- What is written of fields, one below the other, in bytes.
use Rattle.std.proofs.Common.{◌≡◌, ℕ, List, [], ◌∷◌, ◌++◌, IsUtf8, chars, codes, encode_utf8_all}
use Rattle.std.proofs.Common.{Result, Ok, Err, OnOk, if◌then◌else◌, refl, sym, ◌∙◌, ap}
use Rattle.std.proofs.Common.{append_assoc, lit<}
use Rattle.std.specs.Result.{is_ok}
use Rattle.std.proofs.Math.Utf8.{encode}
use Rattle.std.proofs.lemmas.Grind.{flat_map-append}
use Rattle.std.proofs.lemmas.Str.{encodes-append, encode_ascii, encodes-chars}
use Rattle.nano_grammar.proofs.WrittenLists.{items_are_ended, both_written}
use Rattle.nano_grammar.specs.FieldCodec.{WrittenField, field_text, fields_text}
use Rattle.nano_text.specs.Place.{saturating_next}
use Rattle.nano_ron_tokens.specs.Token.{paren_punctuation, Token}
use Rattle.nano_ron_tokens.specs.Written.{lines, indent}
use Rattle.nano_ron.proofs.Canonical.{indent_written, closed_written}
use Rattle.nano_ron_schema.specs.FieldCodecs.{ron_fields}
use Rattle.nano_ron_schema.specs.Outcomes.{on_a_line, on_lines}

-- the bytes of an indent, a name and a colon
label_bytes : (d : ℕ) (name : List ℕ) → IsUtf8 name
    → encode_utf8_all (indent d ++ (chars name ++ 58 ∷ [])) ≡ indent d ++ (name ++ 58 ∷ [])
label_bytes d name utf8 =
    let spaces = sym (indent_written [] (indent d) d refl) in
    let colon = encode_ascii 58 (lit< tt) in
    let named =
    encodes-append (chars name) (58 ∷ [])
    ∙ (λ j. encodes-chars name utf8 j ++ (colon j ++ [])) in
    encodes-append (indent d) (chars name ++ 58 ∷ []) ∙ (λ i. spaces i ++ named i)

-- a name, a colon and a value on a line
label_joined : (d : ℕ) (name text : List ℕ)
    → (indent d ++ (chars name ++ 58 ∷ [])) ++ (text ++ 44 ∷ (10 ∷ []))
    ≡ on_a_line d (chars name ++ 58 ∷ text)
label_joined d name text =
    let end = 44 ∷ (10 ∷ []) in
    append_assoc (indent d) (chars name ++ 58 ∷ []) (text ++ end)
    ∙ ap (λ l. indent d ++ l) (append_assoc (chars name) (58 ∷ []) (text ++ end)
    ∙ sym (append_assoc (chars name) (58 ∷ text) end))

pub field_on_a_line : (d : ℕ) (before labelled valued after name text : List ℕ) → IsUtf8 name
    → labelled ≡ before ++ (indent d ++ (name ++ codes ":"))
    → valued ≡ labelled ++ encode_utf8_all text
    → after ≡ valued ++ codes ",\n"
    → after ≡ before ++ encode_utf8_all (on_a_line d (chars name ++ 58 ∷ text))
unfolding encode
field_on_a_line d before labelled valued after name text utf8 e h k =
    let label = indent d ++ (chars name ++ 58 ∷ []) in
    let end = 44 ∷ (10 ∷ []) in
    let first = e ∙ ap (λ l. before ++ l) (sym (label_bytes d name utf8)) in
    both_written before labelled after label (text ++ end) first
    (both_written labelled valued after text end h k)
    ∙ ap (λ l. before ++ encode_utf8_all l) (label_joined d name text)

-- fields, and more fields, one below the other
pub more_lines : {A : Type 0} (d : ℕ) (W : A → List ℕ) (xs ys : List A)
    (before middle after : List ℕ)
    → middle ≡ before ++ encode_utf8_all (on_lines d W xs)
    → after ≡ middle ++ encode_utf8_all (on_lines d W ys)
    → after ≡ before ++ encode_utf8_all (on_lines d W (xs ++ ys))
more_lines d W xs ys before middle after e k =
    both_written before middle after (on_lines d W xs) (on_lines d W ys) e k
    ∙ ap (λ l. before ++ encode_utf8_all l) (sym (flat_map-append (λ x. on_a_line d (W x)) xs ys))

-- parentheses around fields
pub struct_written : (d : ℕ) (fs : List (WrittenField Token)) (before opened inside after : List ℕ)
    → opened ≡ before ++ codes "(\n"
    → inside ≡ opened ++ encode_utf8_all
    (on_lines (saturating_next d) (field_text ron_fields (saturating_next d)) fs)
    → after ≡ inside ++ (indent d ++ codes ")")
    → after ≡ before ++ encode_utf8_all (fields_text ron_fields d fs)
unfolding encode
struct_written d fs before opened inside after e h k =
    let each = field_text ron_fields (saturating_next d) in
    let row = on_lines (saturating_next d) each fs in
    let start = 40 ∷ (10 ∷ []) in
    let end = indent d ++ 41 ∷ [] in
    let apart = k ∙ sym (append_assoc inside (indent d) (41 ∷ [])) in
    let closing = closed_written inside (inside ++ indent d) after d 41 refl apart in
    let opening = both_written before opened inside start row e h in
    both_written before inside after (start ++ row) end opening closing
    ∙ ap (λ l. before ++ encode_utf8_all (40 ∷ (10 ∷ l)))
    (sym (items_are_ended (lines d) paren_punctuation each fs))

-- a name that was pushed
pub name_pushed : {T E : Type 0} (r : Result T E) (before after name : List ℕ) → IsUtf8 name
    → after ≡ (if is_ok r then before ++ name else before)
    → OnOk r (after ≡ before ++ encode_utf8_all (chars name))
name_pushed (Ok x) before after name utf8 e =
    e ∙ ap (λ l. before ++ l) (sym (encodes-chars name utf8))
name_pushed (Err x) before after name utf8 e = tt
