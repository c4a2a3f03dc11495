-- What is written for fields, one after the other, in bytes.
use Rattle.std.proofs.Common.{◌≡◌, ℕ, Bool, true, false, cond, List, [], ◌∷◌, ◌++◌, IsUtf8, chars}
use Rattle.std.proofs.Common.{encode_utf8_all, refl, sym, ◌∙◌, ap, append_assoc, append-nil, lit<}
use Rattle.std.proofs.lemmas.Str.{encodes-append, encode_ascii, encodes-chars}
use Rattle.nano_grammar.specs.Items.{no_gaps, laid_out, after_item}
use Rattle.nano_grammar.specs.FieldCodec.{WrittenField, field_text, fields_text}
use Rattle.nano_text.specs.Place.{saturating_next}
use Rattle.nano_json_tokens.specs.Token.{curly_punctuation, Token}
use Rattle.nano_json_schema.specs.FieldCodecs.{json_fields}
use Rattle.nano_json_schema.specs.Outcomes.{after_comma, in_a_row, none_yet}
use Rattle.nano_json_tokens.specs.Names.{quoted_name}

-- the bytes of a name between quotes, a colon and a value
pub field_bytes : (name text : List ℕ) → IsUtf8 name
    → encode_utf8_all (quoted_name name ++ 58 ∷ text) ≡
    (34 ∷ (name ++ 34 ∷ (58 ∷ []))) ++ encode_utf8_all text
field_bytes name text utf8 =
    let quote = encode_ascii 34 (lit< tt) in
    let colon = encode_ascii 58 (lit< tt) in
    let rest = encode_utf8_all text in
    let inside =
    encodes-append (chars name) (34 ∷ (58 ∷ text))
    ∙ (λ j. encodes-chars name utf8 j ++ (quote j ++ (colon j ++ rest))) in
    ap (λ l. encode_utf8_all (34 ∷ l)) (append_assoc (chars name) (34 ∷ []) (58 ∷ text))
    ∙ ((λ i. quote i ++ inside i) ∙ ap (λ l. 34 ∷ l) (sym (append_assoc name (34 ∷ (58 ∷ [])) rest)))

-- the comma before what is not the first
abbrev pub comma_before : Bool → List ℕ
comma_before first = cond first [] (44 ∷ [])

pub comma_written : (first : Bool) (before opened : List ℕ) → first ≡ false
    → opened ≡ before ++ 44 ∷ [] → opened ≡ before ++ comma_before first
comma_written first before opened no_first e = rw no_first e

pub no_comma_written : (first : Bool) (before : List ℕ) → first ≡ true
    → before ≡ before ++ comma_before first
no_comma_written first before is_first = rw is_first (sym (append-nil before))

after_comma_bytes : (first : Bool) (text : List ℕ)
    → encode_utf8_all (after_comma first text) ≡ comma_before first ++ encode_utf8_all text
after_comma_bytes true text = refl
after_comma_bytes false text = ap (λ l. l ++ encode_utf8_all text) (encode_ascii 44 (lit< tt))

-- a comma where one is due, a name and a value make a field in a row
pub field_after_comma : (first : Bool) (before opened following after name text : List ℕ)
    → IsUtf8 name → opened ≡ before ++ comma_before first
    → following ≡ opened ++ (34 ∷ (name ++ 34 ∷ (58 ∷ [])))
    → after ≡ following ++ encode_utf8_all text
    → after ≡ before ++ encode_utf8_all (after_comma first (quoted_name name ++ 58 ∷ text))
field_after_comma first before opened following after name text utf8 e h k =
    let comma = comma_before first in
    let label = 34 ∷ (name ++ 34 ∷ (58 ∷ [])) in
    let value = encode_utf8_all text in
    let field =
    ap (λ l. comma ++ l) (sym (field_bytes name text utf8))
    ∙ sym (after_comma_bytes first (quoted_name name ++ 58 ∷ text)) in
    k
    ∙ ((λ i. (h ∙ ap (λ l. l ++ label) e) i ++ value)
    ∙ (append_assoc (before ++ comma) label value
    ∙ (append_assoc before comma (label ++ value) ∙ ap (λ l. before ++ l) field)))

module _ {A : Type 0} (W : A → List ℕ) where
  -- none is the first after one that is not
  never_first : (xs ys : List A)
      → in_a_row false W (xs ++ ys) ≡ in_a_row false W xs ++ in_a_row false W ys
  never_first [] ys = refl
  never_first (x ∷ xs) ys =
      ap (λ l. after_comma false (W x) ++ l) (never_first xs ys)
      ∙ sym (append_assoc (after_comma false (W x)) (in_a_row false W xs) (in_a_row false W ys))

  -- items in a row, and more items
  row-append : (first : Bool) (xs ys : List A)
      → in_a_row first W (xs ++ ys) ≡ in_a_row first W xs ++ in_a_row (none_yet first xs) W ys
  row-append first [] ys = refl
  row-append first (x ∷ xs) ys =
      ap (λ l. after_comma first (W x) ++ l) (never_first xs ys)
      ∙ sym (append_assoc (after_comma first (W x)) (in_a_row false W xs) (in_a_row false W ys))

  -- fields, and more fields, one after the other
  pub more_fields : (first next : Bool) (xs ys : List A) (before middle after : List ℕ)
      → middle ≡ before ++ encode_utf8_all (in_a_row first W xs)
      → next ≡ none_yet first xs
      → after ≡ middle ++ encode_utf8_all (in_a_row next W ys)
      → after ≡ before ++ encode_utf8_all (in_a_row first W (xs ++ ys))
  more_fields first next xs ys before middle after e n k =
      let one = in_a_row first W xs in
      let other = in_a_row (none_yet first xs) W ys in
      let joined =
      sym (encodes-append one other) ∙ ap (λ l. encode_utf8_all l) (sym (row-append first xs ys)) in
      k
      ∙ ((λ i. e i ++ encode_utf8_all (in_a_row (n i) W ys))
      ∙ (append_assoc before (encode_utf8_all one) (encode_utf8_all other)
      ∙ ap (λ l. before ++ l) joined))

  -- items in a row between brackets are laid out with no gaps
  after_is : (xs : List A)
      → after_item false no_gaps curly_punctuation W xs ≡ in_a_row false W xs ++ 125 ∷ []
  after_is [] = refl
  after_is (x ∷ xs) =
      ap (λ l. 44 ∷ (W x ++ l)) (after_is xs)
      ∙ sym (append_assoc (after_comma false (W x)) (in_a_row false W xs) (125 ∷ []))

  pub row_is : (xs : List A)
      → laid_out false no_gaps curly_punctuation W xs ≡ 123 ∷ (in_a_row true W xs ++ 125 ∷ [])
  row_is [] = refl
  row_is (x ∷ xs) =
      ap (λ l. 123 ∷ (W x ++ l)) (after_is xs)
      ∙ ap (λ l. 123 ∷ l) (sym (append_assoc (W x) (in_a_row false W xs) (125 ∷ [])))

-- brackets around fields
pub struct_written : (d : ℕ) (fs : List (WrittenField Token)) (before opened inside after : List ℕ)
    → opened ≡ before ++ 123 ∷ []
    → inside ≡ opened ++ encode_utf8_all (in_a_row true (field_text json_fields (saturating_next d)) fs)
    → after ≡ inside ++ 125 ∷ []
    → after ≡ before ++ encode_utf8_all (fields_text json_fields d fs)
struct_written d fs before opened inside after e h k =
    let row = in_a_row true (field_text json_fields (saturating_next d)) fs in
    let items = encode_utf8_all row in
    let brackets : encode_utf8_all (123 ∷ (row ++ 125 ∷ [])) ≡ 123 ∷ (items ++ 125 ∷ []) =
    λ i. encode_ascii 123 (lit< tt) i
    ++ (encodes-append row (125 ∷ []) ∙ (λ j. items ++ (encode_ascii 125 (lit< tt) j ++ []))) i in
    let is = row_is (field_text json_fields (saturating_next d)) fs in
    let whole = sym (ap (λ l. encode_utf8_all l) is ∙ brackets) in
    k
    ∙ ((λ i. (h ∙ ap (λ l. l ++ items) e) i ++ 125 ∷ [])
    ∙ (append_assoc (before ++ 123 ∷ []) items (125 ∷ [])
    ∙ (append_assoc before (123 ∷ []) (items ++ 125 ∷ []) ∙ ap (λ l. before ++ l) whole)))
