-- A document by its alternative: what it means, and how it is written.
use Rattle.std.proofs.Common.{◌≡◌, ℕ, ℤ, pos, Bool, true, false, cond, List, map, String, Vec, Global, string_bytes, codes, refl, sym, ◌∙◌, ap, subst, rules}
use Rattle.std.specs.Fmt.{signed_decimal}
use Rattle.nano_text.specs.Place.{saturating_next}
use Rattle.nano_value.specs.Meaning.{Meaning, IsText, LegalText, number, whole, truth, text, nothing, listed}
use Rattle.nano_meaning.specs.Sums.{tagged}
use Rattle.nano_meaning.proofs.MeaningLaws.{text_injective}
use Rattle.nano_json.specs.ScalarCodecs.{boolean_codec}
use Rattle.nano_json.specs.Lists.{written_list}
use Rattle.nano_json.specs.Lists.{written_entries}
use Rattle.nano_levels.specs.Kinds.{Tagged, codecs_at}
use Rattle.nano_levels.proofs.LevelsLaws.{text_around, legal_around}
use Rattle.nano_json_tokens.specs.Written.{written_text}
use Rattle.nano_document.specs.Decimals.{is_decimal, decimal_text}
use Rattle.nano_document.specs.Documents.{Fields, opened, view, text_tag, json_means, entry_means, most_levels}
use Rattle.nano_document.specs.DocumentCodecs.{layers, json_layer, json_nested, json_codec, string_codec, decimal_seen}
use Rattle.nano_document.proofs.Deciding.{decimal_is}
use Rattle.nano_document.specs.declared.json.Json as J
use Rattle.nano_document.specs.declared.json.Json.{Json, the_lemmas}
use Rattle.nano_document.specs.declared.json.Json.TheOpen as O
use Rattle.nano_document.specs.declared.json.Json.TheViews.{out-Json}

-- ---- what each alternative is seen as

pub out-Null : out-Json J.Null ≡ O.Null
out-Null = search (rules, the_lemmas)

pub out-Bool : (b : Bool) → out-Json (J.Bool b) ≡ O.Bool b
out-Bool b = search (rules, the_lemmas)

pub out-U64 : (n : ℕ) → out-Json (J.U64 n) ≡ O.U64 n
out-U64 n = search (rules, the_lemmas)

pub out-I64 : (z : ℤ) → out-Json (J.I64 z) ≡ O.I64 z
out-I64 z = search (rules, the_lemmas)

pub out-Decimal : (s : String Global) → out-Json (J.Decimal s) ≡ O.Decimal s
out-Decimal s = search (rules, the_lemmas)

pub out-Text : (s : String Global) → out-Json (J.Text s) ≡ O.Text s
out-Text s = search (rules, the_lemmas)

pub out-List : (xs : Vec Json Global) → out-Json (J.List xs) ≡ O.List xs
out-List xs = search (rules, the_lemmas)

pub out-Object : (es : Vec (String Global × Json) Global) → out-Json (J.Object es) ≡ O.Object es
out-Object es = search (rules, the_lemmas)

-- ---- what it means

seen_means : (x : Json) (v : Tagged (Fields Json)) → view x ≡ v → json_means x ≡ json_layer.means json_means v
seen_means x v e = json_nested.means_is x ∙ ap (json_layer.means json_means) e

pub means-Null : json_means J.Null ≡ tagged 0 nothing
means-Null = seen_means J.Null _ (ap opened out-Null)

pub means-Bool : (b : Bool) → json_means (J.Bool b) ≡ tagged 1 (truth b)
means-Bool b = seen_means (J.Bool b) _ (ap opened (out-Bool b))

pub means-U64 : (n : ℕ) → json_means (J.U64 n) ≡ tagged 2 (whole n)
means-U64 n = seen_means (J.U64 n) _ (ap opened (out-U64 n))

pub means-I64 : (z : ℤ) → json_means (J.I64 z) ≡ tagged 2 (number z)
means-I64 z = seen_means (J.I64 z) _ (ap opened (out-I64 z))

pub means-Decimal : (s : String Global) → json_means (J.Decimal s) ≡ tagged (text_tag (string_bytes s)) (text (string_bytes s))
means-Decimal s = seen_means (J.Decimal s) _ (ap opened (out-Decimal s)) ∙ sym (decimal_seen s)

pub means_decimal : (s : String Global) → is_decimal (string_bytes s) ≡ true → json_means (J.Decimal s) ≡ tagged 6 (text (string_bytes s))
means_decimal s e = means-Decimal s ∙ ap (λ b. tagged (cond b 6 3) (text (string_bytes s))) e

pub means_no_decimal : (s : String Global) → is_decimal (string_bytes s) ≡ false → json_means (J.Decimal s) ≡ tagged 3 (text (string_bytes s))
means_no_decimal s e = means-Decimal s ∙ ap (λ b. tagged (cond b 6 3) (text (string_bytes s))) e

pub means-Text : (s : String Global) → json_means (J.Text s) ≡ tagged 3 (text (string_bytes s))
means-Text s = seen_means (J.Text s) _ (ap opened (out-Text s))

pub means-List : (xs : Vec Json Global) → json_means (J.List xs) ≡ tagged 4 (listed (map json_means xs.items))
means-List xs = seen_means (J.List xs) _ (ap opened (out-List xs))

pub means-Object : (es : Vec (String Global × Json) Global)
    → json_means (J.Object es) ≡ tagged 5 (listed (map (entry_means json_means) es.items))
means-Object es = seen_means (J.Object es) _ (ap opened (out-Object es))

-- ---- what is legal

pub legal_at : (place : ℕ) (x : Json) (m : Meaning) → json_means x ≡ tagged place m
    → (codecs_at layers json_codec place).encoding.legal m → json_codec.encoding.legal (json_means x)
legal_at place x m e h =
    legal_around json_nested most_levels x (subst (json_layer.codec json_codec).encoding.legal (sym e ∙ json_nested.means_is x)
    (record { place = place; content = m; legal = h; is = refl }))

text_held : (bytes : List ℕ) → LegalText (text bytes) → IsText bytes
text_held bytes h = subst IsText (sym (text_injective bytes h.part h.is)) h.has

-- a text that may be a decimal
pub legal_decimal : (s : String Global) → LegalText (text (string_bytes s)) → json_codec.encoding.legal (json_means (J.Decimal s))
legal_decimal s h = elim (is_decimal (string_bytes s)) as (λ b. is_decimal (string_bytes s) ≡ b → json_codec.encoding.legal (json_means (J.Decimal s))) [
  | true ↦ λ e. legal_at 6 (J.Decimal s) _ (means_decimal s e) (record { part = string_bytes s; has = record { is_decimal = decimal_is (string_bytes s) e; is_text = text_held (string_bytes s) h }; is = refl })
  | false ↦ λ e. legal_at 3 (J.Decimal s) _ (means_no_decimal s e) h
] refl

-- ---- how it is written

seen_text : (d : ℕ) (x : Json) (v : Tagged (Fields Json)) → view x ≡ v
    → json_codec.canonical.text d x ≡ (json_layer.codec json_codec).canonical.text d v
seen_text d x v e = text_around json_nested most_levels d x ∙ ap ((json_layer.codec json_codec).canonical.text d) e

pub text-Null : (d : ℕ) → json_codec.canonical.text d J.Null ≡ codes "null"
text-Null d = seen_text d J.Null _ (ap opened out-Null)

pub text-Bool : (d : ℕ) (b : Bool) → json_codec.canonical.text d (J.Bool b) ≡ boolean_codec.canonical.text d b
text-Bool d b = seen_text d (J.Bool b) _ (ap opened (out-Bool b))

pub text-U64 : (d : ℕ) (n : ℕ) → json_codec.canonical.text d (J.U64 n) ≡ signed_decimal (pos n)
text-U64 d n = seen_text d (J.U64 n) _ (ap opened (out-U64 n))

pub text-I64 : (d : ℕ) (z : ℤ) → json_codec.canonical.text d (J.I64 z) ≡ signed_decimal z
text-I64 d z = seen_text d (J.I64 z) _ (ap opened (out-I64 z))

pub text-Decimal : (d : ℕ) (s : String Global) → json_codec.canonical.text d (J.Decimal s) ≡ decimal_text (string_bytes s)
text-Decimal d s = seen_text d (J.Decimal s) _ (ap opened (out-Decimal s)) ∙ elim (is_decimal (string_bytes s)) as (λ b. (json_layer.codec json_codec).canonical.text d (cond b (record { tag = 6; fields = s }) (record { tag = 3; fields = s }))
    ≡ cond b (string_bytes s) (written_text (string_bytes s))) [
      | true ↦ refl
      | false ↦ refl
    ]

pub text-Text : (d : ℕ) (s : String Global) → json_codec.canonical.text d (J.Text s) ≡ string_codec.canonical.text d s
text-Text d s = seen_text d (J.Text s) _ (ap opened (out-Text s))

pub text-List : (d : ℕ) (xs : Vec Json Global)
    → json_codec.canonical.text d (J.List xs) ≡ written_list (json_codec.canonical.text (saturating_next d)) xs.items
text-List d xs = seen_text d (J.List xs) _ (ap opened (out-List xs))

pub text-Object : (d : ℕ) (es : Vec (String Global × Json) Global)
    → json_codec.canonical.text d (J.Object es)
    ≡ written_entries (string_codec.canonical.text (saturating_next d)) (json_codec.canonical.text (saturating_next d)) es.items
text-Object d es = seen_text d (J.Object es) _ (ap opened (out-Object es))
