-- Documents with indentation: the same tokens as in the canonical text, by lines.
use Rattle.std.proofs.Common.{◌≡◌, ◌<◌, ℕ, zero, suc, ℤ, pos, Bool, true, false, cond, List, [], ◌∷◌, ◌++◌, String, Vec, Global, string_bytes, codes, encode_utf8, encode_utf8_all, refl, sym, ◌∙◌, ap, subst, append-nil, ◌+◌, arith}
use Rattle.std.proofs.Math.Utf8.{encode}
use Rattle.std.specs.Fmt.{signed_decimal}
use Rattle.nano_text.specs.Place.{saturating_next}
use Rattle.nano_value.specs.Meaning.{Meaning, LegalPair, LegalText}
use Rattle.nano_meaning.proofs.MeaningLaws.{all_weaker}
use Rattle.nano_grammar.specs.Items.{ListPunctuation, laid_out, no_gaps, item_in_list}
use Rattle.nano_grammar.specs.Tokens.{IsValueText, Cuts, At, TextDecodesTo}
use Rattle.nano_grammar.proofs.LayoutsLaws.{left_in_list}
use Rattle.nano_grammar.proofs.WrittenLists.{both_written, one_written}
use Rattle.nano_json_tokens.specs.Token.{Token, blocks, curlies, colon, block_punctuation, curly_punctuation}
use Rattle.nano_json_tokens.proofs.JsonLaws.{json, blocks_are, block_brackets}
use Rattle.nano_json.specs.Codec.{Codec}
use Rattle.nano_json.specs.ScalarCodecs.{boolean_codec}
use Rattle.nano_levels.specs.Kinds.{Tagged, codecs_at}
use Rattle.nano_levels.proofs.LevelsLaws.{level, tokens, text_around}
use Rattle.nano_document.specs.Documents.{Fields, opened, view, json_means, depth, most_levels}
use Rattle.nano_document.specs.DocumentCodecs.{layers, json_nested, json_codec, string_codec}
use Rattle.nano_document.specs.Indented.{spaces, line, lines}
use Rattle.nano_document.specs.IndentedCodecs.{lines_text, indented_layers, indented_layer, indented_nested, indented_codec, indented, entry_text, items_text, entries_text}
use Rattle.nano_document.specs.declared.json.Json as J
use Rattle.nano_document.specs.declared.json.Json.{Json}
use Rattle.nano_grammar.proofs.TokensLaws.{cuts_fit}
use Rattle.nano_json.proofs.Json.{json_laws}
use Rattle.nano_document.proofs.Sound.{below_limit}
use Rattle.nano_json_tokens.specs.Written.{written_text}
use Rattle.nano_document.specs.Decimals.{is_decimal, decimal_text}
use Rattle.nano_document.proofs.Documents.{out-Null, out-Bool, out-U64, out-I64, out-Decimal, out-Text, out-List, out-Object}

-- ---- the same tokens

content_tokens : (f h : Codec Json) → f.canonical.tokens ≡ h.canonical.tokens → (place : ℕ) (x : Fields Json place)
    → (codecs_at indented_layers f place).canonical.tokens x ≡ (codecs_at layers h place).canonical.tokens x
content_tokens f h e zero x = refl
content_tokens f h e (suc zero) x = refl
content_tokens f h e (suc (suc zero)) x = refl
content_tokens f h e (suc (suc (suc zero))) x = refl
content_tokens f h e (suc (suc (suc (suc zero)))) x =
    ap (λ (t : Json → List Token). laid_out false no_gaps blocks t x) e
content_tokens f h e (suc (suc (suc (suc (suc zero))))) x =
    ap (λ (t : Json → List Token). laid_out false no_gaps curlies (λ (p : String Global × Json). string_codec.canonical.tokens p.0 ++ colon ∷ t p.1) x) e
content_tokens f h e (suc (suc (suc (suc (suc (suc zero)))))) x = refl
content_tokens f h e (suc (suc (suc (suc (suc (suc (suc place))))))) x = absurd x

level_tokens : (n : ℕ) → (level indented_nested n).canonical.tokens ≡ (level json_nested n).canonical.tokens
unfolding level
level_tokens zero = refl
level_tokens (suc n) = λ i x.
    content_tokens (level indented_nested n) (level json_nested n) (level_tokens n) (view x).tag (view x).fields i

pub tokens_same : (x : Json) → indented_codec.canonical.tokens x ≡ json_codec.canonical.tokens x
unfolding tokens
tokens_same x = λ i. level_tokens (suc (depth x)) i x

-- ---- what is legal

content_legal : (f h : Codec Json) → ((m : Meaning) → h.encoding.legal m → f.encoding.legal m) → (place : ℕ) (m : Meaning)
    → (codecs_at layers h place).encoding.legal m → (codecs_at indented_layers f place).encoding.legal m
content_legal f h w zero m k = k
content_legal f h w (suc zero) m k = k
content_legal f h w (suc (suc zero)) m k = k
content_legal f h w (suc (suc (suc zero))) m k = k
content_legal f h w (suc (suc (suc (suc zero)))) m k = record {
  part = k.part;
  has = record { count = k.has.count; items = all_weaker h.encoding.legal f.encoding.legal w k.part k.has.items };
  is = k.is;
}
content_legal f h w (suc (suc (suc (suc (suc zero))))) m k = record {
  part = k.part;
  has = record {
    count = k.has.count;
    items = all_weaker (LegalPair LegalText h.encoding.legal) (LegalPair LegalText f.encoding.legal)
        (λ n pair. record { part = pair.part; has = (pair.has.0, w pair.part.1 pair.has.1); is = pair.is }) k.part k.has.items;
  };
  is = k.is;
}
content_legal f h w (suc (suc (suc (suc (suc (suc zero)))))) m k = k
content_legal f h w (suc (suc (suc (suc (suc (suc (suc place))))))) m k = k

level_legal : (n : ℕ) (m : Meaning) → (level json_nested n).encoding.legal m → (level indented_nested n).encoding.legal m
unfolding level
level_legal zero m h = h
level_legal (suc n) m h = record {
  place = h.place;
  content = h.content;
  legal = content_legal (level indented_nested n) (level json_nested n) (level_legal n) h.place h.content h.legal;
  is = h.is;
}

pub legal_same : (m : Meaning) → json_codec.encoding.legal m → indented_codec.encoding.legal m
legal_same m h = (h.0, level_legal h.0 m h.1)

-- the text with indentation is cut into the tokens of the canonical text
pub indented_is_written : (x : Json) → json_codec.encoding.legal (json_means x) → (d : ℕ)
    → IsValueText json (json_codec.canonical.tokens x) (indented d x)
indented_is_written x h d =
    subst (λ ts. IsValueText json ts (indented d x)) (tokens_same x) (indented_codec.is_written x (legal_same (json_means x) h) d)

-- ---- how each alternative is written

seen_text : (d : ℕ) (x : Json) (v : Tagged (Fields Json)) → view x ≡ v
    → indented d x ≡ (indented_layer.codec indented_codec).canonical.text d v
seen_text d x v e = text_around indented_nested most_levels d x ∙ ap ((indented_layer.codec indented_codec).canonical.text d) e

pub text-Null : (d : ℕ) → indented d J.Null ≡ codes "null"
text-Null d = seen_text d J.Null _ (ap opened out-Null)

pub text-Bool : (d : ℕ) (b : Bool) → indented d (J.Bool b) ≡ boolean_codec.canonical.text d b
text-Bool d b = seen_text d (J.Bool b) _ (ap opened (out-Bool b))

pub text-U64 : (d : ℕ) (n : ℕ) → indented d (J.U64 n) ≡ signed_decimal (pos n)
text-U64 d n = seen_text d (J.U64 n) _ (ap opened (out-U64 n))

pub text-I64 : (d : ℕ) (z : ℤ) → indented d (J.I64 z) ≡ signed_decimal z
text-I64 d z = seen_text d (J.I64 z) _ (ap opened (out-I64 z))

pub text-Decimal : (d : ℕ) (s : String Global) → indented d (J.Decimal s) ≡ decimal_text (string_bytes s)
text-Decimal d s = seen_text d (J.Decimal s) _ (ap opened (out-Decimal s)) ∙ elim (is_decimal (string_bytes s)) as (λ b. (indented_layer.codec indented_codec).canonical.text d (cond b (record { tag = 6; fields = s }) (record { tag = 3; fields = s }))
    ≡ cond b (string_bytes s) (written_text (string_bytes s))) [
      | true ↦ refl
      | false ↦ refl
    ]

pub text-Text : (d : ℕ) (s : String Global) → indented d (J.Text s) ≡ string_codec.canonical.text d s
text-Text d s = seen_text d (J.Text s) _ (ap opened (out-Text s))

items_are : (d : ℕ) (xs : List Json)
    → lines_text blocks block_punctuation blocks_are block_brackets indented_codec d xs ≡ items_text d xs
items_are d [] = refl
items_are d (x ∷ xs) = refl

pub text-List : (d : ℕ) (xs : Vec Json Global) → indented d (J.List xs) ≡ items_text d xs.items
text-List d xs = seen_text d (J.List xs) _ (ap opened (out-List xs)) ∙ items_are d xs.items

entries_are : (d : ℕ) (es : List (String Global × Json))
    → (codecs_at indented_layers indented_codec 5).canonical.text d es ≡ entries_text d es
entries_are d [] = refl
entries_are d (e ∷ es) = refl

pub text-Object : (d : ℕ) (es : Vec (String Global × Json) Global) → indented d (J.Object es) ≡ entries_text d es.items
text-Object d es = seen_text d (J.Object es) _ (ap opened (out-Object es)) ∙ entries_are d es.items

-- ---- what the loops write

pub items_some : (d : ℕ) (xs : List Json) → (xs ≡ [] → ⊥)
    → laid_out false (lines d) block_punctuation (indented (saturating_next d)) xs ≡ items_text d xs
items_some d [] some = absurd (some refl)
items_some d (x ∷ xs) some = refl

pub entries_some : (d : ℕ) (es : List (String Global × Json)) → (es ≡ [] → ⊥)
    → laid_out false (lines d) curly_punctuation (entry_text (saturating_next d)) es ≡ entries_text d es
entries_some d [] some = absurd (some refl)
entries_some d (e ∷ es) some = refl

-- the line feed with its spaces, and the closing bracket
pub closed_by : {A : Type 0} (d : ℕ) (punctuation : ListPunctuation ℕ) (W : A → List ℕ) (first : Bool) (now mid after : List ℕ)
    → mid ≡ now ++ encode_utf8_all (line d) → after ≡ mid ++ encode_utf8 punctuation.closing
    → after ≡ now ++ encode_utf8_all (left_in_list false (lines d) punctuation W first [])
closed_by d punctuation W true now mid after e k =
    both_written now mid after (line d) (punctuation.closing ∷ []) e (one_written mid after punctuation.closing k)
closed_by d punctuation W false now mid after e k =
    both_written now mid after (line d) (punctuation.closing ∷ []) e (one_written mid after punctuation.closing k)

pub no_items_bytes : (now after : List ℕ) → after ≡ now ++ codes "[]" → after ≡ now ++ encode_utf8_all (items_text 0 [])
unfolding encode
no_items_bytes now after e = e

pub no_entries_bytes : (now after : List ℕ) → after ≡ now ++ codes "{}" → after ≡ now ++ encode_utf8_all (entries_text 0 [])
unfolding encode
no_entries_bytes now after e = e

-- an item after the beginning of its line
pub started : (first : Bool) (d : ℕ) (punctuation : ListPunctuation ℕ) → punctuation.comma ≡ 44 → (text : List ℕ)
    → cond first (line (saturating_next d)) (44 ∷ line (saturating_next d)) ++ text
    ≡ item_in_list (lines d) punctuation first text
started true d punctuation e text = refl
started false d punctuation e text = λ i. sym e i ∷ (line (saturating_next d) ++ text)

-- a document that is not too deep decodes from its text with indentation
pub indented_decodes : (x : Json) → json_codec.encoding.legal (json_means x) → depth x < most_levels
    → TextDecodesTo json.cut json_codec.encoding.encodes (indented 0 x) (json_means x)
indented_decodes x h less =
    let ts = json_codec.canonical.tokens x in
    let text = indented 0 x in
    let again = (indented_is_written x h 0).cut_again [] json_laws.end_follows in
    let cuts = subst (λ (l : List ℕ). Cuts json.cut ts l []) (append-nil text) again in
    let last : At Token = record { token = json_laws.end; text = [] } in
    cuts_fit json.cut json_codec.encoding.encodes ts (json_means x) text [] last (json_codec.reads_back x h (below_limit x less)) cuts json_laws.end_is_cut

-- ---- lines

spaces_more : (k : ℕ) → spaces k ++ 32 ∷ (32 ∷ []) ≡ spaces (suc k)
spaces_more zero = refl
spaces_more (suc k) = ap (λ l. 32 ∷ (32 ∷ l)) (spaces_more k)

-- a line with two more spaces is one of the next level
pub line_more : (k : ℕ) (before now more : List ℕ) → now ≡ before ++ encode_utf8_all (line k) → more ≡ now ++ codes "  "
    → more ≡ before ++ encode_utf8_all (line (k + 1))
unfolding encode
line_more k before now more e j =
    let next : suc k ≡ k + 1 = omega arith in
    both_written before now more (line k) (32 ∷ (32 ∷ [])) e j
    ∙ ap (λ l. before ++ encode_utf8_all (10 ∷ l)) (spaces_more k ∙ ap spaces next)

-- a name, a colon and a space
pub colon_written : (now more after part : List ℕ) → more ≡ now ++ encode_utf8_all part → after ≡ more ++ codes ": "
    → after ≡ now ++ encode_utf8_all (part ++ 58 ∷ (32 ∷ []))
unfolding encode
colon_written now more after part e k = both_written now more after part (58 ∷ (32 ∷ [])) e k

-- what is written after the beginning of its line, in a list
pub item_started : (now one two : List ℕ) (first : Bool) (d inner : ℕ) (punctuation : ListPunctuation ℕ) → punctuation.comma ≡ 44
    → (W : ℕ → List ℕ) → inner ≡ saturating_next d
    → one ≡ now ++ encode_utf8_all (cond first (line inner) (44 ∷ line inner)) → two ≡ one ++ encode_utf8_all (W inner)
    → two ≡ now ++ encode_utf8_all (item_in_list (lines d) punctuation first (W (saturating_next d)))
item_started now one two first d inner punctuation comma W same e k =
    both_written now one two (cond first (line inner) (44 ∷ line inner)) (W inner) e k
    ∙ ((λ i. now ++ encode_utf8_all (cond first (line (same i)) (44 ∷ line (same i)) ++ W (same i)))
    ∙ ap (λ l. now ++ encode_utf8_all l) (started first d punctuation comma (W (saturating_next d))))
