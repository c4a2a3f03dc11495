-- The codec of documents: one level of it around the levels below.
use Rattle.std.specs.Prelude.{◌≡◌, ℕ, zero, suc, ℤ, Some, refl, List, [], ◌∷◌, map, String}
use Rattle.std.specs.Prelude.{string_bytes, cond, true, false}
use Rattle.std.specs.Global.{Global}
use Rattle.std.proofs.Common.{◌∙◌, ap}
use Rattle.nano_value.specs.Meaning.{Meaning, listed, text}
use Rattle.nano_meaning.specs.Sums.{tagged}
use Rattle.nano_grammar.proofs.ListsLaws.{list_of}
use Rattle.nano_grammar.proofs.PairsLaws.{and_then}
use Rattle.nano_json_tokens.specs.Token.{blocks, curlies}
use Rattle.nano_json_tokens.specs.Cut.{json_grammar}
use Rattle.nano_json_tokens.proofs.JsonLaws.{json, block_style, block_brackets, curly_style}
use Rattle.nano_json_tokens.proofs.JsonLaws.{curly_brackets, entry_style}
use Rattle.nano_json_tokens.specs.Token.{Token, bool, str, colon, integer_of, u64, i64, f64}
use Rattle.nano_json.specs.ScalarCodecs.{boolean_codec, unit_codec}
use Rattle.nano_json.specs.Codec.{Codec, codec_as}
use Rattle.nano_json.specs.Codec.{Encoding}
use Rattle.nano_json.specs.ScalarCodecs.{text_codec}
use Rattle.nano_levels.specs.Kinds.{kind_of, Tagged, AreKinds}
use Rattle.nano_levels.specs.Layers.{Layer, Nested, greatest}
use Rattle.nano_levels.proofs.KindsLaws.{no_content, kinds_layer}
use Rattle.nano_levels.proofs.LayersLaws.{itself_layer, other_layer, list_layer, next_layer}
use Rattle.nano_levels.proofs.LevelsLaws.{level, limited}
use Rattle.nano_document.specs.Documents.{kind, Fields, opened, view, means_step, json_means}
use Rattle.nano_document.specs.Documents.{entry_means, depth_step, depth, most_levels, text_tag}
use Rattle.nano_document.specs.Decimals.{is_decimal}
use Rattle.nano_document.specs.DecimalCodecs.{decimal_codec}
use Rattle.nano_document.specs.IntegerCodecs.{integer_codec}
use Rattle.nano_document.specs.declared.json.Json.{Json}
use Rattle.nano_document.specs.declared.json.Json.TheOpen.{Json-F}
use Rattle.nano_document.specs.declared.json.Json.TheViews.{out-Json}
use Rattle.nano_document.specs.declared.json.Json.TheFolds.{map-Json, fold_out-Json}

abbrev pub string_codec : Codec (String Global)
string_codec = codec_as (λ x. string_bytes x) text_codec

-- ---- one level

-- the alternatives, around the documents inside
abbrev pub layers : (place : ℕ) → Layer json json_grammar Json (Fields Json place)
layers zero = other_layer unit_codec
layers (suc zero) = other_layer boolean_codec
layers (suc (suc zero)) = other_layer integer_codec
layers (suc (suc (suc zero))) = other_layer string_codec
layers (suc (suc (suc (suc zero)))) = list_layer block_style block_brackets itself_layer
layers (suc (suc (suc (suc (suc zero))))) =
    list_layer curly_style curly_brackets
    (next_layer entry_style (λ h. h) string_codec itself_layer)
layers (suc (suc (suc (suc (suc (suc zero)))))) = other_layer decimal_codec
layers (suc (suc (suc (suc (suc (suc (suc place))))))) = other_layer no_content

pub integer_kind : (t : Token) (z : ℤ) → integer_of t ≡ Some z → kind t ≡ 2
integer_kind (u64 n) z e = refl
integer_kind (i64 n) z e = refl
integer_kind _ z e = absurd (cc)

pub one_kind : (t u : Token) (ts : List Token) → ts ≡ t ∷ [] → t ≡ u → kind_of kind ts ≡ kind u
one_kind t u ts e same = ap (kind_of kind) e ∙ ap kind same

pub kind_is : AreKinds kind layers
kind_is f zero ts m h = ap (kind_of kind) h.one
kind_is f (suc zero) ts m h = one_kind h.has.token (bool h.part) ts h.has.one h.has.carries_it
kind_is f (suc (suc zero)) ts m h =
    ap (kind_of kind) h.has.one ∙ integer_kind h.has.token h.part h.has.carries_it
kind_is f (suc (suc (suc zero))) ts m h =
    one_kind h.has.token (str h.part) ts h.has.one h.has.carries_it
kind_is f (suc (suc (suc (suc zero)))) ts m h = ap (kind_of kind) h.has.items.1
kind_is f (suc (suc (suc (suc (suc zero))))) ts m h = ap (kind_of kind) h.has.items.1
kind_is f (suc (suc (suc (suc (suc (suc zero)))))) ts m h =
    one_kind h.has.token (f64 h.part) ts h.has.one h.has.carries_it
kind_is f (suc (suc (suc (suc (suc (suc (suc place))))))) ts m h = absurd h

-- ---- what a document means and how deep it is, by what it holds

abbrev pub json_layer : Layer json json_grammar Json (Tagged (Fields Json))
json_layer = kinds_layer kind layers kind_is

pub entries_mean : (es : List (String Global × Json))
    → map (entry_means (λ m. m)) (map (λ e. (e.0, json_means e.1)) es)
    ≡ map (entry_means json_means) es
entries_mean [] = refl
entries_mean (e ∷ es) = λ i. entry_means json_means e ∷ entries_mean es i

pub decimal_seen : (s : String Global) → tagged (text_tag (string_bytes s)) (text (string_bytes s))
    ≡ json_layer.means json_means (opened (Json-F.Decimal s))
decimal_seen s =
    elim (is_decimal (string_bytes s)) as (λ b. tagged (cond b 6 3) (text (string_bytes s))
    ≡ json_layer.means json_means
    (cond b (record { tag = 6; fields = s }) (record { tag = 3; fields = s }))) [
      | true ↦ refl
      | false ↦ refl
    ]

pub means_seen : (y : Json-F Json) → means_step (map-Json Json Meaning json_means y)
    ≡ json_layer.means json_means (opened y)
means_seen Json-F.Null = refl
means_seen (Json-F.Bool b) = refl
means_seen (Json-F.U64 n) = refl
means_seen (Json-F.I64 z) = refl
means_seen (Json-F.Decimal s) = decimal_seen s
means_seen (Json-F.Text s) = refl
means_seen (Json-F.List xs) = refl
means_seen (Json-F.Object es) = ap (λ ms. tagged 5 (listed ms)) (entries_mean es.items)

pub items_deep : (xs : List Json) → map (λ n. suc n) (map depth xs) ≡ map (λ x. suc (depth x)) xs
items_deep [] = refl
items_deep (x ∷ xs) = λ i. suc (depth x) ∷ items_deep xs i

pub entries_deep : (es : List (String Global × Json))
    → map (λ (e : String Global × ℕ). suc e.1) (map (λ e. (e.0, depth e.1)) es)
    ≡ map (λ e. suc (depth e.1)) es
entries_deep [] = refl
entries_deep (e ∷ es) = λ i. suc (depth e.1) ∷ entries_deep es i

pub decimal_deep : (s : String Global) → 0 ≡ json_layer.deep depth (opened (Json-F.Decimal s))
decimal_deep s =
    elim (is_decimal (string_bytes s)) as (λ b. 0 ≡ json_layer.deep depth
    (cond b (record { tag = 6; fields = s }) (record { tag = 3; fields = s }))) [
      | true ↦ refl
      | false ↦ refl
    ]

pub depth_seen : (y : Json-F Json) → depth_step (map-Json Json ℕ depth y)
    ≡ json_layer.deep depth (opened y)
depth_seen Json-F.Null = refl
depth_seen (Json-F.Bool b) = refl
depth_seen (Json-F.U64 n) = refl
depth_seen (Json-F.I64 z) = refl
depth_seen (Json-F.Decimal s) = decimal_deep s
depth_seen (Json-F.Text s) = refl
depth_seen (Json-F.List xs) = ap greatest (items_deep xs.items)
depth_seen (Json-F.Object es) = ap greatest (entries_deep es.items)

abbrev pub json_nested : Nested json json_grammar Json
json_nested = record {
  Seen = Tagged (Fields Json);
  layer = json_layer;
  view = view;
  means = json_means;
  depth = depth;
  means_is = λ x. fold_out-Json Meaning means_step x ∙ means_seen (out-Json x);
  depth_is = λ x. fold_out-Json ℕ depth_step x ∙ depth_seen (out-Json x);
}

-- ---- the codec

-- of the documents of at most so many levels
abbrev pub level_codec : ℕ → Codec Json
level_codec levels = level json_nested levels

-- of the documents that are read
abbrev pub json_codec : Codec Json
json_codec = limited json_nested most_levels

-- documents between square brackets, each of at most so many levels
abbrev pub items_at : ℕ → Encoding
items_at levels = list_of blocks block_brackets (level_codec levels).encoding

-- a name, a colon and a document, and several of these between braces
abbrev pub entry_at : ℕ → Encoding
entry_at levels = and_then colon string_codec.encoding (level_codec levels).encoding

abbrev pub entries_at : ℕ → Encoding
entries_at levels = list_of curlies curly_brackets (entry_at levels)
