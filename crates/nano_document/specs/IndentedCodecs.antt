-- How documents are written with indentation: each item and each entry on a line of its own, two
-- spaces to a level, and nothing between the brackets of an empty list or object. The tokens are
-- those of the canonical text.
use Rattle.std.specs.Prelude.{◌≡◌, ℕ, zero, suc, true, false, cond, codes, refl, List, [], ◌∷◌}
use Rattle.std.specs.Prelude.{String, string_bytes}
use Rattle.std.specs.Global.{Global}
use Rattle.std.proofs.Common.{◌∙◌, ap}
use Rattle.nano_text.specs.Place.{saturating_next}
use Rattle.nano_value.specs.Meaning.{Meaning, listed, text}
use Rattle.nano_meaning.specs.Sums.{tagged}
use Rattle.nano_grammar.specs.Tokens.{IsWrittenGap, IsValueText}
use Rattle.nano_grammar.specs.Items.{ListPunctuation, PunctuationIs, AreGaps, no_gaps}
use Rattle.nano_grammar.specs.Items.{with_punctuator, laid_out}
use Rattle.nano_grammar.specs.Codec.{AreBrackets, ListStyle, PairStyle}
use Rattle.nano_grammar.proofs.ListsLaws.{list_codec}
use Rattle.nano_json_tokens.specs.Cut.{AllSpace, json_grammar}
use Rattle.nano_json_tokens.specs.Token.{Token, blocks, block_punctuation, curlies}
use Rattle.nano_json_tokens.specs.Token.{curly_punctuation, colon, bool, str, f64}
use Rattle.nano_json_tokens.proofs.JsonLaws.{json, blocks_are, curlies_are, block_brackets}
use Rattle.nano_json_tokens.proofs.JsonLaws.{curly_brackets, no_gaps_in, no_gap_written, colon_is}
use Rattle.nano_json.specs.Codec.{Codec}
use Rattle.nano_json.specs.ScalarCodecs.{boolean_codec, unit_codec}
use Rattle.nano_levels.specs.Kinds.{kind_of, Tagged, AreKinds}
use Rattle.nano_levels.specs.Layers.{Layer, Nested, greatest}
use Rattle.nano_levels.proofs.KindsLaws.{no_content, kinds_layer}
use Rattle.nano_levels.proofs.LayersLaws.{itself_layer, other_layer, list_layer, next_layer}
use Rattle.nano_levels.proofs.LevelsLaws.{limited}
use Rattle.nano_document.specs.Documents.{kind, Fields, opened, view, means_step, json_means}
use Rattle.nano_document.specs.Documents.{depth_step, depth, most_levels, text_tag}
use Rattle.nano_document.specs.Decimals.{is_decimal}
use Rattle.nano_document.specs.DecimalCodecs.{decimal_codec}
use Rattle.nano_document.specs.IntegerCodecs.{integer_codec}
use Rattle.nano_document.specs.DocumentCodecs.{string_codec, integer_kind, one_kind, entries_mean}
use Rattle.nano_document.specs.DocumentCodecs.{items_deep, entries_deep}
use Rattle.nano_document.specs.Indented.{spaces, line, lines}
use Rattle.nano_document.specs.declared.json.Json.{Json}
use Rattle.nano_document.specs.declared.json.Json.TheOpen.{Json-F}
use Rattle.nano_document.specs.declared.json.Json.TheViews.{out-Json}
use Rattle.nano_document.specs.declared.json.Json.TheFolds.{map-Json, fold_out-Json}

-- ---- lines

pub spaces_are_space : (d : ℕ) → AllSpace (spaces d)
spaces_are_space zero = tt
spaces_are_space (suc d) = (refl, (refl, spaces_are_space d))

pub spaces_written : (d : ℕ) → IsWrittenGap json (spaces d)
spaces_written zero = no_gap_written
spaces_written (suc d) =
    record {
      is_gap = spaces_are_space (suc d);
      textual = (refl, (refl, (spaces_written d).textual));
    }

pub line_written : (d : ℕ) → IsWrittenGap json (line d)
line_written d = record {
  is_gap = (refl, spaces_are_space d);
  textual = (refl, (spaces_written d).textual);
}

pub lines_in : (punctuation : ListPunctuation ℕ) (d : ℕ) → AreGaps json false punctuation (lines d)
lines_in punctuation d = record {
  after_opening = no_gap_written;
  before_item = line_written (saturating_next d);
  after_comma = no_gap_written;
  before_closing = line_written d;
  closing_follows = λ _ rest. refl;
}

-- ---- lists and objects

module _ (tokens : ListPunctuation Token) (punctuation : ListPunctuation ℕ)
    (punctuation_is : PunctuationIs json tokens punctuation) (are : AreBrackets json_grammar tokens)
  where
    abbrev pub empty_style : ListStyle json
    empty_style = record {
      tokens = tokens;
      punctuation = punctuation;
      punctuation_is = punctuation_is;
      ends = false;
      gaps = λ d. no_gaps;
      gaps_are = λ d. no_gaps_in punctuation punctuation_is.closing_follows;
    }

    abbrev pub lines_style : ListStyle json
    lines_style = record {
      tokens = tokens;
      punctuation = punctuation;
      punctuation_is = punctuation_is;
      ends = false;
      gaps = lines;
      gaps_are = lines_in punctuation;
    }

    module _ {A : Type 0} (f : Codec A) where
      -- an empty list by its brackets alone, and any other by its lines
      abbrev pub lines_text : ℕ → List A → List ℕ
      lines_text d [] = (list_codec empty_style are f).canonical.text d []
      lines_text d (x ∷ xs) = (list_codec lines_style are f).canonical.text d (x ∷ xs)

      pub lines_same : (xs ys : List A)
          → (list_codec lines_style are f).canonical.means xs
          ≡ (list_codec lines_style are f).canonical.means ys
          → (d : ℕ) → lines_text d xs ≡ lines_text d ys
      lines_same [] [] e d = refl
      lines_same [] (y ∷ ys) e d = absurd (cc)
      lines_same (x ∷ xs) [] e d = absurd (cc)
      lines_same (x ∷ xs) (y ∷ ys) e d =
          (list_codec lines_style are f).canonical.same_text (x ∷ xs) (y ∷ ys) e d

      pub lines_are_written : (xs : List A)
          → (list_codec lines_style are f).encoding.legal
          ((list_codec lines_style are f).canonical.means xs) → (d : ℕ)
          → IsValueText json ((list_codec lines_style are f).canonical.tokens xs) (lines_text d xs)
      lines_are_written [] h d = (list_codec empty_style are f).is_written [] h d
      lines_are_written (x ∷ xs) h d = (list_codec lines_style are f).is_written (x ∷ xs) h d

      abbrev pub lines_codec : Codec (List A)
      lines_codec =
          let of = list_codec lines_style are f in
          record {
            canonical = record {
              means = of.canonical.means;
              text = lines_text;
              tokens = of.canonical.tokens;
              same_text = lines_same;
            };
            encoding = of.encoding;
            is_written = lines_are_written;
            sound = of.sound;
            reads_back = of.reads_back;
            encoded_is_sound = of.encoded_is_sound;
            null_alone = of.null_alone;
          }

    module _ {A B : Type 0} (p : Layer json json_grammar A B) where
      pub lines_text_same : (f h : Codec A) (xs : List B)
          → (list_layer lines_style are p).All
          (λ y. (d : ℕ) → f.canonical.text d y ≡ h.canonical.text d y) xs
          → (d : ℕ) → lines_text (p.codec f) d xs ≡ lines_text (p.codec h) d xs
      lines_text_same f h [] e d = refl
      lines_text_same f h (x ∷ xs) e d = (list_layer lines_style are p).text_same f h (x ∷ xs) e d

      abbrev pub lines_layer : Layer json json_grammar A (List B)
      lines_layer =
          let of = list_layer lines_style are p in
          record {
            codec = λ f. lines_codec (p.codec f);
            All = of.All;
            means = of.means;
            deep = of.deep;
            weaker = of.weaker;
            less = of.less;
            most = of.most;
            means_is = of.means_is;
            means_same = of.means_same;
            text_same = lines_text_same;
            tokens_same = of.tokens_same;
            sound_same = of.sound_same;
            legal_parts = of.legal_parts;
            legal_same = of.legal_same;
          }

-- a name, a colon, a space and a document
abbrev pub spaced_style : PairStyle json
spaced_style = record {
  token = colon;
  punctuator = 58;
  gap = 32 ∷ [];
  is_punctuator = colon_is;
  follows = λ rest. refl;
  is_gap = record { is_gap = (refl, tt); textual = (refl, tt) };
}

-- ---- one level

abbrev pub indented_layers : (place : ℕ) → Layer json json_grammar Json (Fields Json place)
indented_layers zero = other_layer unit_codec
indented_layers (suc zero) = other_layer boolean_codec
indented_layers (suc (suc zero)) = other_layer integer_codec
indented_layers (suc (suc (suc zero))) = other_layer string_codec
indented_layers (suc (suc (suc (suc zero)))) =
    lines_layer blocks block_punctuation blocks_are block_brackets itself_layer
indented_layers (suc (suc (suc (suc (suc zero))))) =
    lines_layer curlies curly_punctuation curlies_are curly_brackets
    (next_layer spaced_style (λ h. h) string_codec itself_layer)
indented_layers (suc (suc (suc (suc (suc (suc zero)))))) = other_layer decimal_codec
indented_layers (suc (suc (suc (suc (suc (suc (suc place))))))) = other_layer no_content

pub indented_kind_is : AreKinds kind indented_layers
indented_kind_is f zero ts m h = ap (kind_of kind) h.one
indented_kind_is f (suc zero) ts m h =
    one_kind h.has.token (bool h.part) ts h.has.one h.has.carries_it
indented_kind_is f (suc (suc zero)) ts m h =
    ap (kind_of kind) h.has.one ∙ integer_kind h.has.token h.part h.has.carries_it
indented_kind_is f (suc (suc (suc zero))) ts m h =
    one_kind h.has.token (str h.part) ts h.has.one h.has.carries_it
indented_kind_is f (suc (suc (suc (suc zero)))) ts m h = ap (kind_of kind) h.has.items.1
indented_kind_is f (suc (suc (suc (suc (suc zero))))) ts m h = ap (kind_of kind) h.has.items.1
indented_kind_is f (suc (suc (suc (suc (suc (suc zero)))))) ts m h =
    one_kind h.has.token (f64 h.part) ts h.has.one h.has.carries_it
indented_kind_is f (suc (suc (suc (suc (suc (suc (suc place))))))) ts m h = absurd h

abbrev pub indented_layer : Layer json json_grammar Json (Tagged (Fields Json))
indented_layer = kinds_layer kind indented_layers indented_kind_is

pub decimal_indented : (s : String Global)
    → tagged (text_tag (string_bytes s)) (text (string_bytes s))
    ≡ indented_layer.means json_means (opened (Json-F.Decimal s))
decimal_indented s =
    elim (is_decimal (string_bytes s)) as (λ b. tagged (cond b 6 3) (text (string_bytes s))
    ≡ indented_layer.means json_means
    (cond b (record { tag = 6; fields = s }) (record { tag = 3; fields = s }))) [
      | true ↦ refl
      | false ↦ refl
    ]

pub indented_means : (y : Json-F Json) → means_step (map-Json Json Meaning json_means y)
    ≡ indented_layer.means json_means (opened y)
indented_means Json-F.Null = refl
indented_means (Json-F.Bool b) = refl
indented_means (Json-F.U64 n) = refl
indented_means (Json-F.I64 z) = refl
indented_means (Json-F.Decimal s) = decimal_indented s
indented_means (Json-F.Text s) = refl
indented_means (Json-F.List xs) = refl
indented_means (Json-F.Object es) = ap (λ ms. tagged 5 (listed ms)) (entries_mean es.items)

pub decimal_in_lines : (s : String Global)
    → 0 ≡ indented_layer.deep depth (opened (Json-F.Decimal s))
decimal_in_lines s =
    elim (is_decimal (string_bytes s)) as (λ b. 0 ≡ indented_layer.deep depth
    (cond b (record { tag = 6; fields = s }) (record { tag = 3; fields = s }))) [
      | true ↦ refl
      | false ↦ refl
    ]

pub indented_deep : (y : Json-F Json) → depth_step (map-Json Json ℕ depth y)
    ≡ indented_layer.deep depth (opened y)
indented_deep Json-F.Null = refl
indented_deep (Json-F.Bool b) = refl
indented_deep (Json-F.U64 n) = refl
indented_deep (Json-F.I64 z) = refl
indented_deep (Json-F.Decimal s) = decimal_in_lines s
indented_deep (Json-F.Text s) = refl
indented_deep (Json-F.List xs) = ap greatest (items_deep xs.items)
indented_deep (Json-F.Object es) = ap greatest (entries_deep es.items)

abbrev pub indented_nested : Nested json json_grammar Json
indented_nested = record {
  Seen = Tagged (Fields Json);
  layer = indented_layer;
  view = view;
  means = json_means;
  depth = depth;
  means_is = λ x. fold_out-Json Meaning means_step x ∙ indented_means (out-Json x);
  depth_is = λ x. fold_out-Json ℕ depth_step x ∙ indented_deep (out-Json x);
}

-- ---- the codec

abbrev pub indented_codec : Codec Json
indented_codec = limited indented_nested most_levels

-- what is written of a document with indentation, from a level on
abbrev pub indented : ℕ → Json → List ℕ
indented d x = indented_codec.canonical.text d x

-- an entry, and the items and the entries between their brackets
abbrev pub entry_text : ℕ → String Global × Json → List ℕ
entry_text d e = with_punctuator 58 (32 ∷ []) (string_codec.canonical.text d) (indented d) e

abbrev pub items_text : ℕ → List Json → List ℕ
items_text d [] = codes "[]"
items_text d (x ∷ xs) =
    laid_out false (lines d) block_punctuation (indented (saturating_next d)) (x ∷ xs)

abbrev pub entries_text : ℕ → List (String Global × Json) → List ℕ
entries_text d [] = codes "{}"
entries_text d (e ∷ es) =
    laid_out false (lines d) curly_punctuation (entry_text (saturating_next d)) (e ∷ es)
