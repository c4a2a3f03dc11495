-- The codec of documents as bytes: a tag, which is the place of the variant in `Json`, and what the
-- variant holds; one level of it around the levels below.
use Rattle.std.specs.Prelude.{◌≡◌, ℕ, zero, suc, ℤ, true, refl, List, String}
use Rattle.std.specs.Prelude.{string_bytes}
use Rattle.std.specs.Global.{Global}
use Rattle.std.proofs.Common.{◌∙◌, ap, inl, inr, lit<}
use Rattle.nano_value.specs.Meaning.{Meaning, number, text, IsImage}
use Rattle.nano_value.specs.Sums.{tagged}
use Rattle.nano_bin_bytes.specs.Codec.{Codec, Encoding}
use Rattle.nano_bin_bytes.specs.declared.error.DeBinErr.{DeBinErr}
use Rattle.nano_bin_bytes.specs.Reading.{ReadsNone}
use Rattle.nano_bin_bytes.specs.BaseCodecs.{codec_as}
use Rattle.nano_bin_bytes.specs.Variants.{Variants, no_variants, variant, body, Variant}
use Rattle.nano_bin_bytes.specs.Variants.{EncodesVariant}
use Rattle.nano_bin.specs.ScalarCodecs.{text_canonical, unit_codec, boolean_codec, u64_codec}
use Rattle.nano_bin.specs.ScalarCodecs.{i64_codec, string_codec}
use Rattle.nano_bin.specs.ContainerCodecs.{list_codec, pair_codec, pair_of}
use Rattle.nano_levels.specs.Kinds.{Tagged}
use Rattle.nano_bin_levels.specs.Layers.{Layer, Nested}
use Rattle.nano_bin_levels.specs.Places.{AreTagged, codecs_at}
use Rattle.nano_bin_levels.proofs.LayersLaws.{itself_layer, other_layer, next_layer}
use Rattle.nano_bin_levels.proofs.ListsLaws.{list_layer}
use Rattle.nano_bin_levels.proofs.LevelsLaws.{level, nested_codec}
use Rattle.nano_bin_levels.proofs.PlacesLaws.{after_layer, no_content, places_layer}
use Rattle.nano_document.specs.Decimals.{IsHeldDecimal}
use Rattle.nano_document.specs.IntegerCodecs.{IsInteger}
use Rattle.nano_document.specs.BinScalars.{EncodesInteger, written_integer, EncodesDecimal}
use Rattle.nano_document.specs.BinScalarImpls.{integer_laws, integer_same, integer_reads_back}
use Rattle.nano_document.specs.BinScalarImpls.{decimal_laws, decimal_reads_back}
use Rattle.nano_document.specs.Documents.{Fields, view, json_means, depth}
use Rattle.nano_document.specs.DocumentCodecs.{layers as text_layers, json_nested}
use Rattle.nano_document.specs.declared.json.Json.{Json}

-- ---- whole numbers and decimals

abbrev pub bin_integer_codec : Codec ℤ
bin_integer_codec = record {
  canonical = record { means = number; written = written_integer; same_written = integer_same };
  encoding = record {
    legal = IsImage number IsInteger;
    encodes = EncodesInteger;
    laws = integer_laws;
  };
  is_decodable = true;
  reads_back = λ is. integer_reads_back;
}

abbrev pub bin_decimals : Encoding
bin_decimals = record {
  legal = IsImage text IsHeldDecimal;
  encodes = EncodesDecimal;
  laws = decimal_laws;
}

abbrev pub bin_decimal_codec : Codec (String Global)
bin_decimal_codec = codec_as (λ x. string_bytes x) (record {
  canonical = text_canonical;
  encoding = bin_decimals;
  is_decodable = true;
  reads_back = λ is. decimal_reads_back;
})

-- ---- the variants

-- what comes after the tags 0 to 7
abbrev pub variants : Codec Json → Variants
variants f =
    variant (body {A = Unit {0}} unit_codec)
    (variant (body boolean_codec)
    (variant (body u64_codec)
    (variant (body i64_codec)
    (variant (body bin_decimal_codec)
    (variant (body string_codec)
    (variant (body (list_codec f))
    (variant (body (list_codec (pair_codec string_codec f)))
    no_variants)))))))

-- the alternative of a document that a tag begins
abbrev pub place_of : ℕ → ℕ
place_of zero = 0
place_of (suc zero) = 1
place_of (suc (suc zero)) = 2
place_of (suc (suc (suc zero))) = 2
place_of (suc (suc (suc (suc zero)))) = 6
place_of (suc (suc (suc (suc (suc zero))))) = 3
place_of (suc (suc (suc (suc (suc (suc zero)))))) = 4
place_of (suc (suc (suc (suc (suc (suc (suc zero))))))) = 5
place_of (suc (suc (suc (suc (suc (suc (suc (suc tag)))))))) = 7

-- ---- one level

-- the alternatives, around the documents inside
abbrev pub layers : (place : ℕ) → Layer Json (Fields Json place)
layers zero = after_layer 0 (lit< tt) (other_layer unit_codec)
layers (suc zero) = after_layer 1 (lit< tt) (other_layer boolean_codec)
layers (suc (suc zero)) = other_layer bin_integer_codec
layers (suc (suc (suc zero))) = after_layer 5 (lit< tt) (other_layer string_codec)
layers (suc (suc (suc (suc zero)))) = after_layer 6 (lit< tt) (list_layer itself_layer)
layers (suc (suc (suc (suc (suc zero))))) =
    after_layer 7 (lit< tt) (list_layer (next_layer string_codec itself_layer))
layers (suc (suc (suc (suc (suc (suc zero)))))) =
    after_layer 4 (lit< tt) (other_layer bin_decimal_codec)
layers (suc (suc (suc (suc (suc (suc (suc place))))))) = other_layer no_content

pub are_tagged : (f : Codec Json) → AreTagged place_of (codecs_at layers f)
are_tagged f zero a m h =
    record { tag = 0; head = h.head; tail = h.tail; whole = h.whole; tagged = h.tagged; is = refl }
are_tagged f (suc zero) a m h =
    record { tag = 1; head = h.head; tail = h.tail; whole = h.whole; tagged = h.tagged; is = refl }
are_tagged f (suc (suc zero)) a m (inl h) =
    record { tag = 2; head = h.head; tail = h.tail; whole = h.whole; tagged = h.tagged; is = refl }
are_tagged f (suc (suc zero)) a m (inr h) =
    record { tag = 3; head = h.head; tail = h.tail; whole = h.whole; tagged = h.tagged; is = refl }
are_tagged f (suc (suc (suc zero))) a m h =
    record { tag = 5; head = h.head; tail = h.tail; whole = h.whole; tagged = h.tagged; is = refl }
are_tagged f (suc (suc (suc (suc zero)))) a m h =
    record { tag = 6; head = h.head; tail = h.tail; whole = h.whole; tagged = h.tagged; is = refl }
are_tagged f (suc (suc (suc (suc (suc zero))))) a m h =
    record { tag = 7; head = h.head; tail = h.tail; whole = h.whole; tagged = h.tagged; is = refl }
are_tagged f (suc (suc (suc (suc (suc (suc zero)))))) a m h =
    record { tag = 4; head = h.head; tail = h.tail; whole = h.whole; tagged = h.tagged; is = refl }
are_tagged f (suc (suc (suc (suc (suc (suc (suc place))))))) a m h = absurd h

pub are_read : (place : ℕ) → (layers place).reads ≡ true
are_read zero = refl
are_read (suc zero) = refl
are_read (suc (suc zero)) = refl
are_read (suc (suc (suc zero))) = refl
are_read (suc (suc (suc (suc zero)))) = refl
are_read (suc (suc (suc (suc (suc zero))))) = refl
are_read (suc (suc (suc (suc (suc (suc zero)))))) = refl
are_read (suc (suc (suc (suc (suc (suc (suc place))))))) = refl

abbrev pub bin_layer : Layer Json (Tagged (Fields Json))
bin_layer = places_layer (λ v. v.tag) (λ v. v.fields) layers place_of are_tagged are_read

-- ---- what a document means and how deep it is, by what it holds, as for its text

pub same_means : (m : Json → Meaning) (place : ℕ) (x : Fields Json place)
    → (text_layers place).means m x ≡ (layers place).means m x
same_means m zero x = refl
same_means m (suc zero) x = refl
same_means m (suc (suc zero)) x = refl
same_means m (suc (suc (suc zero))) x = refl
same_means m (suc (suc (suc (suc zero)))) x = refl
same_means m (suc (suc (suc (suc (suc zero))))) x = refl
same_means m (suc (suc (suc (suc (suc (suc zero)))))) x = refl
same_means m (suc (suc (suc (suc (suc (suc (suc place))))))) x = absurd x

pub same_deep : (d : Json → ℕ) (place : ℕ) (x : Fields Json place)
    → (text_layers place).deep d x ≡ (layers place).deep d x
same_deep d zero x = refl
same_deep d (suc zero) x = refl
same_deep d (suc (suc zero)) x = refl
same_deep d (suc (suc (suc zero))) x = refl
same_deep d (suc (suc (suc (suc zero)))) x = refl
same_deep d (suc (suc (suc (suc (suc zero))))) x = refl
same_deep d (suc (suc (suc (suc (suc (suc zero)))))) x = refl
same_deep d (suc (suc (suc (suc (suc (suc (suc place))))))) x = absurd x

abbrev pub bin_nested : Nested Json
bin_nested = record {
  Seen = Tagged (Fields Json);
  layer = bin_layer;
  view = view;
  means = json_means;
  depth = depth;
  means_is = λ x.
      let v = view x in
      json_nested.means_is x ∙ ap (tagged v.tag) (same_means json_means v.tag v.fields);
  depth_is = λ x.
      let v = view x in
      json_nested.depth_is x ∙ same_deep depth v.tag v.fields;
}

-- ---- the codec

-- of the documents of at most so many levels
abbrev pub bin_level : ℕ → Codec Json
bin_level levels = level bin_nested levels

abbrev pub bin_codec : Codec Json
bin_codec = nested_codec bin_nested

-- a name and a document
abbrev pub bin_entry : Codec Json → Encoding
bin_entry f = pair_of string_codec.encoding f.encoding

-- ---- what encodes a document

-- the tag of a variant and what it holds
pub record EncodesDocument (bytes : List ℕ) (m : Meaning) : Type 0 where
  pub variant : Variant
  pub encodes : EncodesVariant (variants bin_codec) bytes variant
  pub is : m ≡ tagged (place_of variant.tag) variant.content

-- ---- what a reader answers

-- an error of a reader that began at this offset, wherever it leaves the offset
abbrev pub RejectsFrom : (List ℕ → Meaning → Type 0) → List ℕ → ℕ → DeBinErr → Type 0
RejectsFrom encodes bytes start error = ReadsNone encodes bytes start start error
