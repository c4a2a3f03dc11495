-- Written by derive_files: what is proved of types that contain themselves.
use Rattle.std.specs.Prelude.{◌≡◌, ℕ, List, map, refl, codes, Box, Option, String, Vec, string_bytes}
use Rattle.std.specs.Global.{Global}
use Rattle.std.specs.Option.{option_map}
use Rattle.std.proofs.Common.{inl, inr}
use Rattle.nano_value.specs.Meaning.{nothing, whole, text, optional, listed, paired}
use Rattle.nano_schema.specs.declared.choices.Either.TheVariants.{First, Later}
use Rattle.nano_grammar.specs.FieldCodec.{WrittenField}
use Rattle.nano_schema_levels.proofs.NestedLaws.{legal_seen, text_seen}
use Rattle.nano_json.specs.Codec.{codec_as}
use Rattle.nano_json.specs.ContainerCodecs.{list_codec, option_codec, pair_codec}
use Rattle.nano_json_tokens.specs.Token.{Token}
use Rattle.nano_json_tokens.specs.Written.{written_text}
use Rattle.nano_json_schema.specs.FieldCodecs.{optional_field, required_field, single_codec, u8_codec, string_codec}
use Rattle.nano_json_schema.specs.Variants.{content_text}
use Rattle.test_nested_derived_ron.specs.declared.filter.Filter.{Filter}
use Rattle.test_nested_derived_ron.specs.FilterCodecs.{filter_view, filter_means}
use Rattle.test_nested_derived_ron.specs.FilterJsonCodecs.{filter_json_nested, filter_json, filter_json_content_has}
use Rattle.test_nested_derived_ron.proofs.FilterCodecsLaws.{filter_view_any, filter_view_not, filter_view_at_least, filter_view_has}
use Rattle.test_nested_derived_ron.specs.declared.filter.Filter.{Any as Filter-Any}
use Rattle.test_nested_derived_ron.specs.declared.filter.Filter.{Not as Filter-Not}
use Rattle.test_nested_derived_ron.specs.declared.filter.Filter.{AtLeast as Filter-AtLeast}
use Rattle.test_nested_derived_ron.specs.declared.filter.Filter.{Has as Filter-Has}

-- ==== Filter

pub filter_json_text_any : (d : ℕ)
    → filter_json.canonical.text d Filter-Any
    ≡ written_text (codes "Any")
filter_json_text_any d =
    text_seen filter_json_nested 128 d Filter-Any (First (tt {0})) filter_view_any

pub filter_legal_any : filter_json.encoding.legal (filter_means Filter-Any)
filter_legal_any =
    legal_seen filter_json_nested 128 Filter-Any (First (tt {0})) filter_view_any
    (inl (record { part = nothing; has = refl; is = refl }))

pub filter_json_text_not : (d : ℕ)
    → (v : Box Filter Global)
    → filter_json.canonical.text d (Filter-Not v)
    ≡ content_text (codes "Not") ((single_codec (codec_as (λ (x : Box Filter Global). x.value) filter_json)).canonical.text d v)
filter_json_text_not d v =
    text_seen filter_json_nested 128 d (Filter-Not v) (Later (First v)) (filter_view_not v)

pub filter_legal_not : (v : Box Filter Global)
    → (codec_as (λ (x : Box Filter Global). x.value) filter_json).encoding.legal (filter_means v.value)
    → filter_json.encoding.legal (filter_means (Filter-Not v))
filter_legal_not v h0 =
    legal_seen filter_json_nested 128 (Filter-Not v) (Later (First v)) (filter_view_not v)
    (inr (inl (record { part = filter_means v.value; has = h0; is = refl })))

pub filter_json_text_at_least : (d : ℕ)
    → (v0 : ℕ)
    → (v1 : Vec Filter Global)
    → filter_json.canonical.text d (Filter-AtLeast v0 v1)
    ≡ content_text (codes "AtLeast") ((pair_codec u8_codec (codec_as (λ (x : Vec Filter Global). x.items) (list_codec filter_json))).canonical.text d (v0, v1))
filter_json_text_at_least d v0 v1 =
    text_seen filter_json_nested 128 d (Filter-AtLeast v0 v1) (Later (Later (First (v0, v1)))) (filter_view_at_least v0 v1)

pub filter_legal_at_least : (v0 : ℕ)
    → (v1 : Vec Filter Global)
    → u8_codec.encoding.legal (whole v0)
    → (codec_as (λ (x : Vec Filter Global). x.items) (list_codec filter_json)).encoding.legal (listed (map filter_means v1.items))
    → filter_json.encoding.legal (filter_means (Filter-AtLeast v0 v1))
filter_legal_at_least v0 v1 h0 h1 =
    legal_seen filter_json_nested 128 (Filter-AtLeast v0 v1) (Later (Later (First (v0, v1)))) (filter_view_at_least v0 v1)
    (inr (inr (inl (record { part = paired (whole v0, listed (map filter_means v1.items)); has = (record { part = (whole v0, listed (map filter_means v1.items)); has = (h0, h1); is = refl }); is = refl }))))

abbrev pub filter_json_field_has_field : String Global → List (WrittenField Token)
filter_json_field_has_field x =
    (required_field (codes "field") string_codec).canonical.fields x

abbrev pub filter_json_field_has_and : Option (Box Filter Global) → List (WrittenField Token)
filter_json_field_has_and x =
    (optional_field (codes "and") (codec_as (λ (x : Box Filter Global). x.value) filter_json)).canonical.fields x

pub filter_json_text_has : (d : ℕ)
    → (v0 : String Global)
    → (v1 : Option (Box Filter Global))
    → filter_json.canonical.text d (Filter-Has v0 v1)
    ≡ content_text (codes "Has") ((filter_json_content_has.codec filter_json).canonical.text d (v0, v1))
filter_json_text_has d v0 v1 =
    text_seen filter_json_nested 128 d (Filter-Has v0 v1) (Later (Later (Later (v0, v1)))) (filter_view_has v0 v1)

pub filter_legal_has : (v0 : String Global)
    → (v1 : Option (Box Filter Global))
    → string_codec.encoding.legal (text (string_bytes v0))
    → (option_codec (codec_as (λ (x : Box Filter Global). x.value) filter_json)).encoding.legal (optional (option_map (λ x. filter_means x.value) v1))
    → filter_json.encoding.legal (filter_means (Filter-Has v0 v1))
filter_legal_has v0 v1 h0 h1 =
    legal_seen filter_json_nested 128 (Filter-Has v0 v1) (Later (Later (Later (v0, v1)))) (filter_view_has v0 v1)
    (inr (inr (inr (inl (record { part = paired (text (string_bytes v0), optional (option_map (λ x. filter_means x.value) v1)); has = (record { part = (text (string_bytes v0), optional (option_map (λ x. filter_means x.value) v1)); has = (h0, h1); is = refl }); is = refl })))))

pub ruleset filter_json_texts = (filter_json_text_any, filter_json_text_not, filter_json_text_at_least, filter_json_text_has)
