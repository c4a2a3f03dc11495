-- Written by derive_files: what is proved of types that contain themselves.
use Rattle.std.specs.Prelude.{◌≡◌, ℕ, List, codes, Box, Option, String, Vec}
use Rattle.std.specs.Global.{Global}
use Rattle.nano_schema.specs.declared.choices.Either.TheVariants.{First, Later}
use Rattle.nano_grammar.specs.FieldCodec.{WrittenField}
use Rattle.nano_schema_levels.proofs.NestedLaws.{text_seen}
use Rattle.std.specs.Prelude.{chars}
use Rattle.nano_ron.specs.Codec.{codec_as}
use Rattle.nano_ron.specs.ContainerCodecs.{pair_codec}
use Rattle.nano_ron_tokens.specs.Token.{Token}
use Rattle.nano_ron_schema.specs.FieldCodecs.{optional_field, required_field}
use Rattle.nano_ron_schema.specs.VariantCodecs.{single_codec}
use Rattle.nano_ron_schema.specs.Variants.{content_text}
use Rattle.nano_ron_nested.specs.TypeCodecs.{list_codec, u8_codec, string_codec}
use Rattle.test_nested_derived_ron.specs.declared.filter.Filter.{Filter}
use Rattle.test_nested_derived_ron.specs.FilterCodecs.{filter_view}
use Rattle.test_nested_derived_ron.specs.FilterRonCodecs.{filter_ron_nested, filter_ron, filter_ron_content_has}
use Rattle.test_nested_derived_ron.proofs.FilterCodecsLaws.{filter_view_any, filter_view_not, filter_view_at_least, filter_view_has}
use Rattle.test_nested_derived_ron.specs.declared.filter.Filter.{Any as Filter-Any}
use Rattle.test_nested_derived_ron.specs.declared.filter.Filter.{Not as Filter-Not}
use Rattle.test_nested_derived_ron.specs.declared.filter.Filter.{AtLeast as Filter-AtLeast}
use Rattle.test_nested_derived_ron.specs.declared.filter.Filter.{Has as Filter-Has}

-- ==== Filter

pub filter_ron_text_any : (d : ℕ)
    → filter_ron.canonical.text d Filter-Any
    ≡ chars (codes "Any")
filter_ron_text_any d =
    text_seen filter_ron_nested 128 d Filter-Any (First (tt {0})) filter_view_any

pub filter_ron_text_not : (d : ℕ)
    → (v : Box Filter Global)
    → filter_ron.canonical.text d (Filter-Not v)
    ≡ content_text (codes "Not") ((single_codec (codec_as (λ (x : Box Filter Global). x.value) filter_ron)).canonical.text d v)
filter_ron_text_not d v =
    text_seen filter_ron_nested 128 d (Filter-Not v) (Later (First v)) (filter_view_not v)

pub filter_ron_text_at_least : (d : ℕ)
    → (v0 : ℕ)
    → (v1 : Vec Filter Global)
    → filter_ron.canonical.text d (Filter-AtLeast v0 v1)
    ≡ content_text (codes "AtLeast") ((pair_codec u8_codec (codec_as (λ (x : Vec Filter Global). x.items) (list_codec filter_ron))).canonical.text d (v0, v1))
filter_ron_text_at_least d v0 v1 =
    text_seen filter_ron_nested 128 d (Filter-AtLeast v0 v1) (Later (Later (First (v0, v1)))) (filter_view_at_least v0 v1)

abbrev pub filter_ron_field_has_field : String Global → List (WrittenField Token)
filter_ron_field_has_field x =
    (required_field (codes "field") string_codec).canonical.fields x

abbrev pub filter_ron_field_has_and : Option (Box Filter Global) → List (WrittenField Token)
filter_ron_field_has_and x =
    (optional_field (codes "and") (codec_as (λ (x : Box Filter Global). x.value) filter_ron)).canonical.fields x

pub filter_ron_text_has : (d : ℕ)
    → (v0 : String Global)
    → (v1 : Option (Box Filter Global))
    → filter_ron.canonical.text d (Filter-Has v0 v1)
    ≡ content_text (codes "Has") ((filter_ron_content_has.codec filter_ron).canonical.text d (v0, v1))
filter_ron_text_has d v0 v1 =
    text_seen filter_ron_nested 128 d (Filter-Has v0 v1) (Later (Later (Later (v0, v1)))) (filter_view_has v0 v1)

pub ruleset filter_ron_texts = (filter_ron_text_any, filter_ron_text_not, filter_ron_text_at_least, filter_ron_text_has)
