-- Written by derive_files: what is proved of types that contain themselves.
use Rattle.std.specs.Prelude.{◌≡◌, ℕ, List, map, refl, codes, Box, Vec, string_bytes}
use Rattle.std.specs.Global.{Global}
use Rattle.std.specs.Option.{option_map}
use Rattle.nano_value.specs.Meaning.{truth, number, text, optional, listed, paired}
use Rattle.nano_grammar.specs.FieldCodec.{WrittenField, fields_text}
use Rattle.nano_schema_levels.proofs.NestedLaws.{legal_seen, text_seen}
use Rattle.nano_json.specs.Codec.{codec_as}
use Rattle.nano_json.specs.ScalarCodecs.{boolean_codec}
use Rattle.nano_json.specs.ContainerCodecs.{list_codec, option_codec}
use Rattle.nano_json_tokens.specs.Token.{Token}
use Rattle.nano_json_schema.specs.FieldCodecs.{json_fields, optional_field, required_field, i32_codec, string_codec}
use Rattle.test_nested_derived_ron.specs.declared.comment.Comment.{Comment}
use Rattle.test_nested_derived_ron.specs.CommentCodecs.{comment_view, comment_means}
use Rattle.test_nested_derived_ron.specs.CommentJsonCodecs.{comment_json_nested, comment_json, comment_json_fields}
use Rattle.test_nested_derived_ron.specs.declared.comment.Comment.TheViews.{out-Comment}

-- ==== Comment

abbrev pub comment_json_field_author : Comment → List (WrittenField Token)
comment_json_field_author x =
    (required_field (codes "author") string_codec).canonical.fields (out-Comment x).author

abbrev pub comment_json_field_text : Comment → List (WrittenField Token)
comment_json_field_text x =
    (required_field (codes "text") string_codec).canonical.fields (out-Comment x).text

abbrev pub comment_json_field_votes : Comment → List (WrittenField Token)
comment_json_field_votes x =
    (required_field (codes "votes") i32_codec).canonical.fields (out-Comment x).votes

abbrev pub comment_json_field_pinned : Comment → List (WrittenField Token)
comment_json_field_pinned x =
    (optional_field (codes "pinned") boolean_codec).canonical.fields (out-Comment x).pinned

abbrev pub comment_json_field_quoted : Comment → List (WrittenField Token)
comment_json_field_quoted x =
    (optional_field (codes "quoted") (codec_as (λ (x : Box Comment Global). x.value) comment_json)).canonical.fields (out-Comment x).quoted

abbrev pub comment_json_field_answers : Comment → List (WrittenField Token)
comment_json_field_answers x =
    (required_field (codes "answers") (codec_as (λ (x : Vec Comment Global). x.items) (list_codec comment_json))).canonical.fields (out-Comment x).answers

abbrev pub comment_json_written : Comment → List (WrittenField Token)
comment_json_written x =
    (comment_json_fields.codec comment_json).canonical.fields (comment_view x)

pub comment_json_text : (d : ℕ) → (x : Comment) → comment_json.canonical.text d x
    ≡ fields_text json_fields d (comment_json_written x)
comment_json_text d x = text_seen comment_json_nested 128 d x (comment_view x) refl

pub comment_legal : (x : Comment)
    → string_codec.encoding.legal (text (string_bytes (out-Comment x).author))
    → string_codec.encoding.legal (text (string_bytes (out-Comment x).text))
    → i32_codec.encoding.legal (number (out-Comment x).votes)
    → (option_codec boolean_codec).encoding.legal (optional (option_map truth (out-Comment x).pinned))
    → (option_codec (codec_as (λ (x : Box Comment Global). x.value) comment_json)).encoding.legal (optional (option_map (λ x. comment_means x.value) (out-Comment x).quoted))
    → (codec_as (λ (x : Vec Comment Global). x.items) (list_codec comment_json)).encoding.legal (listed (map comment_means (out-Comment x).answers.items))
    → comment_json.encoding.legal (comment_means x)
comment_legal x h0 h1 h2 h3 h4 h5 =
    legal_seen comment_json_nested 128 x (comment_view x) refl
    (record { part = (paired (text (string_bytes (out-Comment x).author), paired (text (string_bytes (out-Comment x).text), number (out-Comment x).votes)), paired (optional (option_map truth (out-Comment x).pinned), paired (optional (option_map (λ x. comment_means x.value) (out-Comment x).quoted), listed (map comment_means (out-Comment x).answers.items)))); has = ((record { part = (text (string_bytes (out-Comment x).author), paired (text (string_bytes (out-Comment x).text), number (out-Comment x).votes)); has = (h0, (record { part = (text (string_bytes (out-Comment x).text), number (out-Comment x).votes); has = (h1, h2); is = refl })); is = refl }), (record { part = (optional (option_map truth (out-Comment x).pinned), paired (optional (option_map (λ x. comment_means x.value) (out-Comment x).quoted), listed (map comment_means (out-Comment x).answers.items))); has = (h3, (record { part = (optional (option_map (λ x. comment_means x.value) (out-Comment x).quoted), listed (map comment_means (out-Comment x).answers.items)); has = (h4, h5); is = refl })); is = refl })); is = refl })
