-- Written by derive_files: what is proved of types that contain themselves.
use Rattle.std.specs.Prelude.{◌≡◌, ℕ, List, refl, codes, Box, Vec}
use Rattle.std.specs.Global.{Global}
use Rattle.nano_grammar.specs.FieldCodec.{WrittenField, fields_text}
use Rattle.nano_schema_levels.proofs.NestedLaws.{text_seen}
use Rattle.nano_ron.specs.Codec.{codec_as}
use Rattle.nano_ron.specs.ScalarCodecs.{boolean_codec}
use Rattle.nano_ron_tokens.specs.Token.{Token}
use Rattle.nano_ron_schema.specs.FieldCodecs.{optional_field, required_field, ron_fields}
use Rattle.nano_ron_nested.specs.TypeCodecs.{list_codec, i32_codec, string_codec}
use Rattle.test_nested_derived_ron.specs.declared.comment.Comment.{Comment}
use Rattle.test_nested_derived_ron.specs.CommentCodecs.{comment_view}
use Rattle.test_nested_derived_ron.specs.CommentRonCodecs.{comment_ron_nested, comment_ron, comment_ron_fields}
use Rattle.test_nested_derived_ron.specs.declared.comment.Comment.TheViews.{out-Comment}

-- ==== Comment

abbrev pub comment_ron_field_author : Comment → List (WrittenField Token)
comment_ron_field_author x =
    (required_field (codes "author") string_codec).canonical.fields (out-Comment x).author

abbrev pub comment_ron_field_text : Comment → List (WrittenField Token)
comment_ron_field_text x =
    (required_field (codes "text") string_codec).canonical.fields (out-Comment x).text

abbrev pub comment_ron_field_votes : Comment → List (WrittenField Token)
comment_ron_field_votes x =
    (required_field (codes "votes") i32_codec).canonical.fields (out-Comment x).votes

abbrev pub comment_ron_field_pinned : Comment → List (WrittenField Token)
comment_ron_field_pinned x =
    (optional_field (codes "pinned") boolean_codec).canonical.fields (out-Comment x).pinned

abbrev pub comment_ron_field_quoted : Comment → List (WrittenField Token)
comment_ron_field_quoted x =
    (optional_field (codes "quoted") (codec_as (λ (x : Box Comment Global). x.value) comment_ron)).canonical.fields (out-Comment x).quoted

abbrev pub comment_ron_field_answers : Comment → List (WrittenField Token)
comment_ron_field_answers x =
    (required_field (codes "answers") (codec_as (λ (x : Vec Comment Global). x.items) (list_codec comment_ron))).canonical.fields (out-Comment x).answers

abbrev pub comment_ron_written : Comment → List (WrittenField Token)
comment_ron_written x =
    (comment_ron_fields.codec comment_ron).canonical.fields (comment_view x)

pub comment_ron_text : (d : ℕ) → (x : Comment) → comment_ron.canonical.text d x
    ≡ fields_text ron_fields d (comment_ron_written x)
comment_ron_text d x = text_seen comment_ron_nested 128 d x (comment_view x) refl
