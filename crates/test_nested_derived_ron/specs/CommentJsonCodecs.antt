-- Written by derive_files: types that contain themselves, and their codecs.
use Rattle.std.specs.Prelude.{◌≡◌, ℕ, refl, codes}
use Rattle.std.proofs.Common.{◌∙◌}
use Rattle.nano_value.specs.Meaning.{Meaning, text}
use Rattle.nano_schema_levels.proofs.StepsLaws.{by_option, later_depth, list_depth, pair_depth}
use Rattle.nano_levels.specs.Layers.{Layer, Nested}
use Rattle.nano_levels.proofs.LayersLaws.{itself_layer, list_layer}
use Rattle.nano_levels.proofs.LevelsLaws.{level, limited}
use Rattle.nano_schema_levels.specs.FieldLayers.{FieldsLayer}
use Rattle.nano_schema_levels.proofs.FieldLayersLaws.{fields_pair_layer, optional_layer, other_fields, required_layer, struct_layer}
use Rattle.nano_schema_levels.proofs.PartLaws.{seen_layer}
use Rattle.nano_json.specs.Codec.{Codec}
use Rattle.nano_json.specs.ScalarCodecs.{boolean_codec}
use Rattle.nano_json_tokens.specs.Cut.{json_grammar}
use Rattle.nano_json_tokens.proofs.JsonLaws.{json, block_brackets, block_style}
use Rattle.nano_json_schema.specs.FieldCodecs.{plain_names, json_fields, optional_field, required_field, i32_codec, string_codec}
use Rattle.test_nested_derived_ron.specs.declared.comment.Comment.{Comment}
use Rattle.test_nested_derived_ron.specs.declared.comment.Comment.TheOpen.{Comment-F}
use Rattle.test_nested_derived_ron.specs.declared.comment.Comment.TheViews.{out-Comment}
use Rattle.test_nested_derived_ron.specs.declared.comment.Comment.TheFolds.{map-Comment, fold_out-Comment}
use Rattle.test_nested_derived_ron.specs.CommentCodecs.{CommentContent, comment_opened, comment_view, comment_means, comment_means_step}
use Rattle.test_nested_derived_ron.specs.CommentCodecs.{comment_depth, comment_depth_step}

-- ==== Comment: the layer around the values in it

abbrev pub comment_json_fields : FieldsLayer json_fields Comment (CommentContent Comment)
comment_json_fields =
    fields_pair_layer (fields_pair_layer (other_fields json_fields (required_field (codes "author") string_codec)) (fields_pair_layer (other_fields json_fields (required_field (codes "text") string_codec)) (other_fields json_fields (required_field (codes "votes") i32_codec)))) (fields_pair_layer (other_fields json_fields (optional_field (codes "pinned") boolean_codec)) (fields_pair_layer (optional_layer json_fields (codes "quoted") (seen_layer (λ x. x.value) itself_layer)) (required_layer json_fields (codes "answers") (seen_layer (λ x. x.items) (list_layer block_style block_brackets itself_layer)))))

abbrev pub comment_json_layer : Layer json json_grammar Comment (CommentContent Comment)
comment_json_layer = struct_layer comment_json_fields (λ f. plain_names refl) (λ f. refl)

pub comment_json_means_opened : (y : Comment-F Comment)
    → comment_means_step (map-Comment Comment Meaning comment_means y)
    ≡ comment_json_layer.means comment_means (comment_opened y)
comment_json_means_opened y =
    by_option (λ o. comment_means_step (map-Comment Comment Meaning comment_means (record { author = y.author; text = y.text; votes = y.votes; pinned = y.pinned; quoted = o; answers = y.answers }))
    ≡ comment_json_layer.means comment_means (comment_opened {X = Comment} (record { author = y.author; text = y.text; votes = y.votes; pinned = y.pinned; quoted = o; answers = y.answers })))
    refl (λ x4. refl)
    y.quoted

pub comment_json_depth_opened : (y : Comment-F Comment)
    → comment_depth_step (map-Comment Comment ℕ comment_depth y)
    ≡ comment_json_layer.deep comment_depth (comment_opened y)
comment_json_depth_opened y =
    by_option (λ o. comment_depth_step (map-Comment Comment ℕ comment_depth (record { author = y.author; text = y.text; votes = y.votes; pinned = y.pinned; quoted = o; answers = y.answers }))
    ≡ comment_json_layer.deep comment_depth (comment_opened {X = Comment} (record { author = y.author; text = y.text; votes = y.votes; pinned = y.pinned; quoted = o; answers = y.answers })))
    (later_depth (later_depth (pair_depth refl (list_depth _ _ _ (λ x. refl) y.answers.items)))) (λ x4. later_depth (later_depth (pair_depth refl (list_depth _ _ _ (λ x. refl) y.answers.items))))
    y.quoted

abbrev pub comment_json_nested : Nested json json_grammar Comment
comment_json_nested = record {
  Seen = CommentContent Comment;
  layer = comment_json_layer;
  view = comment_view;
  means = comment_means;
  depth = comment_depth;
  means_is = λ x. fold_out-Comment Meaning comment_means_step x ∙ comment_json_means_opened (out-Comment x);
  depth_is = λ x. fold_out-Comment ℕ comment_depth_step x ∙ comment_json_depth_opened (out-Comment x);
}

-- those of at most so many levels
abbrev pub comment_json_at : ℕ → Codec Comment
comment_json_at = level comment_json_nested

-- those that are read
abbrev pub comment_json : Codec Comment
comment_json = limited comment_json_nested 128
