-- Written by derive_files: types that contain themselves, and their codecs.
use Rattle.std.specs.Prelude.{◌≡◌, ℕ, refl, pos, neg_ℤ, true, codes, string_bytes, string_cmp}
use Rattle.std.proofs.Common.{◌∙◌}
use Rattle.nano_value.specs.Meaning.{Meaning, Agrees, nothing, truth, number, whole, text}
use Rattle.nano_meaning.proofs.OrderLaws.{texts, texts_follow}
use Rattle.nano_schema_levels.proofs.StepsLaws.{later_depth, list_depth, map_means, pair_depth, pair_means}
use Rattle.nano_levels.specs.Layers.{Layer, Nested}
use Rattle.nano_levels.proofs.LayersLaws.{itself_layer, list_layer}
use Rattle.nano_levels.proofs.LevelsLaws.{level, limited}
use Rattle.nano_schema_levels.specs.FieldLayers.{FieldsLayer}
use Rattle.nano_schema_levels.proofs.FieldLayersLaws.{defaulted_layer, fields_pair_layer, other_fields, struct_layer}
use Rattle.nano_schema_levels.proofs.LegalLevelsLaws.{agree_through, legal_as, nested_agrees}
use Rattle.nano_schema_levels.proofs.MapLayersLaws.{follows_order, ordered_map_layer}
use Rattle.nano_schema_levels.proofs.PartLaws.{seen_layer}
use Rattle.nano_bin_nested.proofs.LegalLaws.{nested_agrees as bin_agrees}
use Rattle.nano_json.specs.Codec.{Codec}
use Rattle.nano_json.specs.ScalarCodecs.{boolean_codec}
use Rattle.nano_json_tokens.specs.Cut.{json_grammar}
use Rattle.nano_json_tokens.proofs.JsonLaws.{json, block_brackets, block_style, curly_brackets, curly_style, entry_style}
use Rattle.nano_json_schema.specs.FieldCodecs.{plain_names, defaulted_field, json_fields, required_field, u16_codec, i32_codec, string_codec}
use Rattle.test_nested_defaults.specs.declared.widget.Widget.{Widget}
use Rattle.test_nested_defaults.specs.declared.widget.Widget.TheOpen.{Widget-F}
use Rattle.test_nested_defaults.specs.declared.widget.Widget.TheViews.{out-Widget}
use Rattle.test_nested_defaults.specs.declared.widget.Widget.TheFolds.{map-Widget, fold_out-Widget}
use Rattle.test_nested_defaults.specs.WidgetCodecs.{WidgetContent, widget_opened, widget_view, widget_means, widget_means_step}
use Rattle.test_nested_defaults.specs.WidgetCodecs.{widget_depth, widget_depth_step}
use Rattle.test_nested_defaults.specs.WidgetCodecs.{widget_step, widget_nested, widget_codec}

-- ==== Widget: the layer around the values in it

abbrev pub widget_json_fields : FieldsLayer json_fields Widget (WidgetContent Widget)
widget_json_fields =
    fields_pair_layer (fields_pair_layer (other_fields json_fields (required_field (codes "title") string_codec)) (fields_pair_layer (other_fields json_fields (defaulted_field (codes "shortcut") string_codec (text (codes "none")))) (other_fields json_fields (defaulted_field (codes "width") u16_codec (whole 80))))) (fields_pair_layer (fields_pair_layer (other_fields json_fields (defaulted_field (codes "row") i32_codec (number (neg_ℤ (pos 1))))) (other_fields json_fields (defaulted_field (codes "is_open") boolean_codec (truth true)))) (fields_pair_layer (defaulted_layer json_fields (codes "entries") (seen_layer (λ x. x.items) (list_layer block_style block_brackets itself_layer)) nothing) (defaulted_layer json_fields (codes "others") (seen_layer (λ x. x.entries) (ordered_map_layer curly_style curly_brackets entry_style (λ h. h) texts string_codec string_cmp (follows_order string_cmp (λ x. text (string_bytes x)) texts (texts_follow (λ x. string_bytes x))) itself_layer)) nothing)))

abbrev pub widget_json_layer : Layer json json_grammar Widget (WidgetContent Widget)
widget_json_layer = struct_layer widget_json_fields (λ f. plain_names refl) (λ f. refl)

pub widget_json_means_opened : (y : Widget-F Widget)
    → widget_means_step (map-Widget Widget Meaning widget_means y)
    ≡ widget_json_layer.means widget_means (widget_opened y)
widget_json_means_opened y =
    pair_means refl (pair_means refl (pair_means refl (map_means string_cmp (λ x. text (string_bytes x)) (λ x. x) _ widget_means (λ x. refl) y.others.entries)))

pub widget_json_depth_opened : (y : Widget-F Widget)
    → widget_depth_step (map-Widget Widget ℕ widget_depth y)
    ≡ widget_json_layer.deep widget_depth (widget_opened y)
widget_json_depth_opened y =
    later_depth (later_depth (pair_depth (list_depth _ _ _ (λ x. refl) y.entries.items) (list_depth _ _ _ (λ x. refl) y.others.entries)))

abbrev pub widget_json_nested : Nested json json_grammar Widget
widget_json_nested = record {
  Seen = WidgetContent Widget;
  layer = widget_json_layer;
  view = widget_view;
  means = widget_means;
  depth = widget_depth;
  means_is = λ x. fold_out-Widget Meaning widget_means_step x ∙ widget_json_means_opened (out-Widget x);
  depth_is = λ x. fold_out-Widget ℕ widget_depth_step x ∙ widget_json_depth_opened (out-Widget x);
}

-- those of at most so many levels
abbrev pub widget_json_at : ℕ → Codec Widget
widget_json_at = level widget_json_nested

pub widget_json_agrees : Agrees widget_means widget_codec.encoding.legal widget_means
    (limited widget_json_nested 128).encoding.legal
widget_json_agrees =
    agree_through (bin_agrees widget_nested widget_step (λ f. refl))
    (nested_agrees widget_json_nested widget_step (λ f. refl) 128)

-- those that are read, and what is legal in the words of the format before
abbrev pub widget_json : Codec Widget
widget_json = legal_as (limited widget_json_nested 128) widget_json_agrees
