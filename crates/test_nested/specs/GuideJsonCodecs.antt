-- Written by derive_files: types that contain themselves, and their codecs.
use Rattle.std.specs.Prelude.{◌≡◌, ℕ, refl, codes, Some, string_bytes, string_cmp}
use Rattle.std.proofs.Common.{◌∙◌, ap}
use Rattle.nano_value.specs.Meaning.{Meaning, text, optional}
use Rattle.nano_meaning.proofs.OrderLaws.{texts, texts_follow}
use Rattle.nano_schema_levels.proofs.StepsLaws.{by_option, later_depth, list_depth, list_means, map_means, pair_depth, pair_means}
use Rattle.nano_levels.specs.Layers.{Layer, Nested}
use Rattle.nano_levels.proofs.LayersLaws.{itself_layer, list_layer}
use Rattle.nano_levels.proofs.LevelsLaws.{level, limited}
use Rattle.nano_schema_levels.specs.FieldLayers.{FieldsLayer}
use Rattle.nano_schema_levels.proofs.FieldLayersLaws.{fields_pair_layer, optional_layer, other_fields, required_layer, struct_layer}
use Rattle.nano_schema_levels.proofs.MapLayersLaws.{follows_order, ordered_map_layer}
use Rattle.nano_schema_levels.proofs.PartLaws.{seen_layer}
use Rattle.nano_json.specs.Codec.{Codec}
use Rattle.nano_json_tokens.specs.Cut.{json_grammar}
use Rattle.nano_json_tokens.proofs.JsonLaws.{json, block_brackets, block_style, curly_brackets, curly_style, entry_style}
use Rattle.nano_json_schema.specs.FieldCodecs.{plain_names, json_fields, required_field, u16_codec, string_codec}
use Rattle.test_nested.specs.declared.guide.Way.{Way}
use Rattle.test_nested.specs.declared.guide.Guide.TheOpen.{Way-F}
use Rattle.test_nested.specs.declared.guide.Guide.TheViews.{out-Way}
use Rattle.test_nested.specs.declared.guide.Guide.TheFolds.{map-Way, fold_out-Way}
use Rattle.test_nested.specs.GuideCodecs.{WayContent, way_opened, way_view, way_means, way_means_step}
use Rattle.test_nested.specs.GuideCodecs.{way_depth_step, way_means_folded, way_depth_folded}
use Rattle.test_nested.specs.declared.guide.Stop.{Stop}
use Rattle.test_nested.specs.declared.guide.Guide.TheOpen.{Stop-F}
use Rattle.test_nested.specs.declared.guide.Guide.TheViews.{out-Stop}
use Rattle.test_nested.specs.declared.guide.Guide.TheFolds.{map-Stop, fold_out-Stop}
use Rattle.test_nested.specs.GuideCodecs.{StopContent, stop_opened, stop_view, stop_means, stop_means_step}
use Rattle.test_nested.specs.GuideCodecs.{stop_depth_step, stop_means_folded, stop_depth_folded}
use Rattle.test_nested.specs.declared.guide.Guide.{Guide}
use Rattle.test_nested.specs.declared.guide.Guide.TheOpen.{Guide-F}
use Rattle.test_nested.specs.declared.guide.Guide.TheViews.{out-Guide}
use Rattle.test_nested.specs.declared.guide.Guide.TheFolds.{map-Guide, fold_out-Guide}
use Rattle.test_nested.specs.GuideCodecs.{GuideContent, guide_opened, guide_view, guide_means, guide_means_step}
use Rattle.test_nested.specs.GuideCodecs.{guide_depth, guide_depth_step}

-- ==== Way: the layer around the values in it

abbrev pub way_json_fields : FieldsLayer json_fields Guide (WayContent Guide)
way_json_fields =
    fields_pair_layer (other_fields json_fields (required_field (codes "minutes") u16_codec)) (required_layer json_fields (codes "guide") (seen_layer (λ x. x.value) itself_layer))

abbrev pub way_json_layer : Layer json json_grammar Guide (WayContent Guide)
way_json_layer = struct_layer way_json_fields (λ f. plain_names refl) (λ f. refl)

pub way_json_means_opened : (y : Way-F Guide Stop Way)
    → way_means_step (map-Way Guide Stop Way Meaning Meaning Meaning guide_means stop_means_folded way_means_folded y)
    ≡ way_json_layer.means guide_means (way_opened y)
way_json_means_opened y = refl

pub way_json_depth_opened : (y : Way-F Guide Stop Way)
    → way_depth_step (map-Way Guide Stop Way ℕ ℕ ℕ guide_depth stop_depth_folded way_depth_folded y)
    ≡ way_json_layer.deep guide_depth (way_opened y)
way_json_depth_opened y = later_depth refl

-- around values of `Guide`
abbrev pub way_around : Layer json json_grammar Guide Way
way_around = seen_layer way_view way_json_layer

pub way_means_is : (x : Way) → way_means_folded x ≡ way_means x
way_means_is x =
    fold_out-Way Meaning Meaning Meaning guide_means_step stop_means_step way_means_step x ∙ way_json_means_opened (out-Way x)

pub way_depth_is : (x : Way) → way_depth_folded x ≡ way_around.deep guide_depth x
way_depth_is x =
    fold_out-Way ℕ ℕ ℕ guide_depth_step stop_depth_step way_depth_step x ∙ way_json_depth_opened (out-Way x)

-- ==== Stop: the layer around the values in it

abbrev pub stop_json_fields : FieldsLayer json_fields Guide (StopContent Guide)
stop_json_fields =
    fields_pair_layer (required_layer json_fields (codes "ways") (seen_layer (λ x. x.entries) (ordered_map_layer curly_style curly_brackets entry_style (λ h. h) texts string_codec string_cmp (follows_order string_cmp (λ x. text (string_bytes x)) texts (texts_follow (λ x. string_bytes x))) way_around))) (optional_layer json_fields (codes "best") way_around)

abbrev pub stop_json_layer : Layer json json_grammar Guide (StopContent Guide)
stop_json_layer = struct_layer stop_json_fields (λ f. plain_names refl) (λ f. refl)

pub stop_json_means_opened : (y : Stop-F Guide Stop Way)
    → stop_means_step (map-Stop Guide Stop Way Meaning Meaning Meaning guide_means stop_means_folded way_means_folded y)
    ≡ stop_json_layer.means guide_means (stop_opened y)
stop_json_means_opened y =
    by_option (λ o. stop_means_step (map-Stop Guide Stop Way Meaning Meaning Meaning guide_means stop_means_folded way_means_folded (record { ways = y.ways; best = o }))
    ≡ stop_json_layer.means guide_means (stop_opened {X = Guide} (record { ways = y.ways; best = o })))
    (pair_means (map_means string_cmp (λ x. text (string_bytes x)) (λ x. x) _ way_means (λ x i. (x.0, (way_means_is x.1) i)) y.ways.entries) refl) (λ x1. pair_means (map_means string_cmp (λ x. text (string_bytes x)) (λ x. x) _ way_means (λ x i. (x.0, (way_means_is x.1) i)) y.ways.entries) (ap (λ m. optional (Some m)) (way_means_is x1)))
    y.best

pub stop_json_depth_opened : (y : Stop-F Guide Stop Way)
    → stop_depth_step (map-Stop Guide Stop Way ℕ ℕ ℕ guide_depth stop_depth_folded way_depth_folded y)
    ≡ stop_json_layer.deep guide_depth (stop_opened y)
stop_json_depth_opened y =
    by_option (λ o. stop_depth_step (map-Stop Guide Stop Way ℕ ℕ ℕ guide_depth stop_depth_folded way_depth_folded (record { ways = y.ways; best = o }))
    ≡ stop_json_layer.deep guide_depth (stop_opened {X = Guide} (record { ways = y.ways; best = o })))
    (pair_depth (list_depth _ _ _ (λ x. way_depth_is x.1) y.ways.entries) refl) (λ x1. pair_depth (list_depth _ _ _ (λ x. way_depth_is x.1) y.ways.entries) (way_depth_is x1))
    y.best

-- around values of `Guide`
abbrev pub stop_around : Layer json json_grammar Guide Stop
stop_around = seen_layer stop_view stop_json_layer

pub stop_means_is : (x : Stop) → stop_means_folded x ≡ stop_means x
stop_means_is x =
    fold_out-Stop Meaning Meaning Meaning guide_means_step stop_means_step way_means_step x ∙ stop_json_means_opened (out-Stop x)

pub stop_depth_is : (x : Stop) → stop_depth_folded x ≡ stop_around.deep guide_depth x
stop_depth_is x =
    fold_out-Stop ℕ ℕ ℕ guide_depth_step stop_depth_step way_depth_step x ∙ stop_json_depth_opened (out-Stop x)

-- ==== Guide: the layer around the values in it

abbrev pub guide_json_fields : FieldsLayer json_fields Guide (GuideContent Guide)
guide_json_fields =
    fields_pair_layer (other_fields json_fields (required_field (codes "name") string_codec)) (fields_pair_layer (required_layer json_fields (codes "stops") (seen_layer (λ x. x.items) (list_layer block_style block_brackets stop_around))) (optional_layer json_fields (codes "next") (seen_layer (λ x. x.value) itself_layer)))

abbrev pub guide_json_layer : Layer json json_grammar Guide (GuideContent Guide)
guide_json_layer = struct_layer guide_json_fields (λ f. plain_names refl) (λ f. refl)

pub guide_json_means_opened : (y : Guide-F Guide Stop Way)
    → guide_means_step (map-Guide Guide Stop Way Meaning Meaning Meaning guide_means stop_means_folded way_means_folded y)
    ≡ guide_json_layer.means guide_means (guide_opened y)
guide_json_means_opened y =
    by_option (λ o. guide_means_step (map-Guide Guide Stop Way Meaning Meaning Meaning guide_means stop_means_folded way_means_folded (record { name = y.name; stops = y.stops; next = o }))
    ≡ guide_json_layer.means guide_means (guide_opened {X = Guide} (record { name = y.name; stops = y.stops; next = o })))
    (pair_means refl (pair_means (list_means _ _ _ (λ x. stop_means_is x) y.stops.items) refl)) (λ x2. pair_means refl (pair_means (list_means _ _ _ (λ x. stop_means_is x) y.stops.items) refl))
    y.next

pub guide_json_depth_opened : (y : Guide-F Guide Stop Way)
    → guide_depth_step (map-Guide Guide Stop Way ℕ ℕ ℕ guide_depth stop_depth_folded way_depth_folded y)
    ≡ guide_json_layer.deep guide_depth (guide_opened y)
guide_json_depth_opened y =
    by_option (λ o. guide_depth_step (map-Guide Guide Stop Way ℕ ℕ ℕ guide_depth stop_depth_folded way_depth_folded (record { name = y.name; stops = y.stops; next = o }))
    ≡ guide_json_layer.deep guide_depth (guide_opened {X = Guide} (record { name = y.name; stops = y.stops; next = o })))
    (later_depth (pair_depth (list_depth _ _ _ (λ x. stop_depth_is x) y.stops.items) refl)) (λ x2. later_depth (pair_depth (list_depth _ _ _ (λ x. stop_depth_is x) y.stops.items) refl))
    y.next

abbrev pub guide_json_nested : Nested json json_grammar Guide
guide_json_nested = record {
  Seen = GuideContent Guide;
  layer = guide_json_layer;
  view = guide_view;
  means = guide_means;
  depth = guide_depth;
  means_is = λ x. fold_out-Guide Meaning Meaning Meaning guide_means_step stop_means_step way_means_step x ∙ guide_json_means_opened (out-Guide x);
  depth_is = λ x. fold_out-Guide ℕ ℕ ℕ guide_depth_step stop_depth_step way_depth_step x ∙ guide_json_depth_opened (out-Guide x);
}

-- those of at most so many levels
abbrev pub guide_json_at : ℕ → Codec Guide
guide_json_at = level guide_json_nested

-- those that are read
abbrev pub guide_json : Codec Guide
guide_json = limited guide_json_nested 64

-- `Way`, around values of at most so many levels, and around those that are read
abbrev pub way_json_at : ℕ → Codec Way
way_json_at levels = way_around.codec (guide_json_at levels)

abbrev pub way_json : Codec Way
way_json = way_around.codec guide_json

-- `Stop`, around values of at most so many levels, and around those that are read
abbrev pub stop_json_at : ℕ → Codec Stop
stop_json_at levels = stop_around.codec (guide_json_at levels)

abbrev pub stop_json : Codec Stop
stop_json = stop_around.codec guide_json
