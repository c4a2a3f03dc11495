-- Written by derive_files: types that contain themselves, and their codecs.
use Rattle.std.specs.Prelude.{◌≡◌, ℕ, refl, codes, String, string_cmp}
use Rattle.std.specs.BTreeSet.{BTreeSet}
use Rattle.std.specs.HashMap.{HashMap}
use Rattle.std.specs.HashSet.{HashSet}
use Rattle.std.specs.declared.hash.BuildHasherDefault.{BuildHasherDefault}
use Rattle.std.specs.declared.hash.FoldHasher.{FoldHasher}
use Rattle.std.specs.Global.{Global}
use Rattle.std.proofs.Common.{◌∙◌}
use Rattle.nano_value.specs.Meaning.{Meaning, Agrees}
use Rattle.nano_meaning.proofs.OrderLaws.{texts, wholes}
use Rattle.nano_schema_levels.proofs.StepsLaws.{later_depth, list_depth}
use Rattle.nano_levels.specs.Layers.{Layer, Nested}
use Rattle.nano_levels.proofs.LayersLaws.{itself_layer, list_layer, other_layer}
use Rattle.nano_levels.proofs.LevelsLaws.{level, limited}
use Rattle.nano_schema_levels.specs.FieldLayers.{FieldsLayer}
use Rattle.nano_schema_levels.specs.VariantLayers.{VariantsLayer}
use Rattle.nano_schema_levels.proofs.FieldLayersLaws.{fields_pair_layer, other_fields, required_layer, struct_layer}
use Rattle.nano_schema_levels.proofs.LegalLevelsLaws.{agree_through, legal_as, nested_agrees}
use Rattle.nano_schema_levels.proofs.PartLaws.{seen_layer, triple_layer}
use Rattle.nano_schema_levels.proofs.VariantLayersLaws.{choice_layer, last_variant, next_unit}
use Rattle.nano_bin_nested.proofs.LegalLaws.{nested_agrees as bin_agrees}
use Rattle.nano_json.specs.Codec.{Codec, codec_as}
use Rattle.nano_json.specs.ContainerCodecs.{array_codec, list_codec as linked_codec, map_codec, ordered_codec, pair_codec, set_codec}
use Rattle.nano_json_tokens.specs.Cut.{json_grammar}
use Rattle.nano_json_tokens.proofs.JsonLaws.{json, block_brackets, block_style, tuple_style}
use Rattle.nano_json_schema.specs.FieldCodecs.{plain_names, json_fields, required_field, u8_codec, u16_codec, u32_codec, i32_codec, string_codec}
use Rattle.nano_json_schema.specs.VariantCodecs.{json_variants}
use Rattle.test_nested_shapes.specs.declared.node.Node.{Node}
use Rattle.test_nested_shapes.specs.declared.node.Node.TheOpen.{Node-F}
use Rattle.test_nested_shapes.specs.declared.node.Node.TheViews.{out-Node}
use Rattle.test_nested_shapes.specs.declared.node.Node.TheFolds.{map-Node, fold_out-Node}
use Rattle.test_nested_shapes.specs.NodeCodecs.{NodeContent, node_opened, node_view, node_means, node_means_step}
use Rattle.test_nested_shapes.specs.NodeCodecs.{node_depth, node_depth_step}
use Rattle.test_nested_shapes.specs.NodeCodecs.{node_step, node_nested, node_codec}
use Rattle.test_nested_shapes.specs.declared.node.Trail.{Trail}
use Rattle.test_nested_shapes.specs.declared.node.Trail.TheOpen.{Trail-F}
use Rattle.test_nested_shapes.specs.declared.node.Trail.TheViews.{out-Trail}
use Rattle.test_nested_shapes.specs.declared.node.Trail.TheFolds.{map-Trail, fold_out-Trail}
use Rattle.test_nested_shapes.specs.NodeCodecs.{TrailContent, trail_opened, trail_view, trail_means, trail_means_step}
use Rattle.test_nested_shapes.specs.NodeCodecs.{trail_depth, trail_depth_step}
use Rattle.test_nested_shapes.specs.NodeCodecs.{trail_step, trail_nested, trail_codec}

-- ==== Node: the layer around the values in it

abbrev pub node_json_fields : FieldsLayer json_fields Node (NodeContent Node)
node_json_fields =
    fields_pair_layer (fields_pair_layer (other_fields json_fields (required_field (codes "name") string_codec)) (fields_pair_layer (other_fields json_fields (required_field (codes "at") (array_codec 3 i32_codec))) (other_fields json_fields (required_field (codes "size") (pair_codec u32_codec u32_codec))))) (fields_pair_layer (other_fields json_fields (required_field (codes "tags") (codec_as (λ (x : BTreeSet (String Global)). x.keys) (ordered_codec texts string_cmp string_codec)))) (fields_pair_layer (other_fields json_fields (required_field (codes "effects") (codec_as (λ (x : HashMap (String Global) ℕ (BuildHasherDefault FoldHasher)). x.entries) (map_codec texts string_codec u32_codec)))) (required_layer json_fields (codes "children") (seen_layer (λ x. x.items) (list_layer block_style block_brackets itself_layer)))))

abbrev pub node_json_layer : Layer json json_grammar Node (NodeContent Node)
node_json_layer = struct_layer node_json_fields (λ f. plain_names refl) (λ f. refl)

pub node_json_means_opened : (y : Node-F Node)
    → node_means_step (map-Node Node Meaning node_means y)
    ≡ node_json_layer.means node_means (node_opened y)
node_json_means_opened y = refl

pub node_json_depth_opened : (y : Node-F Node)
    → node_depth_step (map-Node Node ℕ node_depth y)
    ≡ node_json_layer.deep node_depth (node_opened y)
node_json_depth_opened y =
    later_depth (later_depth (later_depth (list_depth _ _ _ (λ x. refl) y.children.items)))

abbrev pub node_json_nested : Nested json json_grammar Node
node_json_nested = record {
  Seen = NodeContent Node;
  layer = node_json_layer;
  view = node_view;
  means = node_means;
  depth = node_depth;
  means_is = λ x. fold_out-Node Meaning node_means_step x ∙ node_json_means_opened (out-Node x);
  depth_is = λ x. fold_out-Node ℕ node_depth_step x ∙ node_json_depth_opened (out-Node x);
}

-- those of at most so many levels
abbrev pub node_json_at : ℕ → Codec Node
node_json_at = level node_json_nested

pub node_json_agrees : Agrees node_means node_codec.encoding.legal node_means
    (limited node_json_nested 128).encoding.legal
node_json_agrees =
    agree_through (bin_agrees node_nested node_step (λ f. refl))
    (nested_agrees node_json_nested node_step (λ f. refl) 128)

-- those that are read, and what is legal in the words of the format before
abbrev pub node_json : Codec Node
node_json = legal_as (limited node_json_nested 128) node_json_agrees

-- ==== Trail: the layer around the values in it

abbrev pub trail_json_variants : VariantsLayer json_variants Trail (TrailContent Trail)
trail_json_variants =
    next_unit json_variants (codes "End")
    (last_variant json_variants (codes "Through") (triple_layer tuple_style block_brackets (other_layer (linked_codec (pair_codec string_codec u8_codec))) (other_layer (codec_as (λ (x : HashSet ℕ (BuildHasherDefault FoldHasher)). x.keys) (set_codec wholes u16_codec))) (seen_layer (λ x. x.value) itself_layer)) (λ f x d. tt))

abbrev pub trail_json_layer : Layer json json_grammar Trail (TrailContent Trail)
trail_json_layer = choice_layer trail_json_variants (λ f. refl) (λ f. refl)

pub trail_json_means_opened : (y : Trail-F Trail)
    → trail_means_step (map-Trail Trail Meaning trail_means y)
    ≡ trail_json_layer.means trail_means (trail_opened y)
trail_json_means_opened Trail-F.End = refl
trail_json_means_opened (Trail-F.Through v0 v1 v2) = refl

pub trail_json_depth_opened : (y : Trail-F Trail)
    → trail_depth_step (map-Trail Trail ℕ trail_depth y)
    ≡ trail_json_layer.deep trail_depth (trail_opened y)
trail_json_depth_opened Trail-F.End = refl
trail_json_depth_opened (Trail-F.Through v0 v1 v2) = later_depth (later_depth refl)

abbrev pub trail_json_nested : Nested json json_grammar Trail
trail_json_nested = record {
  Seen = TrailContent Trail;
  layer = trail_json_layer;
  view = trail_view;
  means = trail_means;
  depth = trail_depth;
  means_is = λ x. fold_out-Trail Meaning trail_means_step x ∙ trail_json_means_opened (out-Trail x);
  depth_is = λ x. fold_out-Trail ℕ trail_depth_step x ∙ trail_json_depth_opened (out-Trail x);
}

-- those of at most so many levels
abbrev pub trail_json_at : ℕ → Codec Trail
trail_json_at = level trail_json_nested

pub trail_json_agrees : Agrees trail_means trail_codec.encoding.legal trail_means
    (limited trail_json_nested 128).encoding.legal
trail_json_agrees =
    agree_through (bin_agrees trail_nested trail_step (λ f. refl))
    (nested_agrees trail_json_nested trail_step (λ f. refl) 128)

-- those that are read, and what is legal in the words of the format before
abbrev pub trail_json : Codec Trail
trail_json = legal_as (limited trail_json_nested 128) trail_json_agrees
