-- Written by derive_files: types that contain themselves, and their codecs.
use Rattle.std.specs.Prelude.{◌≡◌, ℕ, refl, codes, String, string_cmp}
use Rattle.std.specs.BTreeMap.{BTreeMap}
use Rattle.std.specs.Global.{Global}
use Rattle.std.proofs.Common.{◌∙◌}
use Rattle.nano_value.specs.Meaning.{Meaning, Agrees}
use Rattle.nano_meaning.proofs.OrderLaws.{texts}
use Rattle.nano_schema_levels.proofs.StepsLaws.{later_depth, list_depth}
use Rattle.nano_levels.specs.Layers.{Layer, Nested}
use Rattle.nano_levels.proofs.LayersLaws.{itself_layer, list_layer}
use Rattle.nano_levels.proofs.LevelsLaws.{level, limited}
use Rattle.nano_schema_levels.specs.FieldLayers.{FieldsLayer}
use Rattle.nano_schema_levels.proofs.FieldLayersLaws.{fields_pair_layer, other_fields, required_layer, struct_layer}
use Rattle.nano_schema_levels.proofs.LegalLevelsLaws.{agree_by_steps, nested_agrees}
use Rattle.nano_schema_levels.proofs.PartLaws.{seen_layer}
use Rattle.nano_bin_nested.proofs.LegalLaws.{nested_agrees as bin_agrees}
use Rattle.nano_json.specs.Codec.{Codec, codec_as}
use Rattle.nano_json.specs.ContainerCodecs.{ordered_map_codec}
use Rattle.nano_json_tokens.specs.Cut.{json_grammar}
use Rattle.nano_json_tokens.proofs.JsonLaws.{json, block_brackets, block_style}
use Rattle.nano_json_schema.specs.FieldCodecs.{plain_names, json_fields, optional_field, required_field, string_codec}
use Rattle.test_nested_generics.specs.declared.shelf.Shelf.{Shelf}
use Rattle.test_nested_generics.specs.declared.shelf.Shelf.TheOpen.{Shelf-F}
use Rattle.test_nested_generics.specs.declared.shelf.Shelf.TheViews.{out-Shelf}
use Rattle.test_nested_generics.specs.declared.shelf.Shelf.TheFolds.{map-Shelf, fold_out-Shelf}
use Rattle.test_nested_generics.specs.ShelfCodecs.{ShelfContent, shelf_opened, shelf_view, shelf_means, shelf_means_step}
use Rattle.test_nested_generics.specs.ShelfCodecs.{shelf_depth, shelf_depth_step}
use Rattle.test_nested_generics.specs.ShelfCodecs.{shelf_step, shelf_nested, shelf_codec}
use Rattle.test_nested_generics.specs.ShelfCodecs.{shelf_weaker}
use Rattle.nano_bin_bytes.specs.Codec.{Codec as BinCodec}

module _ {K V : Type 0} (k_json : Codec K) (v_json : Codec V) where
  -- ==== Shelf: the layer around the values in it

  abbrev pub shelf_json_fields : FieldsLayer json_fields (Shelf K V) (ShelfContent K V (Shelf K V))
  shelf_json_fields =
      fields_pair_layer (fields_pair_layer (other_fields json_fields (required_field (codes "name") k_json)) (other_fields json_fields (required_field (codes "values") (codec_as (λ (x : BTreeMap (String Global) V). x.entries) (ordered_map_codec texts string_cmp string_codec v_json))))) (fields_pair_layer (other_fields json_fields (optional_field (codes "best") v_json)) (required_layer json_fields (codes "inner") (seen_layer (λ x. x.items) (list_layer block_style block_brackets itself_layer))))

  abbrev pub shelf_json_layer : Layer json json_grammar (Shelf K V) (ShelfContent K V (Shelf K V))
  shelf_json_layer = struct_layer shelf_json_fields (λ f. plain_names refl) (λ f. refl)

  pub shelf_json_means_opened : (y : Shelf-F K V (Shelf K V))
      → (shelf_means_step k_json.canonical.means v_json.canonical.means) (map-Shelf K V (Shelf K V) Meaning (shelf_means k_json.canonical.means v_json.canonical.means) y)
      ≡ shelf_json_layer.means (shelf_means k_json.canonical.means v_json.canonical.means) (shelf_opened y)
  shelf_json_means_opened y = refl

  pub shelf_json_depth_opened : (y : Shelf-F K V (Shelf K V))
      → shelf_depth_step (map-Shelf K V (Shelf K V) ℕ shelf_depth y)
      ≡ shelf_json_layer.deep shelf_depth (shelf_opened y)
  shelf_json_depth_opened y = later_depth (later_depth (list_depth _ _ _ (λ x. refl) y.inner.items))

  abbrev pub shelf_json_nested : Nested json json_grammar (Shelf K V)
  shelf_json_nested = record {
    Seen = ShelfContent K V (Shelf K V);
    layer = shelf_json_layer;
    view = shelf_view;
    means = (shelf_means k_json.canonical.means v_json.canonical.means);
    depth = shelf_depth;
    means_is = λ x. fold_out-Shelf K V Meaning (shelf_means_step k_json.canonical.means v_json.canonical.means) x ∙ shelf_json_means_opened (out-Shelf K V x);
    depth_is = λ x. fold_out-Shelf K V ℕ shelf_depth_step x ∙ shelf_json_depth_opened (out-Shelf K V x);
  }

  -- those of at most so many levels
  abbrev pub shelf_json_at : ℕ → Codec (Shelf K V)
  shelf_json_at = level shelf_json_nested

  -- those that are read
  abbrev pub shelf_json : Codec (Shelf K V)
  shelf_json = limited shelf_json_nested 128

  pub shelf_json_agrees : (k_bin : BinCodec K)
      → (v_bin : BinCodec V)
      → (k_same : Agrees k_bin.canonical.means k_bin.encoding.legal
      k_json.canonical.means k_json.encoding.legal)
      → (v_same : Agrees v_bin.canonical.means v_bin.encoding.legal
      v_json.canonical.means v_json.encoding.legal)
      → Agrees (shelf_means k_bin.canonical.means v_bin.canonical.means) (shelf_codec k_bin v_bin).encoding.legal (shelf_means k_json.canonical.means v_json.canonical.means)
      shelf_json.encoding.legal
  shelf_json_agrees k_bin v_bin k_same v_same =
      agree_by_steps (shelf_weaker k_same.allows v_same.allows) (shelf_weaker k_same.is_legal v_same.is_legal)
      (bin_agrees (shelf_nested k_bin v_bin) (shelf_step k_bin.encoding.legal v_bin.encoding.legal) (λ f. refl))
      (nested_agrees shelf_json_nested (shelf_step k_json.encoding.legal v_json.encoding.legal) (λ f. refl) 128)
      (λ i. shelf_means (k_same.means_is i) (v_same.means_is i))
