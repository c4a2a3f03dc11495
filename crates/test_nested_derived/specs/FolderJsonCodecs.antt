-- Written by derive_files: types that contain themselves, and their codecs.
use Rattle.std.specs.Prelude.{◌≡◌, ℕ, refl, codes}
use Rattle.std.proofs.Common.{◌∙◌}
use Rattle.nano_value.specs.Meaning.{Meaning, Agrees}
use Rattle.nano_schema_levels.proofs.StepsLaws.{later_depth, list_depth}
use Rattle.nano_levels.specs.Layers.{Layer, Nested}
use Rattle.nano_levels.proofs.LayersLaws.{itself_layer, list_layer}
use Rattle.nano_levels.proofs.LevelsLaws.{level, limited}
use Rattle.nano_schema_levels.specs.FieldLayers.{FieldsLayer}
use Rattle.nano_schema_levels.proofs.FieldLayersLaws.{fields_pair_layer, other_fields, required_layer, struct_layer}
use Rattle.nano_schema_levels.proofs.LegalLevelsLaws.{agree_through, legal_as, nested_agrees}
use Rattle.nano_schema_levels.proofs.PartLaws.{seen_layer}
use Rattle.nano_bin_nested.proofs.LegalLaws.{nested_agrees as bin_agrees}
use Rattle.nano_json.specs.Codec.{Codec}
use Rattle.nano_json_tokens.specs.Cut.{json_grammar}
use Rattle.nano_json_tokens.proofs.JsonLaws.{json, block_brackets, block_style}
use Rattle.nano_json_schema.specs.FieldCodecs.{plain_names, json_fields, required_field, string_codec}
use Rattle.test_nested_derived.specs.declared.folder.Folder.{Folder}
use Rattle.test_nested_derived.specs.declared.folder.Folder.TheOpen.{Folder-F}
use Rattle.test_nested_derived.specs.declared.folder.Folder.TheViews.{out-Folder}
use Rattle.test_nested_derived.specs.declared.folder.Folder.TheFolds.{map-Folder, fold_out-Folder}
use Rattle.test_nested_derived.specs.FolderCodecs.{FolderContent, folder_opened, folder_view, folder_means, folder_means_step}
use Rattle.test_nested_derived.specs.FolderCodecs.{folder_depth, folder_depth_step}
use Rattle.test_nested_derived.specs.FolderCodecs.{folder_step, folder_nested, folder_codec}

-- ==== Folder: the layer around the values in it

abbrev pub folder_json_fields : FieldsLayer json_fields Folder (FolderContent Folder)
folder_json_fields =
    fields_pair_layer (other_fields json_fields (required_field (codes "name") string_codec)) (required_layer json_fields (codes "folders") (seen_layer (λ x. x.items) (list_layer block_style block_brackets itself_layer)))

abbrev pub folder_json_layer : Layer json json_grammar Folder (FolderContent Folder)
folder_json_layer = struct_layer folder_json_fields (λ f. plain_names refl) (λ f. refl)

pub folder_json_means_opened : (y : Folder-F Folder)
    → folder_means_step (map-Folder Folder Meaning folder_means y)
    ≡ folder_json_layer.means folder_means (folder_opened y)
folder_json_means_opened y = refl

pub folder_json_depth_opened : (y : Folder-F Folder)
    → folder_depth_step (map-Folder Folder ℕ folder_depth y)
    ≡ folder_json_layer.deep folder_depth (folder_opened y)
folder_json_depth_opened y = later_depth (list_depth _ _ _ (λ x. refl) y.folders.items)

abbrev pub folder_json_nested : Nested json json_grammar Folder
folder_json_nested = record {
  Seen = FolderContent Folder;
  layer = folder_json_layer;
  view = folder_view;
  means = folder_means;
  depth = folder_depth;
  means_is = λ x. fold_out-Folder Meaning folder_means_step x ∙ folder_json_means_opened (out-Folder x);
  depth_is = λ x. fold_out-Folder ℕ folder_depth_step x ∙ folder_json_depth_opened (out-Folder x);
}

-- those of at most so many levels
abbrev pub folder_json_at : ℕ → Codec Folder
folder_json_at = level folder_json_nested

pub folder_json_agrees : Agrees folder_means folder_codec.encoding.legal folder_means
    (limited folder_json_nested 128).encoding.legal
folder_json_agrees =
    agree_through (bin_agrees folder_nested folder_step (λ f. refl))
    (nested_agrees folder_json_nested folder_step (λ f. refl) 128)

-- those that are read, and what is legal in the words of the format before
abbrev pub folder_json : Codec Folder
folder_json = legal_as (limited folder_json_nested 128) folder_json_agrees
