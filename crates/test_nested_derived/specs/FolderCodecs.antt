-- Written by derive_files: types that contain themselves, and their codecs.
use Rattle.std.specs.Prelude.{◌≡◌, ℕ, suc, map, refl, String, Vec, string_bytes}
use Rattle.std.specs.Global.{Global}
use Rattle.std.proofs.Common.{◌∙◌}
use Rattle.nano_value.specs.Meaning.{Meaning, text, listed, paired, LegalText, LegalList, LegalPair}
use Rattle.nano_levels.specs.Layers.{greatest}
use Rattle.nano_schema_levels.specs.LegalLevels.{LegalStep}
use Rattle.nano_schema_levels.proofs.StepsLaws.{list_depth}
use Rattle.nano_bin_bytes.specs.Codec.{Codec}
use Rattle.nano_bin.specs.ScalarCodecs.{string_codec}
use Rattle.nano_bin_levels.specs.Layers.{Layer, Nested}
use Rattle.nano_bin_levels.proofs.LayersLaws.{itself_layer, next_layer, seen_layer}
use Rattle.nano_bin_levels.proofs.ListsLaws.{list_layer}
use Rattle.nano_bin_levels.proofs.LevelsLaws.{nested_codec}
use Rattle.test_nested_derived.specs.declared.folder.Folder.{Folder}
use Rattle.test_nested_derived.specs.declared.folder.Folder.TheOpen.{Folder-F}
use Rattle.test_nested_derived.specs.declared.folder.Folder.TheViews.{out-Folder}
use Rattle.test_nested_derived.specs.declared.folder.Folder.TheFolds.{map-Folder, fold-Folder, fold_out-Folder}

-- ==== Folder: what a value is seen as

abbrev pub FolderContent : Type 0 → Type 0
FolderContent X = String Global × Vec X Global

abbrev pub folder_opened : {X : Type 0} → Folder-F X → FolderContent X
folder_opened y = (y.name, y.folders)

abbrev pub folder_view : Folder → FolderContent Folder
folder_view x = folder_opened (out-Folder x)

-- ---- what it means, and how deep it is

abbrev pub folder_means_step : Folder-F Meaning → Meaning
folder_means_step y = paired (text (string_bytes y.name), listed y.folders.items)

abbrev pub folder_means : Folder → Meaning
folder_means = fold-Folder Meaning folder_means_step

abbrev pub folder_depth_step : Folder-F ℕ → ℕ
folder_depth_step y = greatest (map (λ x. suc x) y.folders.items)

abbrev pub folder_depth : Folder → ℕ
folder_depth = fold-Folder ℕ folder_depth_step

-- ---- which meanings are legal, given those that are of the values in it

abbrev pub folder_step : LegalStep
folder_step P = LegalPair LegalText (LegalList P)

-- ---- as bytes: the layer around the values in it, and the codec

abbrev pub folder_layer : Layer Folder (FolderContent Folder)
folder_layer = next_layer string_codec (seen_layer (λ x. x.items) (list_layer itself_layer))

pub folder_means_opened : (y : Folder-F Folder)
    → folder_means_step (map-Folder Folder Meaning folder_means y)
    ≡ folder_layer.means folder_means (folder_opened y)
folder_means_opened y = refl

pub folder_depth_opened : (y : Folder-F Folder)
    → folder_depth_step (map-Folder Folder ℕ folder_depth y)
    ≡ folder_layer.deep folder_depth (folder_opened y)
folder_depth_opened y = list_depth _ _ _ (λ x. refl) y.folders.items

abbrev pub folder_nested : Nested Folder
folder_nested = record {
  Seen = FolderContent Folder;
  layer = folder_layer;
  view = folder_view;
  means = folder_means;
  depth = folder_depth;
  means_is = λ x. fold_out-Folder Meaning folder_means_step x ∙ folder_means_opened (out-Folder x);
  depth_is = λ x. fold_out-Folder ℕ folder_depth_step x ∙ folder_depth_opened (out-Folder x);
}

abbrev pub folder_codec : Codec Folder
folder_codec = nested_codec folder_nested
