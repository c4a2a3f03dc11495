-- Written by derive_files: types that contain themselves, and their codecs.
use Rattle.std.specs.Prelude.{◌≡◌, ℕ, suc, map, refl, String, string_bytes, string_cmp}
use Rattle.std.specs.BTreeMap.{BTreeMap}
use Rattle.std.specs.Global.{Global}
use Rattle.std.proofs.Common.{◌∙◌}
use Rattle.nano_value.specs.Meaning.{Meaning, text, paired, LegalText, LegalPair}
use Rattle.nano_value.specs.Ordered.{ordered_map_means}
use Rattle.nano_value.specs.Tables.{LegalMap}
use Rattle.nano_meaning.proofs.OrderLaws.{texts}
use Rattle.nano_levels.specs.Layers.{greatest}
use Rattle.nano_schema_levels.specs.LegalLevels.{LegalStep}
use Rattle.nano_schema_levels.proofs.StepsLaws.{list_depth, map_means, pair_means}
use Rattle.nano_bin_bytes.specs.Codec.{Codec}
use Rattle.nano_bin.specs.ScalarCodecs.{string_codec}
use Rattle.nano_bin_levels.specs.Layers.{Layer, Nested}
use Rattle.nano_bin_levels.proofs.LayersLaws.{itself_layer, next_layer, seen_layer}
use Rattle.nano_bin_levels.proofs.MapsLaws.{ordered_map_layer}
use Rattle.nano_bin_levels.proofs.LevelsLaws.{nested_codec}
use Rattle.test_nested_derived_ron.specs.declared.menu.Menu.{Menu}
use Rattle.test_nested_derived_ron.specs.declared.menu.Menu.TheOpen.{Menu-F}
use Rattle.test_nested_derived_ron.specs.declared.menu.Menu.TheViews.{out-Menu}
use Rattle.test_nested_derived_ron.specs.declared.menu.Menu.TheFolds.{map-Menu, fold-Menu, fold_out-Menu}

-- ==== Menu: what a value is seen as

abbrev pub MenuContent : Type 0 → Type 0
MenuContent X = String Global × BTreeMap (String Global) X

abbrev pub menu_opened : {X : Type 0} → Menu-F X → MenuContent X
menu_opened y = (y.title, y.entries)

abbrev pub menu_view : Menu → MenuContent Menu
menu_view x = menu_opened (out-Menu x)

-- ---- what it means, and how deep it is

abbrev pub menu_means_step : Menu-F Meaning → Meaning
menu_means_step y =
    paired (text (string_bytes y.title), ordered_map_means string_cmp (λ x. text (string_bytes x)) (λ x. x) y.entries.entries)

abbrev pub menu_means : Menu → Meaning
menu_means = fold-Menu Meaning menu_means_step

abbrev pub menu_depth_step : Menu-F ℕ → ℕ
menu_depth_step y = greatest (map (λ (x : (String Global) × ℕ). suc x.1) y.entries.entries)

abbrev pub menu_depth : Menu → ℕ
menu_depth = fold-Menu ℕ menu_depth_step

-- ---- which meanings are legal, given those that are of the values in it

abbrev pub menu_step : LegalStep
menu_step P = LegalPair LegalText (LegalMap LegalText P)

-- ---- as bytes: the layer around the values in it, and the codec

abbrev pub menu_layer : Layer Menu (MenuContent Menu)
menu_layer =
    next_layer string_codec (seen_layer (λ x. x.entries) (ordered_map_layer texts string_codec refl itself_layer string_cmp))

pub menu_means_opened : (y : Menu-F Menu)
    → menu_means_step (map-Menu Menu Meaning menu_means y)
    ≡ menu_layer.means menu_means (menu_opened y)
menu_means_opened y =
    pair_means refl (map_means string_cmp (λ x. text (string_bytes x)) (λ x. x) _ menu_means (λ x. refl) y.entries.entries)

pub menu_depth_opened : (y : Menu-F Menu)
    → menu_depth_step (map-Menu Menu ℕ menu_depth y)
    ≡ menu_layer.deep menu_depth (menu_opened y)
menu_depth_opened y = list_depth _ _ _ (λ x. refl) y.entries.entries

abbrev pub menu_nested : Nested Menu
menu_nested = record {
  Seen = MenuContent Menu;
  layer = menu_layer;
  view = menu_view;
  means = menu_means;
  depth = menu_depth;
  means_is = λ x. fold_out-Menu Meaning menu_means_step x ∙ menu_means_opened (out-Menu x);
  depth_is = λ x. fold_out-Menu ℕ menu_depth_step x ∙ menu_depth_opened (out-Menu x);
}

abbrev pub menu_codec : Codec Menu
menu_codec = nested_codec menu_nested
