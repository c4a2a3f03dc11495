-- Written by derive_files: types that contain themselves, and their codecs.
use Rattle.std.specs.Prelude.{◌≡◌, ℕ, ℤ, suc, max, map, refl, Bool, String, Vec, string_bytes, string_cmp}
use Rattle.std.specs.BTreeMap.{BTreeMap}
use Rattle.std.specs.Global.{Global}
use Rattle.std.specs.Int.{w32}
use Rattle.std.proofs.Common.{◌∙◌}
use Rattle.nano_value.specs.Meaning.{Meaning, truth, number, whole, text, listed, paired, LegalUnsigned, LegalSigned, LegalTruth, LegalText, LegalList, LegalPair}
use Rattle.nano_value.specs.Ordered.{ordered_map_means}
use Rattle.nano_value.specs.Tables.{LegalMap}
use Rattle.nano_meaning.proofs.OrderLaws.{texts}
use Rattle.nano_levels.specs.Layers.{greatest}
use Rattle.nano_schema_levels.specs.LegalLevels.{LegalStep}
use Rattle.nano_schema_levels.proofs.StepsLaws.{list_depth, map_means, pair_depth, pair_means}
use Rattle.nano_bin_bytes.specs.Codec.{Codec}
use Rattle.nano_bin.specs.ScalarCodecs.{boolean_codec, u16_codec, i32_codec, string_codec}
use Rattle.nano_bin.specs.ContainerCodecs.{pair_codec}
use Rattle.nano_bin_levels.specs.Layers.{Layer, Nested}
use Rattle.nano_bin_levels.proofs.LayersLaws.{itself_layer, next_layer, seen_layer}
use Rattle.nano_bin_levels.proofs.ListsLaws.{list_layer}
use Rattle.nano_bin_levels.proofs.MapsLaws.{ordered_map_layer}
use Rattle.nano_bin_levels.proofs.LevelsLaws.{nested_codec}
use Rattle.nano_bin_nested.specs.PairLayerCodecs.{pair_layer}
use Rattle.test_nested_defaults.specs.declared.widget.Widget.{Widget}
use Rattle.test_nested_defaults.specs.declared.widget.Widget.TheOpen.{Widget-F}
use Rattle.test_nested_defaults.specs.declared.widget.Widget.TheViews.{out-Widget}
use Rattle.test_nested_defaults.specs.declared.widget.Widget.TheFolds.{map-Widget, fold-Widget, fold_out-Widget}

-- ==== Widget: what a value is seen as

abbrev pub WidgetContent : Type 0 → Type 0
WidgetContent X =
    (String Global × (String Global × ℕ)) × ((ℤ × Bool) × (Vec X Global × BTreeMap (String Global) X))

abbrev pub widget_opened : {X : Type 0} → Widget-F X → WidgetContent X
widget_opened y = ((y.title, (y.shortcut, y.width)), ((y.row, y.is_open), (y.entries, y.others)))

abbrev pub widget_view : Widget → WidgetContent Widget
widget_view x = widget_opened (out-Widget x)

-- ---- what it means, and how deep it is

abbrev pub widget_means_step : Widget-F Meaning → Meaning
widget_means_step y =
    paired (paired (text (string_bytes y.title), paired (text (string_bytes y.shortcut), whole y.width)), paired (paired (number y.row, truth y.is_open), paired (listed y.entries.items, ordered_map_means string_cmp (λ x. text (string_bytes x)) (λ x. x) y.others.entries)))

abbrev pub widget_means : Widget → Meaning
widget_means = fold-Widget Meaning widget_means_step

abbrev pub widget_depth_step : Widget-F ℕ → ℕ
widget_depth_step y =
    max (greatest (map (λ x. suc x) y.entries.items)) (greatest (map (λ (x : (String Global) × ℕ). suc x.1) y.others.entries))

abbrev pub widget_depth : Widget → ℕ
widget_depth = fold-Widget ℕ widget_depth_step

-- ---- which meanings are legal, given those that are of the values in it

abbrev pub widget_step : LegalStep
widget_step P =
    LegalPair (LegalPair LegalText (LegalPair LegalText (LegalUnsigned 16))) (LegalPair (LegalPair (LegalSigned w32) LegalTruth) (LegalPair (LegalList P) (LegalMap LegalText P)))

-- ---- as bytes: the layer around the values in it, and the codec

abbrev pub widget_layer : Layer Widget (WidgetContent Widget)
widget_layer =
    next_layer (pair_codec string_codec (pair_codec string_codec u16_codec)) (next_layer (pair_codec i32_codec boolean_codec) (pair_layer (seen_layer (λ x. x.items) (list_layer itself_layer)) (seen_layer (λ x. x.entries) (ordered_map_layer texts string_codec refl itself_layer string_cmp))))

pub widget_means_opened : (y : Widget-F Widget)
    → widget_means_step (map-Widget Widget Meaning widget_means y)
    ≡ widget_layer.means widget_means (widget_opened y)
widget_means_opened y =
    pair_means refl (pair_means refl (pair_means refl (map_means string_cmp (λ x. text (string_bytes x)) (λ x. x) _ widget_means (λ x. refl) y.others.entries)))

pub widget_depth_opened : (y : Widget-F Widget)
    → widget_depth_step (map-Widget Widget ℕ widget_depth y)
    ≡ widget_layer.deep widget_depth (widget_opened y)
widget_depth_opened y =
    pair_depth (list_depth _ _ _ (λ x. refl) y.entries.items) (list_depth _ _ _ (λ x. refl) y.others.entries)

abbrev pub widget_nested : Nested Widget
widget_nested = record {
  Seen = WidgetContent Widget;
  layer = widget_layer;
  view = widget_view;
  means = widget_means;
  depth = widget_depth;
  means_is = λ x. fold_out-Widget Meaning widget_means_step x ∙ widget_means_opened (out-Widget x);
  depth_is = λ x. fold_out-Widget ℕ widget_depth_step x ∙ widget_depth_opened (out-Widget x);
}

abbrev pub widget_codec : Codec Widget
widget_codec = nested_codec widget_nested
