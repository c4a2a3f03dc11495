-- Written by derive_files: types that contain themselves, and their codecs.
use Rattle.std.specs.Prelude.{ℕ, suc, max, map, Box, Option, String, Vec, string_bytes, string_cmp}
use Rattle.std.specs.BTreeMap.{BTreeMap}
use Rattle.std.specs.Global.{Global}
use Rattle.std.specs.Option.{option_map}
use Rattle.nano_value.specs.Meaning.{Meaning, whole, text, optional, listed, paired, LegalUnsigned, LegalText, LegalOption, LegalList, LegalPair}
use Rattle.nano_value.specs.Ordered.{ordered_map_means}
use Rattle.nano_value.specs.Tables.{LegalMap}
use Rattle.nano_levels.specs.Layers.{greatest}
use Rattle.nano_schema_levels.specs.LegalLevels.{LegalStep}
use Rattle.nano_schema_levels.specs.Depths.{held_depth}
use Rattle.test_nested.specs.declared.guide.Way.{Way}
use Rattle.test_nested.specs.declared.guide.Guide.TheOpen.{Way-F}
use Rattle.test_nested.specs.declared.guide.Guide.TheViews.{out-Way}
use Rattle.test_nested.specs.declared.guide.Guide.TheFolds.{map-Way, fold-Way, fold_out-Way}
use Rattle.test_nested.specs.declared.guide.Stop.{Stop}
use Rattle.test_nested.specs.declared.guide.Guide.TheOpen.{Stop-F}
use Rattle.test_nested.specs.declared.guide.Guide.TheViews.{out-Stop}
use Rattle.test_nested.specs.declared.guide.Guide.TheFolds.{map-Stop, fold-Stop, fold_out-Stop}
use Rattle.test_nested.specs.declared.guide.Guide.{Guide}
use Rattle.test_nested.specs.declared.guide.Guide.TheOpen.{Guide-F}
use Rattle.test_nested.specs.declared.guide.Guide.TheViews.{out-Guide}
use Rattle.test_nested.specs.declared.guide.Guide.TheFolds.{map-Guide, fold-Guide, fold_out-Guide}

-- ==== Way: what a value is seen as

abbrev pub WayContent : Type 0 → Type 0
WayContent X = ℕ × Box X Global

abbrev pub way_opened : {X : Type 0} → Way-F X Stop Way → WayContent X
way_opened y = (y.minutes, y.guide)

abbrev pub way_view : Way → WayContent Guide
way_view x = way_opened (out-Way x)

-- ==== Stop: what a value is seen as

abbrev pub StopContent : Type 0 → Type 0
StopContent X = BTreeMap (String Global) Way × Option Way

abbrev pub stop_opened : {X : Type 0} → Stop-F X Stop Way → StopContent X
stop_opened y = (y.ways, y.best)

abbrev pub stop_view : Stop → StopContent Guide
stop_view x = stop_opened (out-Stop x)

-- ==== Guide: what a value is seen as

abbrev pub GuideContent : Type 0 → Type 0
GuideContent X = String Global × (Vec Stop Global × Option (Box X Global))

abbrev pub guide_opened : {X : Type 0} → Guide-F X Stop Way → GuideContent X
guide_opened y = (y.name, (y.stops, y.next))

abbrev pub guide_view : Guide → GuideContent Guide
guide_view x = guide_opened (out-Guide x)

-- ---- what it means, and how deep it is

abbrev pub way_means_step : Way-F Meaning Meaning Meaning → Meaning
way_means_step y = paired (whole y.minutes, y.guide.value)

abbrev pub way_depth_step : Way-F ℕ ℕ ℕ → ℕ
way_depth_step y = suc y.guide.value

abbrev pub stop_means_step : Stop-F Meaning Meaning Meaning → Meaning
stop_means_step y =
    paired (ordered_map_means string_cmp (λ x. text (string_bytes x)) (λ x. x) y.ways.entries, optional (option_map (λ x. x) y.best))

abbrev pub stop_depth_step : Stop-F ℕ ℕ ℕ → ℕ
stop_depth_step y =
    max (greatest (map (λ (x : (String Global) × ℕ). x.1) y.ways.entries)) (held_depth (λ x. x) y.best)

abbrev pub guide_means_step : Guide-F Meaning Meaning Meaning → Meaning
guide_means_step y =
    paired (text (string_bytes y.name), paired (listed (map (λ x. x) y.stops.items), optional (option_map (λ x. x.value) y.next)))

abbrev pub guide_depth_step : Guide-F ℕ ℕ ℕ → ℕ
guide_depth_step y =
    max (greatest (map (λ x. x) y.stops.items)) (held_depth (λ x. suc x.value) y.next)

abbrev pub guide_means : Guide → Meaning
guide_means = fold-Guide Meaning Meaning Meaning guide_means_step stop_means_step way_means_step

abbrev pub guide_depth : Guide → ℕ
guide_depth = fold-Guide ℕ ℕ ℕ guide_depth_step stop_depth_step way_depth_step

-- by the steps, and as the layer around `Guide` says it
abbrev pub way_means_folded : Way → Meaning
way_means_folded = fold-Way Meaning Meaning Meaning guide_means_step stop_means_step way_means_step

abbrev pub way_depth_folded : Way → ℕ
way_depth_folded = fold-Way ℕ ℕ ℕ guide_depth_step stop_depth_step way_depth_step

abbrev pub way_means : Way → Meaning
way_means x =
    (λ (y : Way-F Guide Stop Way). paired (whole y.minutes, guide_means y.guide.value)) (out-Way x)

-- by the steps, and as the layer around `Guide` says it
abbrev pub stop_means_folded : Stop → Meaning
stop_means_folded = fold-Stop Meaning Meaning Meaning guide_means_step stop_means_step way_means_step

abbrev pub stop_depth_folded : Stop → ℕ
stop_depth_folded = fold-Stop ℕ ℕ ℕ guide_depth_step stop_depth_step way_depth_step

abbrev pub stop_means : Stop → Meaning
stop_means x =
    (λ (y : Stop-F Guide Stop Way). paired (ordered_map_means string_cmp (λ x. text (string_bytes x)) way_means y.ways.entries, optional (option_map way_means y.best))) (out-Stop x)

-- ---- which meanings are legal, given those that are of the values in it

abbrev pub way_step : LegalStep
way_step P = LegalPair (LegalUnsigned 16) P

-- ---- which meanings are legal, given those that are of the values in it

abbrev pub stop_step : LegalStep
stop_step P = LegalPair (LegalMap LegalText (way_step P)) (LegalOption (way_step P))

-- ---- which meanings are legal, given those that are of the values in it

abbrev pub guide_step : LegalStep
guide_step P = LegalPair LegalText (LegalPair (LegalList (stop_step P)) (LegalOption P))
