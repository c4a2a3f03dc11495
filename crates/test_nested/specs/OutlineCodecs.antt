-- An outline by its fields, and its codec.
use Rattle.std.specs.Prelude.{◌≡◌, ℕ, suc, max, map, refl, List, [], ◌∷◌, String, Vec, string_bytes}
use Rattle.std.specs.Global.{Global}
use Rattle.std.proofs.Common.{◌∙◌}
use Rattle.nano_value.specs.Meaning.{Meaning, text, listed, paired}
use Rattle.nano_bin_bytes.specs.Codec.{Codec}
use Rattle.nano_bin.specs.ScalarCodecs.{string_codec}
use Rattle.nano_levels.specs.Layers.{greatest}
use Rattle.nano_levels.proofs.EntriesLaws.{with_values, entries_deep}
use Rattle.nano_bin_levels.specs.Layers.{Layer, Nested}
use Rattle.nano_bin_levels.proofs.LayersLaws.{itself_layer, next_layer, seen_layer}
use Rattle.nano_bin_levels.proofs.ListsLaws.{list_layer}
use Rattle.nano_bin_levels.proofs.LevelsLaws.{nested_codec}
use Rattle.nano_bin_nested.specs.PairLayerCodecs.{pair_layer}
use Rattle.nano_bin_nested.proofs.NestedLaws.{steps_deep}
use Rattle.test_nested.specs.declared.outline.Outline.{Outline}
use Rattle.test_nested.specs.declared.outline.Outline.TheOpen.{Outline-F}
use Rattle.test_nested.specs.declared.outline.Outline.TheViews.{out-Outline}
use Rattle.test_nested.specs.declared.outline.Outline.TheFolds.{map-Outline, fold-Outline}
use Rattle.test_nested.specs.declared.outline.Outline.TheFolds.{fold_out-Outline}

-- ---- the values of the fields

abbrev pub Section : Type 0 → Type 0
Section X = String Global × X

abbrev pub Fields : Type 0 → Type 0
Fields X = Vec (Section X) Global × List X

abbrev pub opened : {X : Type 0} → Outline-F X → Fields X
opened y = (y.sections, y.notes)

abbrev pub outline_view : Outline → Fields Outline
outline_view x = opened (out-Outline x)

-- ---- what an outline means, and how deep it is

abbrev pub section_means : Section Meaning → Meaning
section_means e = paired (text (string_bytes e.0), e.1)

abbrev pub means_step : Outline-F Meaning → Meaning
means_step y = paired (listed (map section_means y.sections.items), listed y.notes)

abbrev pub outline_means : Outline → Meaning
outline_means = fold-Outline Meaning means_step

abbrev pub depth_step : Outline-F ℕ → ℕ
depth_step y =
    max (greatest (map (λ (e : Section ℕ). suc e.1) y.sections.items))
    (greatest (map (λ n. suc n) y.notes))

abbrev pub outline_depth : Outline → ℕ
outline_depth = fold-Outline ℕ depth_step

-- ---- its fields

abbrev pub section_layer : Layer Outline (Section Outline)
section_layer = next_layer string_codec itself_layer

abbrev pub outline_layer : Layer Outline (Fields Outline)
outline_layer =
    pair_layer (seen_layer (λ x. x.items) (list_layer section_layer)) (list_layer itself_layer)

pub sections_mean : (es : List (Section Outline))
    → map section_means (with_values outline_means es)
    ≡ map (section_layer.means outline_means) es
sections_mean [] = refl
sections_mean (e ∷ es) = λ i. section_layer.means outline_means e ∷ sections_mean es i

pub means_opened : (y : Outline-F Outline)
    → means_step (map-Outline Outline Meaning outline_means y)
    ≡ outline_layer.means outline_means (opened y)
means_opened y = λ i.
    paired (listed (sections_mean y.sections.items i), listed (map outline_means y.notes))

pub depth_opened : (y : Outline-F Outline) → depth_step (map-Outline Outline ℕ outline_depth y)
    ≡ outline_layer.deep outline_depth (opened y)
depth_opened y = λ i.
    max (greatest (entries_deep outline_depth y.sections.items i))
    (greatest (steps_deep outline_depth y.notes i))

abbrev pub outline_nested : Nested Outline
outline_nested = record {
  Seen = Fields Outline;
  layer = outline_layer;
  view = outline_view;
  means = outline_means;
  depth = outline_depth;
  means_is = λ x. fold_out-Outline Meaning means_step x ∙ means_opened (out-Outline x);
  depth_is = λ x. fold_out-Outline ℕ depth_step x ∙ depth_opened (out-Outline x);
}

abbrev pub outline_codec : Codec Outline
outline_codec = nested_codec outline_nested
