-- Written by derive_files: types that contain themselves, and their codecs.
use Rattle.std.specs.Prelude.{◌≡◌, ℕ, suc, map, refl, true, Option, String, Vec, string_bytes, string_cmp}
use Rattle.std.specs.BTreeMap.{BTreeMap}
use Rattle.std.specs.Global.{Global}
use Rattle.std.specs.Option.{option_map}
use Rattle.std.proofs.Common.{◌∙◌}
use Rattle.nano_value.specs.Meaning.{Meaning, text, optional, listed, paired, LegalText, LegalOption, LegalList, LegalPair}
use Rattle.nano_value.specs.Ordered.{ordered_map_means}
use Rattle.nano_value.specs.Tables.{LegalMap}
use Rattle.nano_meaning.proofs.OrderLaws.{texts}
use Rattle.nano_meaning.proofs.MeaningLaws.{list_weaker, option_weaker, pair_weaker}
use Rattle.nano_meaning.proofs.TablesLaws.{map_weaker}
use Rattle.nano_levels.specs.Layers.{greatest}
use Rattle.nano_schema_levels.specs.LegalLevels.{IsWeaker, LegalStep}
use Rattle.nano_schema_levels.proofs.LegalLevelsLaws.{remains}
use Rattle.nano_schema_levels.proofs.StepsLaws.{list_depth}
use Rattle.nano_bin_bytes.specs.Codec.{Codec}
use Rattle.nano_bin_bytes.specs.BaseCodecs.{codec_as}
use Rattle.nano_bin.specs.ScalarCodecs.{string_codec}
use Rattle.nano_bin.specs.ContainerCodecs.{option_codec, ordered_map_codec, pair_codec}
use Rattle.nano_bin_levels.specs.Layers.{Layer, Nested}
use Rattle.nano_bin_levels.proofs.LayersLaws.{itself_layer, next_layer, seen_layer}
use Rattle.nano_bin_levels.proofs.ListsLaws.{list_layer}
use Rattle.nano_bin_levels.proofs.LevelsLaws.{nested_codec}
use Rattle.test_nested_generics.specs.declared.shelf.Shelf.{Shelf}
use Rattle.test_nested_generics.specs.declared.shelf.Shelf.TheOpen.{Shelf-F}
use Rattle.test_nested_generics.specs.declared.shelf.Shelf.TheViews.{out-Shelf}
use Rattle.test_nested_generics.specs.declared.shelf.Shelf.TheFolds.{map-Shelf, fold-Shelf, fold_out-Shelf}

-- ==== Shelf: what a value is seen as

abbrev pub ShelfContent : Type 0 → Type 0 → Type 0 → Type 0
ShelfContent K V X = (K × BTreeMap (String Global) V) × (Option V × Vec X Global)

abbrev pub shelf_opened : {K V : Type 0} → {X : Type 0} → Shelf-F K V X → ShelfContent K V X
shelf_opened {K} {V} y = ((y.name, y.values), (y.best, y.inner))

abbrev pub shelf_view : {K V : Type 0} → (Shelf K V) → ShelfContent K V (Shelf K V)
shelf_view {K} {V} x = shelf_opened (out-Shelf K V x)

-- ---- what it means, and how deep it is

abbrev pub shelf_means_step : {K V : Type 0} → (K → Meaning) → (V → Meaning) → Shelf-F K V Meaning → Meaning
shelf_means_step {K} {V} k_means v_means y =
    paired (paired (k_means y.name, ordered_map_means string_cmp (λ x. text (string_bytes x)) v_means y.values.entries), paired (optional (option_map v_means y.best), listed y.inner.items))

abbrev pub shelf_means : {K V : Type 0} → (K → Meaning) → (V → Meaning) → (Shelf K V) → Meaning
shelf_means {K} {V} k_means v_means = fold-Shelf K V Meaning (shelf_means_step k_means v_means)

abbrev pub shelf_depth_step : {K V : Type 0} → Shelf-F K V ℕ → ℕ
shelf_depth_step {K} {V} y = greatest (map (λ x. suc x) y.inner.items)

abbrev pub shelf_depth : {K V : Type 0} → (Shelf K V) → ℕ
shelf_depth {K} {V} = fold-Shelf K V ℕ shelf_depth_step

-- ---- which meanings are legal, given those that are of the values in it

abbrev pub shelf_step : (Meaning → Type 0) → (Meaning → Type 0) → LegalStep
shelf_step k_legal v_legal P =
    LegalPair (LegalPair k_legal (LegalMap LegalText v_legal)) (LegalPair (LegalOption v_legal) (LegalList P))

pub shelf_weaker : {PK QK PV QV : Meaning → Type 0}
    → ((m : Meaning) → PK m → QK m)
    → ((m : Meaning) → PV m → QV m)
    → IsWeaker (shelf_step PK PV) (shelf_step QK QV)
shelf_weaker k v X Y x m h = (pair_weaker _ _ _ _ (pair_weaker _ _ _ _ k (map_weaker _ _ _ _ (remains LegalText) v)) (pair_weaker _ _ _ _ (option_weaker _ _ v) (list_weaker _ _ x))) m h

module _ {K V : Type 0} (k_bin : Codec K) (v_bin : Codec V) where
  -- ---- as bytes: the layer around the values in it, and the codec

  abbrev pub shelf_layer : Layer (Shelf K V) (ShelfContent K V (Shelf K V))
  shelf_layer =
      next_layer (pair_codec k_bin (codec_as (λ (x : BTreeMap (String Global) V). x.entries) (ordered_map_codec texts string_cmp string_codec v_bin))) (next_layer (option_codec v_bin) (seen_layer (λ x. x.items) (list_layer itself_layer)))

  pub shelf_means_opened : (y : Shelf-F K V (Shelf K V))
      → (shelf_means_step k_bin.canonical.means v_bin.canonical.means) (map-Shelf K V (Shelf K V) Meaning (shelf_means k_bin.canonical.means v_bin.canonical.means) y)
      ≡ shelf_layer.means (shelf_means k_bin.canonical.means v_bin.canonical.means) (shelf_opened y)
  shelf_means_opened y = refl

  pub shelf_depth_opened : (y : Shelf-F K V (Shelf K V))
      → shelf_depth_step (map-Shelf K V (Shelf K V) ℕ shelf_depth y)
      ≡ shelf_layer.deep shelf_depth (shelf_opened y)
  shelf_depth_opened y = list_depth _ _ _ (λ x. refl) y.inner.items

  abbrev pub shelf_nested : Nested (Shelf K V)
  shelf_nested = record {
    Seen = ShelfContent K V (Shelf K V);
    layer = shelf_layer;
    view = shelf_view;
    means = (shelf_means k_bin.canonical.means v_bin.canonical.means);
    depth = shelf_depth;
    means_is = λ x. fold_out-Shelf K V Meaning (shelf_means_step k_bin.canonical.means v_bin.canonical.means) x ∙ shelf_means_opened (out-Shelf K V x);
    depth_is = λ x. fold_out-Shelf K V ℕ shelf_depth_step x ∙ shelf_depth_opened (out-Shelf K V x);
  }

  abbrev pub shelf_codec : Codec (Shelf K V)
  shelf_codec = nested_codec shelf_nested

  pub shelf_is_read : k_bin.is_decodable ≡ true → v_bin.is_decodable ≡ true → shelf_codec.is_decodable ≡ true
  shelf_is_read k_read v_read = rw (k_read, v_read) refl
