-- Written by derive_files: types that contain themselves, and their codecs.
use Rattle.std.specs.Prelude.{◌≡◌, ℕ, ℤ, suc, map, refl, String, Vec, string_bytes, string_cmp}
use Rattle.std.specs.BTreeMap.{BTreeMap}
use Rattle.std.specs.Global.{Global}
use Rattle.std.specs.Int.{w32}
use Rattle.std.specs.Ordering.{nat_cmp, int_cmp}
use Rattle.std.proofs.Common.{◌∙◌, ap, lit≤}
use Rattle.nano_value.specs.Meaning.{Meaning, nothing, number, whole, text, listed, LegalUnsigned, LegalSigned, LegalUnit, LegalText, LegalList}
use Rattle.nano_value.specs.Sums.{tagged, LegalVariant, variant, no_variants}
use Rattle.nano_value.specs.Ordered.{ordered_map_means}
use Rattle.nano_value.specs.Tables.{LegalMap}
use Rattle.nano_meaning.proofs.OrderLaws.{texts, wholes, numbers}
use Rattle.nano_levels.specs.Layers.{greatest}
use Rattle.nano_schema.specs.declared.choices.Either.{Either}
use Rattle.nano_schema.specs.declared.choices.Either.TheVariants.{First, Later}
use Rattle.nano_schema_levels.specs.LegalLevels.{LegalStep}
use Rattle.nano_schema_levels.proofs.StepsLaws.{list_depth, map_means}
use Rattle.nano_bin_bytes.specs.Codec.{Codec}
use Rattle.nano_bin_bytes.specs.BaseCodecs.{codec_as}
use Rattle.nano_bin.specs.ScalarCodecs.{u16_codec, u64_codec, i32_codec, string_codec, unit_codec}
use Rattle.nano_bin.specs.ContainerCodecs.{ordered_map_codec}
use Rattle.nano_bin_levels.specs.Layers.{Layer, Nested}
use Rattle.nano_bin_levels.proofs.LayersLaws.{itself_layer, other_layer, seen_layer}
use Rattle.nano_bin_levels.proofs.ListsLaws.{list_layer}
use Rattle.nano_bin_levels.proofs.MapsLaws.{ordered_map_layer}
use Rattle.nano_bin_levels.proofs.LevelsLaws.{nested_codec}
use Rattle.nano_bin_nested.specs.ChoiceLayerCodecs.{ChoiceLayer, choice_layer, last_variant, next_variant}
use Rattle.test_nested_derived_ron.specs.declared.setting.Setting.{Setting}
use Rattle.test_nested_derived_ron.specs.declared.setting.Setting.TheOpen.{Setting-F}
use Rattle.test_nested_derived_ron.specs.declared.setting.Setting.TheViews.{out-Setting}
use Rattle.test_nested_derived_ron.specs.declared.setting.Setting.TheFolds.{map-Setting, fold-Setting, fold_out-Setting}

-- ==== Setting: what a value is seen as

abbrev pub SettingContent : Type 0 → Type 0
SettingContent X =
    Either (Unit {0})
    (Either (String Global)
    (Either (BTreeMap ℤ ℕ)
    (Either (BTreeMap (String Global) X)
    (BTreeMap ℕ (Vec X Global)))))

abbrev pub setting_opened : {X : Type 0} → Setting-F X → SettingContent X
setting_opened Setting-F.Unset = First (tt {0})
setting_opened (Setting-F.Text v) = Later (First v)
setting_opened (Setting-F.Counts v) = Later (Later (First v))
setting_opened (Setting-F.Table v) = Later (Later (Later (First v)))
setting_opened (Setting-F.Lists v) = Later (Later (Later (Later v)))

abbrev pub setting_view : Setting → SettingContent Setting
setting_view x = setting_opened (out-Setting x)

-- ---- what it means, and how deep it is

abbrev pub setting_means_step : Setting-F Meaning → Meaning
setting_means_step Setting-F.Unset = tagged 0 nothing
setting_means_step (Setting-F.Text v) = tagged 1 (text (string_bytes v))
setting_means_step (Setting-F.Counts v) =
    tagged 2 (ordered_map_means int_cmp number whole v.entries)
setting_means_step (Setting-F.Table v) =
    tagged 3 (ordered_map_means string_cmp (λ x. text (string_bytes x)) (λ x. x) v.entries)
setting_means_step (Setting-F.Lists v) =
    tagged 4 (ordered_map_means nat_cmp whole (λ x. listed x.items) v.entries)

abbrev pub setting_means : Setting → Meaning
setting_means = fold-Setting Meaning setting_means_step

abbrev pub setting_depth_step : Setting-F ℕ → ℕ
setting_depth_step Setting-F.Unset = 0
setting_depth_step (Setting-F.Text v) = 0
setting_depth_step (Setting-F.Counts v) = 0
setting_depth_step (Setting-F.Table v) =
    greatest (map (λ (x : (String Global) × ℕ). suc x.1) v.entries)
setting_depth_step (Setting-F.Lists v) =
    greatest (map (λ (x : ℕ × Vec ℕ Global). greatest (map (λ x. suc x) x.1.items)) v.entries)

abbrev pub setting_depth : Setting → ℕ
setting_depth = fold-Setting ℕ setting_depth_step

-- ---- which meanings are legal, given those that are of the values in it

abbrev pub setting_step : LegalStep
setting_step P =
    LegalVariant (variant LegalUnit (variant LegalText (variant (LegalMap (LegalSigned w32) (LegalUnsigned 64)) (variant (LegalMap LegalText P) (variant (LegalMap (LegalUnsigned 16) (LegalList P)) no_variants)))))

-- ---- as bytes: the layer around the values in it, and the codec

abbrev pub setting_variants : ChoiceLayer Setting (SettingContent Setting)
setting_variants =
    next_variant (other_layer unit_codec)
    (next_variant (other_layer string_codec)
    (next_variant (other_layer (codec_as (λ (x : BTreeMap ℤ ℕ). x.entries) (ordered_map_codec numbers int_cmp i32_codec u64_codec)))
    (next_variant (seen_layer (λ x. x.entries) (ordered_map_layer texts string_codec refl itself_layer string_cmp))
    (last_variant (seen_layer (λ x. x.entries) (ordered_map_layer wholes u16_codec refl (seen_layer (λ x. x.items) (list_layer itself_layer)) nat_cmp))))))

abbrev pub setting_layer : Layer Setting (SettingContent Setting)
setting_layer = choice_layer setting_variants (λ f. lit≤ tt)

pub setting_means_opened : (y : Setting-F Setting)
    → setting_means_step (map-Setting Setting Meaning setting_means y)
    ≡ setting_layer.means setting_means (setting_opened y)
setting_means_opened Setting-F.Unset = refl
setting_means_opened (Setting-F.Text v) = refl
setting_means_opened (Setting-F.Counts v) = refl
setting_means_opened (Setting-F.Table v) =
    ap (λ m. tagged 3 m) (map_means string_cmp (λ x. text (string_bytes x)) (λ x. x) _ setting_means (λ x. refl) v.entries)
setting_means_opened (Setting-F.Lists v) =
    ap (λ m. tagged 4 m) (map_means nat_cmp whole (λ x. listed x.items) _ (λ x. listed (map setting_means x.items)) (λ x. refl) v.entries)

pub setting_depth_opened : (y : Setting-F Setting)
    → setting_depth_step (map-Setting Setting ℕ setting_depth y)
    ≡ setting_layer.deep setting_depth (setting_opened y)
setting_depth_opened Setting-F.Unset = refl
setting_depth_opened (Setting-F.Text v) = refl
setting_depth_opened (Setting-F.Counts v) = refl
setting_depth_opened (Setting-F.Table v) = list_depth _ _ _ (λ x. refl) v.entries
setting_depth_opened (Setting-F.Lists v) =
    list_depth _ _ _ (λ x. list_depth _ _ _ (λ x. refl) x.1.items) v.entries

abbrev pub setting_nested : Nested Setting
setting_nested = record {
  Seen = SettingContent Setting;
  layer = setting_layer;
  view = setting_view;
  means = setting_means;
  depth = setting_depth;
  means_is = λ x. fold_out-Setting Meaning setting_means_step x ∙ setting_means_opened (out-Setting x);
  depth_is = λ x. fold_out-Setting ℕ setting_depth_step x ∙ setting_depth_opened (out-Setting x);
}

abbrev pub setting_codec : Codec Setting
setting_codec = nested_codec setting_nested
