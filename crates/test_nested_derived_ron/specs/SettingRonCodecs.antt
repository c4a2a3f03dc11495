-- Written by derive_files: types that contain themselves, and their codecs.
use Rattle.std.specs.Prelude.{◌≡◌, ℕ, ℤ, map, refl, codes, string_bytes, string_cmp}
use Rattle.std.specs.BTreeMap.{BTreeMap}
use Rattle.std.specs.Ordering.{nat_cmp, int_cmp}
use Rattle.std.proofs.Common.{◌∙◌, ap}
use Rattle.nano_value.specs.Meaning.{Meaning, Agrees, whole, text, listed}
use Rattle.nano_value.specs.Sums.{tagged}
use Rattle.nano_meaning.proofs.OrderLaws.{texts, texts_follow, wholes, unsigned_follow, numbers}
use Rattle.nano_schema_levels.proofs.StepsLaws.{list_depth, map_means}
use Rattle.nano_levels.specs.Layers.{Layer, Nested}
use Rattle.nano_levels.proofs.LayersLaws.{itself_layer, list_layer, other_layer}
use Rattle.nano_levels.proofs.LevelsLaws.{level, limited}
use Rattle.nano_schema_levels.specs.VariantLayers.{VariantsLayer}
use Rattle.nano_schema_levels.proofs.LegalLevelsLaws.{agree_through, legal_as, nested_agrees}
use Rattle.nano_schema_levels.proofs.MapLayersLaws.{follows_order, ordered_map_layer}
use Rattle.nano_schema_levels.proofs.PartLaws.{seen_layer, single_layer}
use Rattle.nano_schema_levels.proofs.VariantLayersLaws.{choice_layer, last_variant, next_unit, next_variant}
use Rattle.nano_bin_nested.proofs.LegalLaws.{nested_agrees as bin_agrees}
use Rattle.nano_ron.specs.Codec.{Codec, codec_as}
use Rattle.nano_ron.specs.ContainerCodecs.{ordered_map_codec}
use Rattle.nano_ron_tokens.specs.Cut.{ron_grammar}
use Rattle.nano_ron_tokens.proofs.RonLaws.{ron, block_brackets, curly_brackets, paren_brackets}
use Rattle.nano_ron_tokens.proofs.StylesLaws.{curly_style, entry_style, line_style, tuple_style}
use Rattle.nano_ron_schema.specs.VariantCodecs.{ron_variants}
use Rattle.nano_ron_nested.specs.TypeCodecs.{u16_codec, u64_codec, i32_codec, string_codec}
use Rattle.test_nested_derived_ron.specs.declared.setting.Setting.{Setting}
use Rattle.test_nested_derived_ron.specs.declared.setting.Setting.TheOpen.{Setting-F}
use Rattle.test_nested_derived_ron.specs.declared.setting.Setting.TheViews.{out-Setting}
use Rattle.test_nested_derived_ron.specs.declared.setting.Setting.TheFolds.{map-Setting, fold_out-Setting}
use Rattle.test_nested_derived_ron.specs.SettingCodecs.{SettingContent, setting_opened, setting_view, setting_means, setting_means_step}
use Rattle.test_nested_derived_ron.specs.SettingCodecs.{setting_depth, setting_depth_step}
use Rattle.test_nested_derived_ron.specs.SettingCodecs.{setting_step, setting_nested, setting_codec}

-- ==== Setting: the layer around the values in it

abbrev pub setting_ron_variants : VariantsLayer ron_variants Setting (SettingContent Setting)
setting_ron_variants =
    next_unit ron_variants (codes "Unset")
    (next_variant ron_variants (codes "Text") (single_layer tuple_style paren_brackets (other_layer string_codec)) (λ f x d. refl)
    (next_variant ron_variants (codes "Counts") (single_layer tuple_style paren_brackets (other_layer (codec_as (λ (x : BTreeMap ℤ ℕ). x.entries) (ordered_map_codec numbers int_cmp i32_codec u64_codec)))) (λ f x d. refl)
    (next_variant ron_variants (codes "Table") (single_layer tuple_style paren_brackets (seen_layer (λ x. x.entries) (ordered_map_layer curly_style curly_brackets entry_style (λ h. h) texts string_codec string_cmp (follows_order string_cmp (λ x. text (string_bytes x)) texts (texts_follow (λ x. string_bytes x))) itself_layer))) (λ f x d. refl)
    (last_variant ron_variants (codes "Lists") (single_layer tuple_style paren_brackets (seen_layer (λ x. x.entries) (ordered_map_layer curly_style curly_brackets entry_style (λ h. h) wholes u16_codec nat_cmp (follows_order nat_cmp whole wholes unsigned_follow) (seen_layer (λ x. x.items) (list_layer line_style block_brackets itself_layer))))) (λ f x d. refl)))))

abbrev pub setting_ron_layer : Layer ron ron_grammar Setting (SettingContent Setting)
setting_ron_layer = choice_layer setting_ron_variants (λ f. refl) (λ f. refl)

pub setting_ron_means_opened : (y : Setting-F Setting)
    → setting_means_step (map-Setting Setting Meaning setting_means y)
    ≡ setting_ron_layer.means setting_means (setting_opened y)
setting_ron_means_opened Setting-F.Unset = refl
setting_ron_means_opened (Setting-F.Text v) = refl
setting_ron_means_opened (Setting-F.Counts v) = refl
setting_ron_means_opened (Setting-F.Table v) =
    ap (λ m. tagged 3 m) (map_means string_cmp (λ x. text (string_bytes x)) (λ x. x) _ setting_means (λ x. refl) v.entries)
setting_ron_means_opened (Setting-F.Lists v) =
    ap (λ m. tagged 4 m) (map_means nat_cmp whole (λ x. listed x.items) _ (λ x. listed (map setting_means x.items)) (λ x. refl) v.entries)

pub setting_ron_depth_opened : (y : Setting-F Setting)
    → setting_depth_step (map-Setting Setting ℕ setting_depth y)
    ≡ setting_ron_layer.deep setting_depth (setting_opened y)
setting_ron_depth_opened Setting-F.Unset = refl
setting_ron_depth_opened (Setting-F.Text v) = refl
setting_ron_depth_opened (Setting-F.Counts v) = refl
setting_ron_depth_opened (Setting-F.Table v) = list_depth _ _ _ (λ x. refl) v.entries
setting_ron_depth_opened (Setting-F.Lists v) =
    list_depth _ _ _ (λ x. list_depth _ _ _ (λ x. refl) x.1.items) v.entries

abbrev pub setting_ron_nested : Nested ron ron_grammar Setting
setting_ron_nested = record {
  Seen = SettingContent Setting;
  layer = setting_ron_layer;
  view = setting_view;
  means = setting_means;
  depth = setting_depth;
  means_is = λ x. fold_out-Setting Meaning setting_means_step x ∙ setting_ron_means_opened (out-Setting x);
  depth_is = λ x. fold_out-Setting ℕ setting_depth_step x ∙ setting_ron_depth_opened (out-Setting x);
}

-- those of at most so many levels
abbrev pub setting_ron_at : ℕ → Codec Setting
setting_ron_at = level setting_ron_nested

pub setting_ron_agrees : Agrees setting_means setting_codec.encoding.legal setting_means
    (limited setting_ron_nested 128).encoding.legal
setting_ron_agrees =
    agree_through (bin_agrees setting_nested setting_step (λ f. refl))
    (nested_agrees setting_ron_nested setting_step (λ f. refl) 128)

-- those that are read, and what is legal in the words of the format before
abbrev pub setting_ron : Codec Setting
setting_ron = legal_as (limited setting_ron_nested 128) setting_ron_agrees
