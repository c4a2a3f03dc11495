-- Written by derive_files: what is proved of types that contain themselves.
use Rattle.std.specs.Prelude.{◌≡◌, ℕ, ℤ, codes, String, Vec, string_cmp}
use Rattle.std.specs.BTreeMap.{BTreeMap}
use Rattle.std.specs.Global.{Global}
use Rattle.std.specs.Ordering.{nat_cmp, int_cmp}
use Rattle.nano_meaning.proofs.OrderLaws.{texts, wholes, numbers}
use Rattle.nano_schema.specs.declared.choices.Either.TheVariants.{First, Later}
use Rattle.nano_schema_levels.proofs.NestedLaws.{text_seen}
use Rattle.std.specs.Prelude.{chars}
use Rattle.nano_ron.specs.Codec.{codec_as}
use Rattle.nano_ron.specs.ContainerCodecs.{ordered_map_codec}
use Rattle.nano_ron_schema.specs.VariantCodecs.{single_codec}
use Rattle.nano_ron_schema.specs.Variants.{content_text}
use Rattle.nano_ron_nested.specs.TypeCodecs.{list_codec, u16_codec, u64_codec, i32_codec, string_codec}
use Rattle.test_nested_derived_ron.specs.declared.setting.Setting.{Setting}
use Rattle.test_nested_derived_ron.specs.SettingCodecs.{setting_view}
use Rattle.test_nested_derived_ron.specs.SettingRonCodecs.{setting_ron_nested, setting_ron}
use Rattle.test_nested_derived_ron.proofs.SettingCodecsLaws.{setting_view_unset, setting_view_text, setting_view_counts, setting_view_table, setting_view_lists}
use Rattle.test_nested_derived_ron.specs.declared.setting.Setting.{Unset as Setting-Unset}
use Rattle.test_nested_derived_ron.specs.declared.setting.Setting.{Text as Setting-Text}
use Rattle.test_nested_derived_ron.specs.declared.setting.Setting.{Counts as Setting-Counts}
use Rattle.test_nested_derived_ron.specs.declared.setting.Setting.{Table as Setting-Table}
use Rattle.test_nested_derived_ron.specs.declared.setting.Setting.{Lists as Setting-Lists}

-- ==== Setting

pub setting_ron_text_unset : (d : ℕ)
    → setting_ron.canonical.text d Setting-Unset
    ≡ chars (codes "Unset")
setting_ron_text_unset d =
    text_seen setting_ron_nested 128 d Setting-Unset (First (tt {0})) setting_view_unset

pub setting_ron_text_text : (d : ℕ)
    → (v : String Global)
    → setting_ron.canonical.text d (Setting-Text v)
    ≡ content_text (codes "Text") ((single_codec string_codec).canonical.text d v)
setting_ron_text_text d v =
    text_seen setting_ron_nested 128 d (Setting-Text v) (Later (First v)) (setting_view_text v)

pub setting_ron_text_counts : (d : ℕ)
    → (v : BTreeMap ℤ ℕ)
    → setting_ron.canonical.text d (Setting-Counts v)
    ≡ content_text (codes "Counts") ((single_codec (codec_as (λ (x : BTreeMap ℤ ℕ). x.entries) (ordered_map_codec numbers int_cmp i32_codec u64_codec))).canonical.text d v)
setting_ron_text_counts d v =
    text_seen setting_ron_nested 128 d (Setting-Counts v) (Later (Later (First v))) (setting_view_counts v)

pub setting_ron_text_table : (d : ℕ)
    → (v : BTreeMap (String Global) Setting)
    → setting_ron.canonical.text d (Setting-Table v)
    ≡ content_text (codes "Table") ((single_codec (codec_as (λ (x : BTreeMap (String Global) Setting). x.entries) (ordered_map_codec texts string_cmp string_codec setting_ron))).canonical.text d v)
setting_ron_text_table d v =
    text_seen setting_ron_nested 128 d (Setting-Table v) (Later (Later (Later (First v)))) (setting_view_table v)

pub setting_ron_text_lists : (d : ℕ)
    → (v : BTreeMap ℕ (Vec Setting Global))
    → setting_ron.canonical.text d (Setting-Lists v)
    ≡ content_text (codes "Lists") ((single_codec (codec_as (λ (x : BTreeMap ℕ (Vec Setting Global)). x.entries) (ordered_map_codec wholes nat_cmp u16_codec (codec_as (λ (x : Vec Setting Global). x.items) (list_codec setting_ron))))).canonical.text d v)
setting_ron_text_lists d v =
    text_seen setting_ron_nested 128 d (Setting-Lists v) (Later (Later (Later (Later v)))) (setting_view_lists v)

pub ruleset setting_ron_texts = (setting_ron_text_unset, setting_ron_text_text, setting_ron_text_counts, setting_ron_text_table, setting_ron_text_lists)
