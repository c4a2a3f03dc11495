-- Written by derive_files: what is proved of types that contain themselves.
use Rattle.std.specs.Prelude.{◌≡◌, ◌++◌, ℕ, ℤ, map, refl, String, Vec, string_bytes, string_cmp}
use Rattle.std.specs.BTreeMap.{BTreeMap}
use Rattle.std.specs.Global.{Global}
use Rattle.std.specs.Ordering.{nat_cmp, int_cmp}
use Rattle.std.proofs.Common.{append_assoc, inl, inr, rules}
use Rattle.nano_value.specs.Meaning.{nothing, number, whole, text, listed}
use Rattle.nano_value.specs.Ordered.{ordered_map_means}
use Rattle.nano_meaning.proofs.OrderLaws.{texts, wholes, numbers}
use Rattle.nano_schema.specs.declared.choices.Either.TheVariants.{First, Later}
use Rattle.nano_bin_bytes.specs.BaseCodecs.{codec_as}
use Rattle.nano_bin_bytes.specs.Scalars.{little_endian}
use Rattle.nano_bin.specs.ScalarCodecs.{u16_codec, u64_codec, i32_codec, string_codec, unit_codec}
use Rattle.nano_bin.specs.ContainerCodecs.{list_codec, ordered_map_codec}
use Rattle.nano_bin_nested.proofs.NestedLaws.{seen_legal, written_seen}
use Rattle.test_nested_derived_ron.specs.declared.setting.Setting.{Setting}
use Rattle.test_nested_derived_ron.specs.SettingCodecs.{setting_view, setting_means, setting_nested, setting_codec}
use Rattle.test_nested_derived_ron.specs.declared.setting.Setting.{the_lemmas}
use Rattle.test_nested_derived_ron.specs.declared.setting.Setting.{Unset as Setting-Unset}
use Rattle.test_nested_derived_ron.specs.declared.setting.Setting.{Text as Setting-Text}
use Rattle.test_nested_derived_ron.specs.declared.setting.Setting.{Counts as Setting-Counts}
use Rattle.test_nested_derived_ron.specs.declared.setting.Setting.{Table as Setting-Table}
use Rattle.test_nested_derived_ron.specs.declared.setting.Setting.{Lists as Setting-Lists}

-- ==== Setting

pub setting_view_unset : setting_view Setting-Unset ≡ First (tt {0})
setting_view_unset = search (rules, the_lemmas)

pub setting_written_unset : setting_codec.canonical.written Setting-Unset
    ≡ little_endian 2 0
    ++ unit_codec.canonical.written (tt {0})
setting_written_unset =
    written_seen setting_nested Setting-Unset (First (tt {0})) setting_view_unset

pub setting_legal_unset : setting_codec.encoding.legal (setting_means Setting-Unset)
setting_legal_unset =
    seen_legal setting_nested Setting-Unset (First (tt {0})) setting_view_unset
    (inl (record { part = nothing; has = refl; is = refl }))

pub setting_view_text : (v : String Global)
    → setting_view (Setting-Text v) ≡ Later (First v)
setting_view_text v = search (rules, the_lemmas)

pub setting_written_text : (v : String Global)
    → setting_codec.canonical.written (Setting-Text v)
    ≡ little_endian 2 1
    ++ string_codec.canonical.written v
setting_written_text v =
    written_seen setting_nested (Setting-Text v) (Later (First v)) (setting_view_text v)

pub setting_legal_text : (v : String Global)
    → string_codec.encoding.legal (text (string_bytes v))
    → setting_codec.encoding.legal (setting_means (Setting-Text v))
setting_legal_text v h0 =
    seen_legal setting_nested (Setting-Text v) (Later (First v)) (setting_view_text v)
    (inr (inl (record { part = text (string_bytes v); has = h0; is = refl })))

pub setting_view_counts : (v : BTreeMap ℤ ℕ)
    → setting_view (Setting-Counts v) ≡ Later (Later (First v))
setting_view_counts v = search (rules, the_lemmas)

pub setting_written_counts : (v : BTreeMap ℤ ℕ)
    → setting_codec.canonical.written (Setting-Counts v)
    ≡ little_endian 2 2
    ++ (codec_as (λ (x : BTreeMap ℤ ℕ). x.entries) (ordered_map_codec numbers int_cmp i32_codec u64_codec)).canonical.written v
setting_written_counts v =
    written_seen setting_nested (Setting-Counts v) (Later (Later (First v))) (setting_view_counts v)

pub setting_legal_counts : (v : BTreeMap ℤ ℕ)
    → (codec_as (λ (x : BTreeMap ℤ ℕ). x.entries) (ordered_map_codec numbers int_cmp i32_codec u64_codec)).encoding.legal (ordered_map_means int_cmp number whole v.entries)
    → setting_codec.encoding.legal (setting_means (Setting-Counts v))
setting_legal_counts v h0 =
    seen_legal setting_nested (Setting-Counts v) (Later (Later (First v))) (setting_view_counts v)
    (inr (inr (inl (record { part = ordered_map_means int_cmp number whole v.entries; has = h0; is = refl }))))

pub setting_view_table : (v : BTreeMap (String Global) Setting)
    → setting_view (Setting-Table v) ≡ Later (Later (Later (First v)))
setting_view_table v = search (rules, the_lemmas)

pub setting_written_table : (v : BTreeMap (String Global) Setting)
    → setting_codec.canonical.written (Setting-Table v)
    ≡ little_endian 2 3
    ++ (codec_as (λ (x : BTreeMap (String Global) Setting). x.entries) (ordered_map_codec texts string_cmp string_codec setting_codec)).canonical.written v
setting_written_table v =
    written_seen setting_nested (Setting-Table v) (Later (Later (Later (First v)))) (setting_view_table v)

pub setting_legal_table : (v : BTreeMap (String Global) Setting)
    → (codec_as (λ (x : BTreeMap (String Global) Setting). x.entries) (ordered_map_codec texts string_cmp string_codec setting_codec)).encoding.legal (ordered_map_means string_cmp (λ x. text (string_bytes x)) setting_means v.entries)
    → setting_codec.encoding.legal (setting_means (Setting-Table v))
setting_legal_table v h0 =
    seen_legal setting_nested (Setting-Table v) (Later (Later (Later (First v)))) (setting_view_table v)
    (inr (inr (inr (inl (record { part = ordered_map_means string_cmp (λ x. text (string_bytes x)) setting_means v.entries; has = h0; is = refl })))))

pub setting_view_lists : (v : BTreeMap ℕ (Vec Setting Global))
    → setting_view (Setting-Lists v) ≡ Later (Later (Later (Later v)))
setting_view_lists v = search (rules, the_lemmas)

pub setting_written_lists : (v : BTreeMap ℕ (Vec Setting Global))
    → setting_codec.canonical.written (Setting-Lists v)
    ≡ little_endian 2 4
    ++ (codec_as (λ (x : BTreeMap ℕ (Vec Setting Global)). x.entries) (ordered_map_codec wholes nat_cmp u16_codec (codec_as (λ (x : Vec Setting Global). x.items) (list_codec setting_codec)))).canonical.written v
setting_written_lists v =
    written_seen setting_nested (Setting-Lists v) (Later (Later (Later (Later v)))) (setting_view_lists v)

pub setting_legal_lists : (v : BTreeMap ℕ (Vec Setting Global))
    → (codec_as (λ (x : BTreeMap ℕ (Vec Setting Global)). x.entries) (ordered_map_codec wholes nat_cmp u16_codec (codec_as (λ (x : Vec Setting Global). x.items) (list_codec setting_codec)))).encoding.legal (ordered_map_means nat_cmp whole (λ x. listed (map setting_means x.items)) v.entries)
    → setting_codec.encoding.legal (setting_means (Setting-Lists v))
setting_legal_lists v h0 =
    seen_legal setting_nested (Setting-Lists v) (Later (Later (Later (Later v)))) (setting_view_lists v)
    (inr (inr (inr (inr (inl (record { part = ordered_map_means nat_cmp whole (λ x. listed (map setting_means x.items)) v.entries; has = h0; is = refl }))))))

pub ruleset setting_views = (setting_view_unset, setting_view_text, setting_view_counts, setting_view_table, setting_view_lists)

pub ruleset setting_written_laws = (append_assoc, setting_written_unset, setting_written_text, setting_written_counts, setting_written_table, setting_written_lists)
