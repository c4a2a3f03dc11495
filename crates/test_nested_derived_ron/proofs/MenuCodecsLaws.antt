-- Written by derive_files: what is proved of types that contain themselves.
use Rattle.std.specs.Prelude.{◌≡◌, ◌++◌, refl, String, string_bytes, string_cmp}
use Rattle.std.specs.BTreeMap.{BTreeMap}
use Rattle.std.specs.Global.{Global}
use Rattle.std.proofs.Common.{append_assoc}
use Rattle.nano_value.specs.Meaning.{text}
use Rattle.nano_value.specs.Ordered.{ordered_map_means}
use Rattle.nano_meaning.proofs.OrderLaws.{texts}
use Rattle.nano_bin_bytes.specs.BaseCodecs.{codec_as}
use Rattle.nano_bin.specs.ScalarCodecs.{string_codec}
use Rattle.nano_bin.specs.ContainerCodecs.{ordered_map_codec}
use Rattle.nano_bin_nested.proofs.NestedLaws.{seen_legal, written_seen}
use Rattle.test_nested_derived_ron.specs.declared.menu.Menu.{Menu}
use Rattle.test_nested_derived_ron.specs.MenuCodecs.{menu_view, menu_means, menu_nested, menu_codec}
use Rattle.test_nested_derived_ron.specs.declared.menu.Menu.TheViews.{out-Menu}

-- ==== Menu

pub menu_written : (x : Menu)
    → menu_codec.canonical.written x
    ≡ (string_codec.canonical.written (out-Menu x).title
    ++ (codec_as (λ (x : BTreeMap (String Global) Menu). x.entries) (ordered_map_codec texts string_cmp string_codec menu_codec)).canonical.written (out-Menu x).entries)
menu_written x = written_seen menu_nested x (menu_view x) refl

pub menu_legal : (x : Menu)
    → string_codec.encoding.legal (text (string_bytes (out-Menu x).title))
    → (codec_as (λ (x : BTreeMap (String Global) Menu). x.entries) (ordered_map_codec texts string_cmp string_codec menu_codec)).encoding.legal (ordered_map_means string_cmp (λ x. text (string_bytes x)) menu_means (out-Menu x).entries.entries)
    → menu_codec.encoding.legal (menu_means x)
menu_legal x h0 h1 =
    seen_legal menu_nested x (menu_view x) refl
    (record { part = (text (string_bytes (out-Menu x).title), ordered_map_means string_cmp (λ x. text (string_bytes x)) menu_means (out-Menu x).entries.entries); has = (h0, h1); is = refl })

pub ruleset menu_written_laws = (append_assoc, menu_written)
