-- Written by derive_files: what is proved of types that contain themselves.
use Rattle.std.specs.Prelude.{◌≡◌, ◌++◌, map, refl, String, Vec, string_bytes, string_cmp}
use Rattle.std.specs.BTreeMap.{BTreeMap}
use Rattle.std.specs.Global.{Global}
use Rattle.std.proofs.Common.{append_assoc}
use Rattle.nano_value.specs.Meaning.{truth, number, whole, text, listed, paired}
use Rattle.nano_value.specs.Ordered.{ordered_map_means}
use Rattle.nano_meaning.proofs.OrderLaws.{texts}
use Rattle.nano_bin_bytes.specs.BaseCodecs.{codec_as}
use Rattle.nano_bin.specs.ScalarCodecs.{boolean_codec, u16_codec, i32_codec, string_codec}
use Rattle.nano_bin.specs.ContainerCodecs.{list_codec, ordered_map_codec}
use Rattle.nano_bin_nested.proofs.NestedLaws.{seen_legal, written_seen}
use Rattle.test_nested_defaults.specs.declared.widget.Widget.{Widget}
use Rattle.test_nested_defaults.specs.WidgetCodecs.{widget_view, widget_means, widget_nested, widget_codec}
use Rattle.test_nested_defaults.specs.declared.widget.Widget.TheViews.{out-Widget}

-- ==== Widget

pub widget_written : (x : Widget)
    → widget_codec.canonical.written x
    ≡ ((string_codec.canonical.written (out-Widget x).title
    ++ (string_codec.canonical.written (out-Widget x).shortcut
    ++ u16_codec.canonical.written (out-Widget x).width))
    ++ ((i32_codec.canonical.written (out-Widget x).row
    ++ boolean_codec.canonical.written (out-Widget x).is_open)
    ++ ((codec_as (λ (x : Vec Widget Global). x.items) (list_codec widget_codec)).canonical.written (out-Widget x).entries
    ++ (codec_as (λ (x : BTreeMap (String Global) Widget). x.entries) (ordered_map_codec texts string_cmp string_codec widget_codec)).canonical.written (out-Widget x).others)))
widget_written x = written_seen widget_nested x (widget_view x) refl

pub widget_legal : (x : Widget)
    → string_codec.encoding.legal (text (string_bytes (out-Widget x).title))
    → string_codec.encoding.legal (text (string_bytes (out-Widget x).shortcut))
    → u16_codec.encoding.legal (whole (out-Widget x).width)
    → i32_codec.encoding.legal (number (out-Widget x).row)
    → boolean_codec.encoding.legal (truth (out-Widget x).is_open)
    → (codec_as (λ (x : Vec Widget Global). x.items) (list_codec widget_codec)).encoding.legal (listed (map widget_means (out-Widget x).entries.items))
    → (codec_as (λ (x : BTreeMap (String Global) Widget). x.entries) (ordered_map_codec texts string_cmp string_codec widget_codec)).encoding.legal (ordered_map_means string_cmp (λ x. text (string_bytes x)) widget_means (out-Widget x).others.entries)
    → widget_codec.encoding.legal (widget_means x)
widget_legal x h0 h1 h2 h3 h4 h5 h6 =
    seen_legal widget_nested x (widget_view x) refl
    (record { part = (paired (text (string_bytes (out-Widget x).title), paired (text (string_bytes (out-Widget x).shortcut), whole (out-Widget x).width)), paired (paired (number (out-Widget x).row, truth (out-Widget x).is_open), paired (listed (map widget_means (out-Widget x).entries.items), ordered_map_means string_cmp (λ x. text (string_bytes x)) widget_means (out-Widget x).others.entries))); has = ((record { part = (text (string_bytes (out-Widget x).title), paired (text (string_bytes (out-Widget x).shortcut), whole (out-Widget x).width)); has = (h0, (record { part = (text (string_bytes (out-Widget x).shortcut), whole (out-Widget x).width); has = (h1, h2); is = refl })); is = refl }), (record { part = (paired (number (out-Widget x).row, truth (out-Widget x).is_open), paired (listed (map widget_means (out-Widget x).entries.items), ordered_map_means string_cmp (λ x. text (string_bytes x)) widget_means (out-Widget x).others.entries)); has = ((record { part = (number (out-Widget x).row, truth (out-Widget x).is_open); has = (h3, h4); is = refl }), (record { part = (listed (map widget_means (out-Widget x).entries.items), ordered_map_means string_cmp (λ x. text (string_bytes x)) widget_means (out-Widget x).others.entries); has = (h5, h6); is = refl })); is = refl })); is = refl })

pub ruleset widget_written_laws = (append_assoc, widget_written)
