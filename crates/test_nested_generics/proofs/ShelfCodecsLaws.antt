-- Written by derive_files: what is proved of types that contain themselves.
use Rattle.std.specs.Prelude.{◌≡◌, ◌++◌, map, refl, String, Vec, string_bytes, string_cmp}
use Rattle.std.specs.BTreeMap.{BTreeMap}
use Rattle.std.specs.Global.{Global}
use Rattle.std.specs.Option.{option_map}
use Rattle.std.proofs.Common.{append_assoc}
use Rattle.nano_value.specs.Meaning.{text, optional, listed, paired}
use Rattle.nano_value.specs.Ordered.{ordered_map_means}
use Rattle.nano_meaning.proofs.OrderLaws.{texts}
use Rattle.nano_bin_bytes.specs.Codec.{Codec}
use Rattle.nano_bin_bytes.specs.BaseCodecs.{codec_as}
use Rattle.nano_bin.specs.ScalarCodecs.{string_codec}
use Rattle.nano_bin.specs.ContainerCodecs.{list_codec, option_codec, ordered_map_codec}
use Rattle.nano_bin_nested.proofs.NestedLaws.{seen_legal, written_seen}
use Rattle.test_nested_generics.specs.declared.shelf.Shelf.{Shelf}
use Rattle.test_nested_generics.specs.ShelfCodecs.{shelf_view, shelf_means, shelf_nested, shelf_codec}
use Rattle.test_nested_generics.specs.declared.shelf.Shelf.TheViews.{out-Shelf}

module _ {K V : Type 0} (k_bin : Codec K) (v_bin : Codec V) where
  -- ==== Shelf

  pub shelf_written : (x : (Shelf K V))
      → (shelf_codec k_bin v_bin).canonical.written x
      ≡ ((k_bin.canonical.written (out-Shelf K V x).name
      ++ (codec_as (λ (x : BTreeMap (String Global) V). x.entries) (ordered_map_codec texts string_cmp string_codec v_bin)).canonical.written (out-Shelf K V x).values)
      ++ ((option_codec v_bin).canonical.written (out-Shelf K V x).best
      ++ (codec_as (λ (x : Vec (Shelf K V) Global). x.items) (list_codec (shelf_codec k_bin v_bin))).canonical.written (out-Shelf K V x).inner))
  shelf_written x = written_seen (shelf_nested k_bin v_bin) x (shelf_view x) refl

  pub shelf_legal : (x : (Shelf K V))
      → k_bin.encoding.legal (k_bin.canonical.means (out-Shelf K V x).name)
      → (codec_as (λ (x : BTreeMap (String Global) V). x.entries) (ordered_map_codec texts string_cmp string_codec v_bin)).encoding.legal (ordered_map_means string_cmp (λ x. text (string_bytes x)) v_bin.canonical.means (out-Shelf K V x).values.entries)
      → (option_codec v_bin).encoding.legal (optional (option_map v_bin.canonical.means (out-Shelf K V x).best))
      → (codec_as (λ (x : Vec (Shelf K V) Global). x.items) (list_codec (shelf_codec k_bin v_bin))).encoding.legal (listed (map (shelf_means k_bin.canonical.means v_bin.canonical.means) (out-Shelf K V x).inner.items))
      → (shelf_codec k_bin v_bin).encoding.legal ((shelf_means k_bin.canonical.means v_bin.canonical.means) x)
  shelf_legal x h0 h1 h2 h3 =
      seen_legal (shelf_nested k_bin v_bin) x (shelf_view x) refl
      (record { part = (paired (k_bin.canonical.means (out-Shelf K V x).name, ordered_map_means string_cmp (λ x. text (string_bytes x)) v_bin.canonical.means (out-Shelf K V x).values.entries), paired (optional (option_map v_bin.canonical.means (out-Shelf K V x).best), listed (map (shelf_means k_bin.canonical.means v_bin.canonical.means) (out-Shelf K V x).inner.items))); has = ((record { part = (k_bin.canonical.means (out-Shelf K V x).name, ordered_map_means string_cmp (λ x. text (string_bytes x)) v_bin.canonical.means (out-Shelf K V x).values.entries); has = (h0, h1); is = refl }), (record { part = (optional (option_map v_bin.canonical.means (out-Shelf K V x).best), listed (map (shelf_means k_bin.canonical.means v_bin.canonical.means) (out-Shelf K V x).inner.items)); has = (h2, h3); is = refl })); is = refl })

pub ruleset shelf_written_laws = (append_assoc, shelf_written)
