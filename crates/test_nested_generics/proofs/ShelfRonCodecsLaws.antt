-- Written by derive_files: what is proved of types that contain themselves.
use Rattle.std.specs.Prelude.{◌≡◌, ℕ, List, refl, codes, String, Vec, string_cmp}
use Rattle.std.specs.BTreeMap.{BTreeMap}
use Rattle.std.specs.Global.{Global}
use Rattle.nano_meaning.proofs.OrderLaws.{texts}
use Rattle.nano_grammar.specs.FieldCodec.{WrittenField, fields_text}
use Rattle.nano_schema_levels.proofs.NestedLaws.{text_seen}
use Rattle.nano_ron.specs.Codec.{Codec, codec_as}
use Rattle.nano_ron.specs.ContainerCodecs.{ordered_map_codec}
use Rattle.nano_ron_tokens.specs.Token.{Token}
use Rattle.nano_ron_schema.specs.FieldCodecs.{optional_field, required_field, ron_fields}
use Rattle.nano_ron_nested.specs.TypeCodecs.{list_codec, string_codec}
use Rattle.test_nested_generics.specs.declared.shelf.Shelf.{Shelf}
use Rattle.test_nested_generics.specs.ShelfCodecs.{shelf_view}
use Rattle.test_nested_generics.specs.ShelfRonCodecs.{shelf_ron_nested, shelf_ron, shelf_ron_fields}
use Rattle.test_nested_generics.specs.declared.shelf.Shelf.TheViews.{out-Shelf}

module _ {K V : Type 0} (k_ron : Codec K) (v_ron : Codec V) where
  -- ==== Shelf

  abbrev pub shelf_ron_field_name : (Shelf K V) → List (WrittenField Token)
  shelf_ron_field_name x =
      (required_field (codes "name") k_ron).canonical.fields (out-Shelf K V x).name

  abbrev pub shelf_ron_field_values : (Shelf K V) → List (WrittenField Token)
  shelf_ron_field_values x =
      (required_field (codes "values") (codec_as (λ (x : BTreeMap (String Global) V). x.entries) (ordered_map_codec texts string_cmp string_codec v_ron))).canonical.fields (out-Shelf K V x).values

  abbrev pub shelf_ron_field_best : (Shelf K V) → List (WrittenField Token)
  shelf_ron_field_best x =
      (optional_field (codes "best") v_ron).canonical.fields (out-Shelf K V x).best

  abbrev pub shelf_ron_field_inner : (Shelf K V) → List (WrittenField Token)
  shelf_ron_field_inner x =
      (required_field (codes "inner") (codec_as (λ (x : Vec (Shelf K V) Global). x.items) (list_codec (shelf_ron k_ron v_ron)))).canonical.fields (out-Shelf K V x).inner

  abbrev pub shelf_ron_written : (Shelf K V) → List (WrittenField Token)
  shelf_ron_written x =
      ((shelf_ron_fields k_ron v_ron).codec (shelf_ron k_ron v_ron)).canonical.fields (shelf_view x)

  pub shelf_ron_text : (d : ℕ) → (x : (Shelf K V)) → (shelf_ron k_ron v_ron).canonical.text d x
      ≡ fields_text ron_fields d (shelf_ron_written x)
  shelf_ron_text d x = text_seen (shelf_ron_nested k_ron v_ron) 128 d x (shelf_view x) refl
