-- Written by derive_files: what is proved of types that contain themselves.
use Rattle.std.specs.Prelude.{◌≡◌, ℕ, List, refl, codes, String, Vec, string_cmp}
use Rattle.std.specs.BTreeMap.{BTreeMap}
use Rattle.std.specs.Global.{Global}
use Rattle.nano_meaning.proofs.OrderLaws.{texts}
use Rattle.nano_grammar.specs.FieldCodec.{WrittenField, fields_text}
use Rattle.nano_schema_levels.proofs.NestedLaws.{text_seen}
use Rattle.nano_json.specs.Codec.{Codec, codec_as}
use Rattle.nano_json.specs.ContainerCodecs.{list_codec, ordered_map_codec}
use Rattle.nano_json_tokens.specs.Token.{Token}
use Rattle.nano_json_schema.specs.FieldCodecs.{json_fields, optional_field, required_field, string_codec}
use Rattle.test_nested_generics.specs.declared.shelf.Shelf.{Shelf}
use Rattle.test_nested_generics.specs.ShelfCodecs.{shelf_view}
use Rattle.test_nested_generics.specs.ShelfJsonCodecs.{shelf_json_nested, shelf_json, shelf_json_fields}
use Rattle.test_nested_generics.specs.declared.shelf.Shelf.TheViews.{out-Shelf}

module _ {K V : Type 0} (k_json : Codec K) (v_json : Codec V) where
  -- ==== Shelf

  abbrev pub shelf_json_field_name : (Shelf K V) → List (WrittenField Token)
  shelf_json_field_name x =
      (required_field (codes "name") k_json).canonical.fields (out-Shelf K V x).name

  abbrev pub shelf_json_field_values : (Shelf K V) → List (WrittenField Token)
  shelf_json_field_values x =
      (required_field (codes "values") (codec_as (λ (x : BTreeMap (String Global) V). x.entries) (ordered_map_codec texts string_cmp string_codec v_json))).canonical.fields (out-Shelf K V x).values

  abbrev pub shelf_json_field_best : (Shelf K V) → List (WrittenField Token)
  shelf_json_field_best x =
      (optional_field (codes "best") v_json).canonical.fields (out-Shelf K V x).best

  abbrev pub shelf_json_field_inner : (Shelf K V) → List (WrittenField Token)
  shelf_json_field_inner x =
      (required_field (codes "inner") (codec_as (λ (x : Vec (Shelf K V) Global). x.items) (list_codec (shelf_json k_json v_json)))).canonical.fields (out-Shelf K V x).inner

  abbrev pub shelf_json_written : (Shelf K V) → List (WrittenField Token)
  shelf_json_written x =
      ((shelf_json_fields k_json v_json).codec (shelf_json k_json v_json)).canonical.fields (shelf_view x)

  pub shelf_json_text : (d : ℕ) → (x : (Shelf K V)) → (shelf_json k_json v_json).canonical.text d x
      ≡ fields_text json_fields d (shelf_json_written x)
  shelf_json_text d x = text_seen (shelf_json_nested k_json v_json) 128 d x (shelf_view x) refl
