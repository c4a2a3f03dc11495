-- Written by derive_files: types that contain themselves, and their codecs.
use Rattle.std.specs.Prelude.{◌≡◌, ℕ, refl, codes, string_bytes, string_cmp}
use Rattle.std.proofs.Common.{◌∙◌}
use Rattle.nano_value.specs.Meaning.{Meaning, Agrees, text}
use Rattle.nano_meaning.proofs.OrderLaws.{texts, texts_follow}
use Rattle.nano_schema_levels.proofs.StepsLaws.{later_depth, list_depth, map_means, pair_means}
use Rattle.nano_levels.specs.Layers.{Layer, Nested}
use Rattle.nano_levels.proofs.LayersLaws.{itself_layer}
use Rattle.nano_levels.proofs.LevelsLaws.{level, limited}
use Rattle.nano_schema_levels.specs.FieldLayers.{FieldsLayer}
use Rattle.nano_schema_levels.proofs.FieldLayersLaws.{fields_pair_layer, other_fields, required_layer, struct_layer}
use Rattle.nano_schema_levels.proofs.LegalLevelsLaws.{agree_through, legal_as, nested_agrees}
use Rattle.nano_schema_levels.proofs.MapLayersLaws.{follows_order, ordered_map_layer}
use Rattle.nano_schema_levels.proofs.PartLaws.{seen_layer}
use Rattle.nano_bin_nested.proofs.LegalLaws.{nested_agrees as bin_agrees}
use Rattle.nano_json.specs.Codec.{Codec}
use Rattle.nano_json_tokens.specs.Cut.{json_grammar}
use Rattle.nano_json_tokens.proofs.JsonLaws.{json, curly_brackets, curly_style, entry_style}
use Rattle.nano_json_schema.specs.FieldCodecs.{plain_names, json_fields, required_field, string_codec}
use Rattle.test_nested_derived_ron.specs.declared.menu.Menu.{Menu}
use Rattle.test_nested_derived_ron.specs.declared.menu.Menu.TheOpen.{Menu-F}
use Rattle.test_nested_derived_ron.specs.declared.menu.Menu.TheViews.{out-Menu}
use Rattle.test_nested_derived_ron.specs.declared.menu.Menu.TheFolds.{map-Menu, fold_out-Menu}
use Rattle.test_nested_derived_ron.specs.MenuCodecs.{MenuContent, menu_opened, menu_view, menu_means, menu_means_step}
use Rattle.test_nested_derived_ron.specs.MenuCodecs.{menu_depth, menu_depth_step}
use Rattle.test_nested_derived_ron.specs.MenuCodecs.{menu_step, menu_nested, menu_codec}

-- ==== Menu: the layer around the values in it

abbrev pub menu_json_fields : FieldsLayer json_fields Menu (MenuContent Menu)
menu_json_fields =
    fields_pair_layer (other_fields json_fields (required_field (codes "title") string_codec)) (required_layer json_fields (codes "entries") (seen_layer (λ x. x.entries) (ordered_map_layer curly_style curly_brackets entry_style (λ h. h) texts string_codec string_cmp (follows_order string_cmp (λ x. text (string_bytes x)) texts (texts_follow (λ x. string_bytes x))) itself_layer)))

abbrev pub menu_json_layer : Layer json json_grammar Menu (MenuContent Menu)
menu_json_layer = struct_layer menu_json_fields (λ f. plain_names refl) (λ f. refl)

pub menu_json_means_opened : (y : Menu-F Menu)
    → menu_means_step (map-Menu Menu Meaning menu_means y)
    ≡ menu_json_layer.means menu_means (menu_opened y)
menu_json_means_opened y =
    pair_means refl (map_means string_cmp (λ x. text (string_bytes x)) (λ x. x) _ menu_means (λ x. refl) y.entries.entries)

pub menu_json_depth_opened : (y : Menu-F Menu)
    → menu_depth_step (map-Menu Menu ℕ menu_depth y)
    ≡ menu_json_layer.deep menu_depth (menu_opened y)
menu_json_depth_opened y = later_depth (list_depth _ _ _ (λ x. refl) y.entries.entries)

abbrev pub menu_json_nested : Nested json json_grammar Menu
menu_json_nested = record {
  Seen = MenuContent Menu;
  layer = menu_json_layer;
  view = menu_view;
  means = menu_means;
  depth = menu_depth;
  means_is = λ x. fold_out-Menu Meaning menu_means_step x ∙ menu_json_means_opened (out-Menu x);
  depth_is = λ x. fold_out-Menu ℕ menu_depth_step x ∙ menu_json_depth_opened (out-Menu x);
}

-- those of at most so many levels
abbrev pub menu_json_at : ℕ → Codec Menu
menu_json_at = level menu_json_nested

pub menu_json_agrees : Agrees menu_means menu_codec.encoding.legal menu_means
    (limited menu_json_nested 128).encoding.legal
menu_json_agrees =
    agree_through (bin_agrees menu_nested menu_step (λ f. refl))
    (nested_agrees menu_json_nested menu_step (λ f. refl) 128)

-- those that are read, and what is legal in the words of the format before
abbrev pub menu_json : Codec Menu
menu_json = legal_as (limited menu_json_nested 128) menu_json_agrees
