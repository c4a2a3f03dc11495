-- Written by derive_files: types that contain themselves, and their codecs.
use Rattle.std.specs.Prelude.{◌≡◌, ℕ, refl, codes, Option, String, Vec, string_cmp}
use Rattle.std.specs.BTreeMap.{BTreeMap}
use Rattle.std.specs.Global.{Global}
use Rattle.std.proofs.Common.{◌∙◌}
use Rattle.nano_value.specs.Meaning.{Meaning, Agrees}
use Rattle.nano_meaning.proofs.OrderLaws.{texts}
use Rattle.nano_schema_levels.proofs.StepsLaws.{later_depth, list_depth, pair_depth}
use Rattle.nano_levels.specs.Layers.{Layer, Nested}
use Rattle.nano_levels.proofs.LayersLaws.{itself_layer, list_layer, other_layer}
use Rattle.nano_levels.proofs.LevelsLaws.{level, limited}
use Rattle.nano_schema_levels.specs.VariantLayers.{VariantsLayer}
use Rattle.nano_schema_levels.proofs.FieldLayersLaws.{fields_pair_layer, other_fields, required_layer, struct_layer}
use Rattle.nano_schema_levels.proofs.LegalLevelsLaws.{agree_through, legal_as, nested_agrees}
use Rattle.nano_schema_levels.proofs.PartLaws.{pair_layer, seen_layer, single_layer}
use Rattle.nano_schema_levels.proofs.VariantLayersLaws.{choice_layer, last_variant, next_variant}
use Rattle.nano_bin_nested.proofs.LegalLaws.{nested_agrees as bin_agrees}
use Rattle.nano_json.specs.Codec.{Codec, codec_as}
use Rattle.nano_json.specs.ContainerCodecs.{list_codec, ordered_map_codec}
use Rattle.nano_json_tokens.specs.Cut.{json_grammar}
use Rattle.nano_json_tokens.proofs.JsonLaws.{json, block_brackets, block_style, tuple_style}
use Rattle.nano_json_schema.specs.FieldCodecs.{plain_names, json_fields, optional_field, required_field, string_codec}
use Rattle.nano_json_schema.specs.VariantCodecs.{json_variants}
use Rattle.test_nested_parts.specs.contracts.mode.derived.ModeJsonCodec.TheImpl.{ghosts as mode_json}
use Rattle.test_nested_parts.specs.contracts.item.derived.ItemJsonCodec.TheImpl.{ghosts as item_json}
use Rattle.test_nested_parts.specs.declared.quest.Quest.{Quest}
use Rattle.test_nested_parts.specs.declared.quest.Quest.TheOpen.{Quest-F}
use Rattle.test_nested_parts.specs.declared.quest.Quest.TheViews.{out-Quest}
use Rattle.test_nested_parts.specs.declared.quest.Quest.TheFolds.{map-Quest, fold_out-Quest}
use Rattle.test_nested_parts.specs.QuestCodecs.{QuestContent, quest_opened, quest_view, quest_means, quest_means_step}
use Rattle.test_nested_parts.specs.QuestCodecs.{quest_depth, quest_depth_step}
use Rattle.test_nested_parts.specs.QuestCodecs.{quest_step, quest_nested, quest_codec}
use Rattle.test_nested_parts.specs.declared.mode.Mode.{Mode}
use Rattle.test_nested_parts.specs.declared.item.Item.{Item}

-- the codec of `Mode`
abbrev pub mode_part : Codec Mode
mode_part = mode_json.json

-- the codec of `Item`
abbrev pub item_part : Codec Item
item_part = item_json.json

-- ==== Quest: the layer around the values in it

abbrev pub quest_json_content_all : Layer json json_grammar Quest (Vec Quest Global × (Vec Mode Global × Option Mode))
quest_json_content_all =
    struct_layer (fields_pair_layer (required_layer json_fields (codes "quests") (seen_layer (λ x. x.items) (list_layer block_style block_brackets itself_layer))) (fields_pair_layer (other_fields json_fields (required_field (codes "modes") (codec_as (λ (x : Vec Mode Global). x.items) (list_codec mode_part)))) (other_fields json_fields (optional_field (codes "mode") mode_part)))) (λ f. plain_names refl) (λ f. refl)

abbrev pub quest_json_variants : VariantsLayer json_variants Quest (QuestContent Quest)
quest_json_variants =
    next_variant json_variants (codes "Win") (single_layer tuple_style block_brackets (other_layer mode_part)) (λ f x d. tt)
    (next_variant json_variants (codes "Bring") (pair_layer tuple_style block_brackets (other_layer item_part) (seen_layer (λ x. x.value) itself_layer)) (λ f x d. tt)
    (next_variant json_variants (codes "All") quest_json_content_all (λ f x d. tt)
    (last_variant json_variants (codes "Find") (single_layer tuple_style block_brackets (other_layer (codec_as (λ (x : BTreeMap (String Global) Item). x.entries) (ordered_map_codec texts string_cmp string_codec item_part)))) (λ f x d. tt))))

abbrev pub quest_json_layer : Layer json json_grammar Quest (QuestContent Quest)
quest_json_layer = choice_layer quest_json_variants (λ f. refl) (λ f. refl)

pub quest_json_means_opened : (y : Quest-F Quest)
    → quest_means_step (map-Quest Quest Meaning quest_means y)
    ≡ quest_json_layer.means quest_means (quest_opened y)
quest_json_means_opened (Quest-F.Win v) = refl
quest_json_means_opened (Quest-F.Bring v0 v1) = refl
quest_json_means_opened (Quest-F.All v0 v1 v2) = refl
quest_json_means_opened (Quest-F.Find v) = refl

pub quest_json_depth_opened : (y : Quest-F Quest)
    → quest_depth_step (map-Quest Quest ℕ quest_depth y)
    ≡ quest_json_layer.deep quest_depth (quest_opened y)
quest_json_depth_opened (Quest-F.Win v) = refl
quest_json_depth_opened (Quest-F.Bring v0 v1) = later_depth refl
quest_json_depth_opened (Quest-F.All v0 v1 v2) =
    pair_depth (list_depth _ _ _ (λ x. refl) v0.items) refl
quest_json_depth_opened (Quest-F.Find v) = refl

abbrev pub quest_json_nested : Nested json json_grammar Quest
quest_json_nested = record {
  Seen = QuestContent Quest;
  layer = quest_json_layer;
  view = quest_view;
  means = quest_means;
  depth = quest_depth;
  means_is = λ x. fold_out-Quest Meaning quest_means_step x ∙ quest_json_means_opened (out-Quest x);
  depth_is = λ x. fold_out-Quest ℕ quest_depth_step x ∙ quest_json_depth_opened (out-Quest x);
}

-- those of at most so many levels
abbrev pub quest_json_at : ℕ → Codec Quest
quest_json_at = level quest_json_nested

pub quest_json_agrees : Agrees quest_means quest_codec.encoding.legal quest_means
    (limited quest_json_nested 128).encoding.legal
quest_json_agrees =
    agree_through (bin_agrees quest_nested quest_step (λ f. refl))
    (nested_agrees quest_json_nested quest_step (λ f. refl) 128)

-- those that are read, and what is legal in the words of the format before
abbrev pub quest_json : Codec Quest
quest_json = legal_as (limited quest_json_nested 128) quest_json_agrees
