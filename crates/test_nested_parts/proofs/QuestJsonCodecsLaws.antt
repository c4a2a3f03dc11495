-- Written by derive_files: what is proved of types that contain themselves.
use Rattle.std.specs.Prelude.{◌≡◌, ℕ, List, codes, Box, Option, String, Vec, string_cmp}
use Rattle.std.specs.BTreeMap.{BTreeMap}
use Rattle.std.specs.Global.{Global}
use Rattle.nano_meaning.proofs.OrderLaws.{texts}
use Rattle.nano_schema.specs.declared.choices.Either.TheVariants.{First, Later}
use Rattle.nano_grammar.specs.FieldCodec.{WrittenField}
use Rattle.nano_schema_levels.proofs.NestedLaws.{text_seen}
use Rattle.nano_json.specs.Codec.{codec_as}
use Rattle.nano_json.specs.ContainerCodecs.{list_codec, ordered_map_codec, pair_codec}
use Rattle.nano_json_tokens.specs.Token.{Token}
use Rattle.nano_json_schema.specs.FieldCodecs.{optional_field, required_field, single_codec, string_codec}
use Rattle.nano_json_schema.specs.Variants.{content_text}
use Rattle.test_nested_parts.specs.declared.quest.Quest.{Quest}
use Rattle.test_nested_parts.specs.QuestCodecs.{quest_view}
use Rattle.test_nested_parts.specs.QuestJsonCodecs.{quest_json_nested, quest_json, quest_json_content_all}
use Rattle.test_nested_parts.proofs.QuestCodecsLaws.{quest_view_win, quest_view_bring, quest_view_all, quest_view_find}
use Rattle.test_nested_parts.specs.declared.quest.Quest.{Win as Quest-Win}
use Rattle.test_nested_parts.specs.declared.quest.Quest.{Bring as Quest-Bring}
use Rattle.test_nested_parts.specs.declared.quest.Quest.{All as Quest-All}
use Rattle.test_nested_parts.specs.declared.quest.Quest.{Find as Quest-Find}
use Rattle.test_nested_parts.specs.declared.mode.Mode.{Mode}
use Rattle.test_nested_parts.specs.declared.item.Item.{Item}
use Rattle.test_nested_parts.specs.QuestJsonCodecs.{mode_part}
use Rattle.test_nested_parts.specs.QuestJsonCodecs.{item_part}

-- ==== Quest

pub quest_json_text_win : (d : ℕ)
    → (v : Mode)
    → quest_json.canonical.text d (Quest-Win v)
    ≡ content_text (codes "Win") ((single_codec mode_part).canonical.text d v)
quest_json_text_win d v =
    text_seen quest_json_nested 128 d (Quest-Win v) (First v) (quest_view_win v)

pub quest_json_text_bring : (d : ℕ)
    → (v0 : Item)
    → (v1 : Box Quest Global)
    → quest_json.canonical.text d (Quest-Bring v0 v1)
    ≡ content_text (codes "Bring") ((pair_codec item_part (codec_as (λ (x : Box Quest Global). x.value) quest_json)).canonical.text d (v0, v1))
quest_json_text_bring d v0 v1 =
    text_seen quest_json_nested 128 d (Quest-Bring v0 v1) (Later (First (v0, v1))) (quest_view_bring v0 v1)

abbrev pub quest_json_field_all_quests : Vec Quest Global → List (WrittenField Token)
quest_json_field_all_quests x =
    (required_field (codes "quests") (codec_as (λ (x : Vec Quest Global). x.items) (list_codec quest_json))).canonical.fields x

abbrev pub quest_json_field_all_modes : Vec Mode Global → List (WrittenField Token)
quest_json_field_all_modes x =
    (required_field (codes "modes") (codec_as (λ (x : Vec Mode Global). x.items) (list_codec mode_part))).canonical.fields x

abbrev pub quest_json_field_all_mode : Option Mode → List (WrittenField Token)
quest_json_field_all_mode x =
    (optional_field (codes "mode") mode_part).canonical.fields x

pub quest_json_text_all : (d : ℕ)
    → (v0 : Vec Quest Global)
    → (v1 : Vec Mode Global)
    → (v2 : Option Mode)
    → quest_json.canonical.text d (Quest-All v0 v1 v2)
    ≡ content_text (codes "All") ((quest_json_content_all.codec quest_json).canonical.text d (v0, (v1, v2)))
quest_json_text_all d v0 v1 v2 =
    text_seen quest_json_nested 128 d (Quest-All v0 v1 v2) (Later (Later (First (v0, (v1, v2))))) (quest_view_all v0 v1 v2)

pub quest_json_text_find : (d : ℕ)
    → (v : BTreeMap (String Global) Item)
    → quest_json.canonical.text d (Quest-Find v)
    ≡ content_text (codes "Find") ((single_codec (codec_as (λ (x : BTreeMap (String Global) Item). x.entries) (ordered_map_codec texts string_cmp string_codec item_part))).canonical.text d v)
quest_json_text_find d v =
    text_seen quest_json_nested 128 d (Quest-Find v) (Later (Later (Later v))) (quest_view_find v)

pub ruleset quest_json_texts = (quest_json_text_win, quest_json_text_bring, quest_json_text_all, quest_json_text_find)
