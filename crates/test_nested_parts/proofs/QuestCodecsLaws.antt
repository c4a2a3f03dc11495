-- Written by derive_files: what is proved of types that contain themselves.
use Rattle.std.specs.Prelude.{◌≡◌, ◌++◌, map, refl, Box, Option, String, Vec, string_bytes, string_cmp}
use Rattle.std.specs.BTreeMap.{BTreeMap}
use Rattle.std.specs.Global.{Global}
use Rattle.std.specs.Option.{option_map}
use Rattle.std.proofs.Common.{append_assoc, inl, inr, rules}
use Rattle.nano_value.specs.Meaning.{text, optional, listed, paired}
use Rattle.nano_value.specs.Ordered.{ordered_map_means}
use Rattle.nano_meaning.proofs.OrderLaws.{texts}
use Rattle.nano_schema.specs.declared.choices.Either.TheVariants.{First, Later}
use Rattle.nano_bin_bytes.specs.BaseCodecs.{codec_as}
use Rattle.nano_bin_bytes.specs.Scalars.{little_endian}
use Rattle.nano_bin.specs.ScalarCodecs.{string_codec}
use Rattle.nano_bin.specs.ContainerCodecs.{list_codec, option_codec, ordered_map_codec}
use Rattle.nano_bin_nested.proofs.NestedLaws.{seen_legal, written_seen}
use Rattle.test_nested_parts.specs.declared.quest.Quest.{Quest}
use Rattle.test_nested_parts.specs.QuestCodecs.{quest_view, quest_means, quest_nested, quest_codec}
use Rattle.test_nested_parts.specs.declared.quest.Quest.{the_lemmas}
use Rattle.test_nested_parts.specs.declared.quest.Quest.{Win as Quest-Win}
use Rattle.test_nested_parts.specs.declared.quest.Quest.{Bring as Quest-Bring}
use Rattle.test_nested_parts.specs.declared.quest.Quest.{All as Quest-All}
use Rattle.test_nested_parts.specs.declared.quest.Quest.{Find as Quest-Find}
use Rattle.test_nested_parts.specs.declared.mode.Mode.{Mode}
use Rattle.test_nested_parts.specs.contracts.mode.derived.ModeValue.TheImpl.{ghosts as mode_value}
use Rattle.test_nested_parts.specs.declared.item.Item.{Item}
use Rattle.test_nested_parts.specs.contracts.item.derived.ItemValue.TheImpl.{ghosts as item_value}
use Rattle.test_nested_parts.specs.QuestCodecs.{mode_part}
use Rattle.test_nested_parts.specs.QuestCodecs.{item_part}

-- ==== Quest

pub quest_view_win : (v : Mode)
    → quest_view (Quest-Win v) ≡ First v
quest_view_win v = search (rules, the_lemmas)

pub quest_written_win : (v : Mode)
    → quest_codec.canonical.written (Quest-Win v)
    ≡ little_endian 2 0
    ++ mode_part.canonical.written v
quest_written_win v =
    written_seen quest_nested (Quest-Win v) (First v) (quest_view_win v)

pub quest_legal_win : (v : Mode)
    → mode_part.encoding.legal (mode_value.means v)
    → quest_codec.encoding.legal (quest_means (Quest-Win v))
quest_legal_win v h0 =
    seen_legal quest_nested (Quest-Win v) (First v) (quest_view_win v)
    (inl (record { part = mode_value.means v; has = h0; is = refl }))

pub quest_view_bring : (v0 : Item)
    → (v1 : Box Quest Global)
    → quest_view (Quest-Bring v0 v1) ≡ Later (First (v0, v1))
quest_view_bring v0 v1 = search (rules, the_lemmas)

pub quest_written_bring : (v0 : Item)
    → (v1 : Box Quest Global)
    → quest_codec.canonical.written (Quest-Bring v0 v1)
    ≡ little_endian 2 1
    ++ (item_part.canonical.written v0
    ++ (codec_as (λ (x : Box Quest Global). x.value) quest_codec).canonical.written v1)
quest_written_bring v0 v1 =
    written_seen quest_nested (Quest-Bring v0 v1) (Later (First (v0, v1))) (quest_view_bring v0 v1)

pub quest_legal_bring : (v0 : Item)
    → (v1 : Box Quest Global)
    → item_part.encoding.legal (item_value.means v0)
    → (codec_as (λ (x : Box Quest Global). x.value) quest_codec).encoding.legal (quest_means v1.value)
    → quest_codec.encoding.legal (quest_means (Quest-Bring v0 v1))
quest_legal_bring v0 v1 h0 h1 =
    seen_legal quest_nested (Quest-Bring v0 v1) (Later (First (v0, v1))) (quest_view_bring v0 v1)
    (inr (inl (record { part = paired (item_value.means v0, quest_means v1.value); has = (record { part = (item_value.means v0, quest_means v1.value); has = (h0, h1); is = refl }); is = refl })))

pub quest_view_all : (v0 : Vec Quest Global)
    → (v1 : Vec Mode Global)
    → (v2 : Option Mode)
    → quest_view (Quest-All v0 v1 v2) ≡ Later (Later (First (v0, (v1, v2))))
quest_view_all v0 v1 v2 = search (rules, the_lemmas)

pub quest_written_all : (v0 : Vec Quest Global)
    → (v1 : Vec Mode Global)
    → (v2 : Option Mode)
    → quest_codec.canonical.written (Quest-All v0 v1 v2)
    ≡ little_endian 2 2
    ++ ((codec_as (λ (x : Vec Quest Global). x.items) (list_codec quest_codec)).canonical.written v0
    ++ ((codec_as (λ (x : Vec Mode Global). x.items) (list_codec mode_part)).canonical.written v1
    ++ (option_codec mode_part).canonical.written v2))
quest_written_all v0 v1 v2 =
    written_seen quest_nested (Quest-All v0 v1 v2) (Later (Later (First (v0, (v1, v2))))) (quest_view_all v0 v1 v2)

pub quest_legal_all : (v0 : Vec Quest Global)
    → (v1 : Vec Mode Global)
    → (v2 : Option Mode)
    → (codec_as (λ (x : Vec Quest Global). x.items) (list_codec quest_codec)).encoding.legal (listed (map quest_means v0.items))
    → (codec_as (λ (x : Vec Mode Global). x.items) (list_codec mode_part)).encoding.legal (listed (map mode_value.means v1.items))
    → (option_codec mode_part).encoding.legal (optional (option_map mode_value.means v2))
    → quest_codec.encoding.legal (quest_means (Quest-All v0 v1 v2))
quest_legal_all v0 v1 v2 h0 h1 h2 =
    seen_legal quest_nested (Quest-All v0 v1 v2) (Later (Later (First (v0, (v1, v2))))) (quest_view_all v0 v1 v2)
    (inr (inr (inl (record { part = paired (listed (map quest_means v0.items), paired (listed (map mode_value.means v1.items), optional (option_map mode_value.means v2))); has = (record { part = (listed (map quest_means v0.items), paired (listed (map mode_value.means v1.items), optional (option_map mode_value.means v2))); has = (h0, (record { part = (listed (map mode_value.means v1.items), optional (option_map mode_value.means v2)); has = (h1, h2); is = refl })); is = refl }); is = refl }))))

pub quest_view_find : (v : BTreeMap (String Global) Item)
    → quest_view (Quest-Find v) ≡ Later (Later (Later v))
quest_view_find v = search (rules, the_lemmas)

pub quest_written_find : (v : BTreeMap (String Global) Item)
    → quest_codec.canonical.written (Quest-Find v)
    ≡ little_endian 2 3
    ++ (codec_as (λ (x : BTreeMap (String Global) Item). x.entries) (ordered_map_codec texts string_cmp string_codec item_part)).canonical.written v
quest_written_find v =
    written_seen quest_nested (Quest-Find v) (Later (Later (Later v))) (quest_view_find v)

pub quest_legal_find : (v : BTreeMap (String Global) Item)
    → (codec_as (λ (x : BTreeMap (String Global) Item). x.entries) (ordered_map_codec texts string_cmp string_codec item_part)).encoding.legal (ordered_map_means string_cmp (λ x. text (string_bytes x)) item_value.means v.entries)
    → quest_codec.encoding.legal (quest_means (Quest-Find v))
quest_legal_find v h0 =
    seen_legal quest_nested (Quest-Find v) (Later (Later (Later v))) (quest_view_find v)
    (inr (inr (inr (inl (record { part = ordered_map_means string_cmp (λ x. text (string_bytes x)) item_value.means v.entries; has = h0; is = refl })))))

pub ruleset quest_views = (quest_view_win, quest_view_bring, quest_view_all, quest_view_find)

pub ruleset quest_written_laws = (append_assoc, quest_written_win, quest_written_bring, quest_written_all, quest_written_find)
