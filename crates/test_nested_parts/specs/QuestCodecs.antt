-- Written by derive_files: types that contain themselves, and their codecs.
use Rattle.std.specs.Prelude.{◌≡◌, ℕ, suc, max, map, refl, Box, Option, String, Vec, string_bytes, string_cmp}
use Rattle.std.specs.BTreeMap.{BTreeMap}
use Rattle.std.specs.Global.{Global}
use Rattle.std.specs.Option.{option_map}
use Rattle.std.proofs.Common.{◌∙◌, lit≤}
use Rattle.nano_value.specs.Meaning.{Meaning, text, optional, listed, paired, LegalText, LegalOption, LegalList, LegalPair}
use Rattle.nano_value.specs.Sums.{tagged, LegalVariant, variant, no_variants}
use Rattle.nano_value.specs.Ordered.{ordered_map_means}
use Rattle.nano_value.specs.Tables.{LegalMap}
use Rattle.nano_meaning.proofs.OrderLaws.{texts}
use Rattle.nano_levels.specs.Layers.{greatest}
use Rattle.nano_schema.specs.declared.choices.Either.{Either}
use Rattle.nano_schema.specs.declared.choices.Either.TheVariants.{First, Later}
use Rattle.nano_schema_levels.specs.LegalLevels.{LegalStep}
use Rattle.nano_schema_levels.proofs.StepsLaws.{list_depth, pair_depth}
use Rattle.nano_bin_bytes.specs.Codec.{Codec}
use Rattle.nano_bin_bytes.specs.BaseCodecs.{codec_as}
use Rattle.nano_bin.specs.ScalarCodecs.{string_codec}
use Rattle.nano_bin.specs.ContainerCodecs.{list_codec, option_codec, ordered_map_codec, pair_codec}
use Rattle.nano_bin_levels.specs.Layers.{Layer, Nested}
use Rattle.nano_bin_levels.proofs.LayersLaws.{itself_layer, next_layer, other_layer, seen_layer}
use Rattle.nano_bin_levels.proofs.ListsLaws.{list_layer}
use Rattle.nano_bin_levels.proofs.LevelsLaws.{nested_codec}
use Rattle.nano_bin_nested.specs.ChoiceLayerCodecs.{ChoiceLayer, choice_layer, last_variant, next_variant}
use Rattle.nano_bin_nested.specs.PairLayerCodecs.{pair_layer}
use Rattle.test_nested_parts.specs.contracts.mode.derived.ModeBinCodec.TheImpl.{ghosts as mode_bin}
use Rattle.test_nested_parts.specs.contracts.item.derived.ItemBinCodec.TheImpl.{ghosts as item_bin}
use Rattle.test_nested_parts.specs.declared.quest.Quest.{Quest}
use Rattle.test_nested_parts.specs.declared.quest.Quest.TheOpen.{Quest-F}
use Rattle.test_nested_parts.specs.declared.quest.Quest.TheViews.{out-Quest}
use Rattle.test_nested_parts.specs.declared.quest.Quest.TheFolds.{map-Quest, fold-Quest, fold_out-Quest}
use Rattle.test_nested_parts.specs.declared.mode.Mode.{Mode}
use Rattle.test_nested_parts.specs.contracts.mode.derived.ModeValue.TheImpl.{ghosts as mode_value}
use Rattle.test_nested_parts.specs.declared.item.Item.{Item}
use Rattle.test_nested_parts.specs.contracts.item.derived.ItemValue.TheImpl.{ghosts as item_value}

-- the codec of `Mode`
abbrev pub mode_part : Codec Mode
mode_part = mode_bin.bin

-- the codec of `Item`
abbrev pub item_part : Codec Item
item_part = item_bin.bin

-- ==== Quest: what a value is seen as

abbrev pub QuestContent : Type 0 → Type 0
QuestContent X =
    Either Mode
    (Either (Item × Box X Global)
    (Either (Vec X Global × (Vec Mode Global × Option Mode))
    (BTreeMap (String Global) Item)))

abbrev pub quest_opened : {X : Type 0} → Quest-F X → QuestContent X
quest_opened (Quest-F.Win v) = First v
quest_opened (Quest-F.Bring v0 v1) = Later (First (v0, v1))
quest_opened (Quest-F.All v0 v1 v2) = Later (Later (First (v0, (v1, v2))))
quest_opened (Quest-F.Find v) = Later (Later (Later v))

abbrev pub quest_view : Quest → QuestContent Quest
quest_view x = quest_opened (out-Quest x)

-- ---- what it means, and how deep it is

abbrev pub quest_means_step : Quest-F Meaning → Meaning
quest_means_step (Quest-F.Win v) = tagged 0 (mode_value.means v)
quest_means_step (Quest-F.Bring v0 v1) = tagged 1 (paired (item_value.means v0, v1.value))
quest_means_step (Quest-F.All v0 v1 v2) =
    tagged 2 (paired (listed v0.items, paired (listed (map mode_value.means v1.items), optional (option_map mode_value.means v2))))
quest_means_step (Quest-F.Find v) =
    tagged 3 (ordered_map_means string_cmp (λ x. text (string_bytes x)) item_value.means v.entries)

abbrev pub quest_means : Quest → Meaning
quest_means = fold-Quest Meaning quest_means_step

abbrev pub quest_depth_step : Quest-F ℕ → ℕ
quest_depth_step (Quest-F.Win v) = 0
quest_depth_step (Quest-F.Bring v0 v1) = suc v1.value
quest_depth_step (Quest-F.All v0 v1 v2) = max (greatest (map (λ x. suc x) v0.items)) 0
quest_depth_step (Quest-F.Find v) = 0

abbrev pub quest_depth : Quest → ℕ
quest_depth = fold-Quest ℕ quest_depth_step

-- ---- which meanings are legal, given those that are of the values in it

abbrev pub quest_step : LegalStep
quest_step P =
    LegalVariant (variant mode_value.legal (variant (LegalPair item_value.legal P) (variant (LegalPair (LegalList P) (LegalPair (LegalList mode_value.legal) (LegalOption mode_value.legal))) (variant (LegalMap LegalText item_value.legal) no_variants))))

-- ---- as bytes: the layer around the values in it, and the codec

abbrev pub quest_variants : ChoiceLayer Quest (QuestContent Quest)
quest_variants =
    next_variant (other_layer mode_part)
    (next_variant (next_layer item_part (seen_layer (λ x. x.value) itself_layer))
    (next_variant (pair_layer (seen_layer (λ x. x.items) (list_layer itself_layer)) (other_layer (pair_codec (codec_as (λ (x : Vec Mode Global). x.items) (list_codec mode_part)) (option_codec mode_part))))
    (last_variant (other_layer (codec_as (λ (x : BTreeMap (String Global) Item). x.entries) (ordered_map_codec texts string_cmp string_codec item_part))))))

abbrev pub quest_layer : Layer Quest (QuestContent Quest)
quest_layer = choice_layer quest_variants (λ f. lit≤ tt)

pub quest_means_opened : (y : Quest-F Quest)
    → quest_means_step (map-Quest Quest Meaning quest_means y)
    ≡ quest_layer.means quest_means (quest_opened y)
quest_means_opened (Quest-F.Win v) = refl
quest_means_opened (Quest-F.Bring v0 v1) = refl
quest_means_opened (Quest-F.All v0 v1 v2) = refl
quest_means_opened (Quest-F.Find v) = refl

pub quest_depth_opened : (y : Quest-F Quest)
    → quest_depth_step (map-Quest Quest ℕ quest_depth y)
    ≡ quest_layer.deep quest_depth (quest_opened y)
quest_depth_opened (Quest-F.Win v) = refl
quest_depth_opened (Quest-F.Bring v0 v1) = refl
quest_depth_opened (Quest-F.All v0 v1 v2) = pair_depth (list_depth _ _ _ (λ x. refl) v0.items) refl
quest_depth_opened (Quest-F.Find v) = refl

abbrev pub quest_nested : Nested Quest
quest_nested = record {
  Seen = QuestContent Quest;
  layer = quest_layer;
  view = quest_view;
  means = quest_means;
  depth = quest_depth;
  means_is = λ x. fold_out-Quest Meaning quest_means_step x ∙ quest_means_opened (out-Quest x);
  depth_is = λ x. fold_out-Quest ℕ quest_depth_step x ∙ quest_depth_opened (out-Quest x);
}

abbrev pub quest_codec : Codec Quest
quest_codec = nested_codec quest_nested
