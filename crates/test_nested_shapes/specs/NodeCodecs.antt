-- Written by derive_files: types that contain themselves, and their codecs.
use Rattle.std.specs.Prelude.{◌≡◌, ℕ, ℤ, List, suc, map, refl, Box, String, Vec, string_bytes, string_cmp}
use Rattle.std.specs.BTreeSet.{BTreeSet}
use Rattle.std.specs.HashMap.{HashMap}
use Rattle.std.specs.HashSet.{HashSet}
use Rattle.std.specs.declared.hash.BuildHasherDefault.{BuildHasherDefault}
use Rattle.std.specs.declared.hash.FoldHasher.{FoldHasher}
use Rattle.std.specs.Global.{Global}
use Rattle.std.specs.Int.{w32}
use Rattle.std.proofs.Common.{◌∙◌, lit≤}
use Rattle.nano_value.specs.Meaning.{Meaning, nothing, number, whole, text, listed, paired, LegalUnsigned, LegalSigned, LegalUnit, LegalText, LegalList, LegalArray, LegalPair}
use Rattle.nano_value.specs.Sets.{LegalSet, item_set, set_means}
use Rattle.nano_value.specs.Sums.{tagged, LegalVariant, variant, no_variants}
use Rattle.nano_value.specs.Ordered.{ordered_means}
use Rattle.nano_value.specs.Tables.{LegalMap, table_means, table_of}
use Rattle.nano_meaning.proofs.OrderLaws.{texts, wholes}
use Rattle.nano_levels.specs.Layers.{greatest}
use Rattle.nano_schema.specs.declared.choices.Either.{Either}
use Rattle.nano_schema.specs.declared.choices.Either.TheVariants.{First, Later}
use Rattle.nano_schema_levels.specs.LegalLevels.{LegalStep}
use Rattle.nano_schema_levels.proofs.StepsLaws.{list_depth}
use Rattle.nano_bin_bytes.specs.Codec.{Codec}
use Rattle.nano_bin_bytes.specs.BaseCodecs.{codec_as}
use Rattle.nano_bin.specs.ScalarCodecs.{u8_codec, u16_codec, u32_codec, i32_codec, string_codec, unit_codec}
use Rattle.nano_bin.specs.ContainerCodecs.{list_codec as linked_codec, map_codec, ordered_codec, pair_codec, set_codec}
use Rattle.nano_bin_levels.specs.Layers.{Layer, Nested}
use Rattle.nano_bin_levels.proofs.LayersLaws.{itself_layer, next_layer, other_layer, seen_layer}
use Rattle.nano_bin_levels.proofs.ListsLaws.{list_layer}
use Rattle.nano_bin_levels.proofs.LevelsLaws.{nested_codec}
use Rattle.nano_bin_nested.specs.ChoiceLayerCodecs.{ChoiceLayer, choice_layer, last_variant, next_variant}
use Rattle.nano_bin_nested.specs.TupleCodecs.{array_codec}
use Rattle.test_nested_shapes.specs.declared.node.Node.{Node}
use Rattle.test_nested_shapes.specs.declared.node.Node.TheOpen.{Node-F}
use Rattle.test_nested_shapes.specs.declared.node.Node.TheViews.{out-Node}
use Rattle.test_nested_shapes.specs.declared.node.Node.TheFolds.{map-Node, fold-Node, fold_out-Node}
use Rattle.test_nested_shapes.specs.declared.node.Trail.{Trail}
use Rattle.test_nested_shapes.specs.declared.node.Trail.TheOpen.{Trail-F}
use Rattle.test_nested_shapes.specs.declared.node.Trail.TheViews.{out-Trail}
use Rattle.test_nested_shapes.specs.declared.node.Trail.TheFolds.{map-Trail, fold-Trail, fold_out-Trail}

-- ==== Node: what a value is seen as

abbrev pub NodeContent : Type 0 → Type 0
NodeContent X =
    (String Global × (List ℤ × (ℕ × ℕ))) × (BTreeSet (String Global) × (HashMap (String Global) ℕ (BuildHasherDefault FoldHasher) × Vec X Global))

abbrev pub node_opened : {X : Type 0} → Node-F X → NodeContent X
node_opened y = ((y.name, (y.at, y.size)), (y.tags, (y.effects, y.children)))

abbrev pub node_view : Node → NodeContent Node
node_view x = node_opened (out-Node x)

-- ---- what it means, and how deep it is

abbrev pub node_means_step : Node-F Meaning → Meaning
node_means_step y =
    paired (paired (text (string_bytes y.name), paired (listed (map number y.at), paired (whole y.size.0, whole y.size.1))), paired (ordered_means string_cmp (λ x. text (string_bytes x)) y.tags.keys, paired (table_means (table_of (λ x. text (string_bytes x)) whole y.effects.entries), listed y.children.items)))

abbrev pub node_means : Node → Meaning
node_means = fold-Node Meaning node_means_step

abbrev pub node_depth_step : Node-F ℕ → ℕ
node_depth_step y = greatest (map (λ x. suc x) y.children.items)

abbrev pub node_depth : Node → ℕ
node_depth = fold-Node ℕ node_depth_step

-- ---- which meanings are legal, given those that are of the values in it

abbrev pub node_step : LegalStep
node_step P =
    LegalPair (LegalPair LegalText (LegalPair (LegalArray 3 (LegalSigned w32)) (LegalPair (LegalUnsigned 32) (LegalUnsigned 32)))) (LegalPair (LegalSet LegalText) (LegalPair (LegalMap LegalText (LegalUnsigned 32)) (LegalList P)))

-- ---- as bytes: the layer around the values in it, and the codec

abbrev pub node_layer : Layer Node (NodeContent Node)
node_layer =
    next_layer (pair_codec string_codec (pair_codec (array_codec 3 i32_codec) (pair_codec u32_codec u32_codec))) (next_layer (codec_as (λ (x : BTreeSet (String Global)). x.keys) (ordered_codec texts string_cmp string_codec)) (next_layer (codec_as (λ (x : HashMap (String Global) ℕ (BuildHasherDefault FoldHasher)). x.entries) (map_codec texts string_codec u32_codec)) (seen_layer (λ x. x.items) (list_layer itself_layer))))

pub node_means_opened : (y : Node-F Node)
    → node_means_step (map-Node Node Meaning node_means y)
    ≡ node_layer.means node_means (node_opened y)
node_means_opened y = refl

pub node_depth_opened : (y : Node-F Node)
    → node_depth_step (map-Node Node ℕ node_depth y)
    ≡ node_layer.deep node_depth (node_opened y)
node_depth_opened y = list_depth _ _ _ (λ x. refl) y.children.items

abbrev pub node_nested : Nested Node
node_nested = record {
  Seen = NodeContent Node;
  layer = node_layer;
  view = node_view;
  means = node_means;
  depth = node_depth;
  means_is = λ x. fold_out-Node Meaning node_means_step x ∙ node_means_opened (out-Node x);
  depth_is = λ x. fold_out-Node ℕ node_depth_step x ∙ node_depth_opened (out-Node x);
}

abbrev pub node_codec : Codec Node
node_codec = nested_codec node_nested

-- ==== Trail: what a value is seen as

abbrev pub TrailContent : Type 0 → Type 0
TrailContent X =
    Either (Unit {0}) ((List ((String Global) × ℕ)) × (HashSet ℕ (BuildHasherDefault FoldHasher) × Box X Global))

abbrev pub trail_opened : {X : Type 0} → Trail-F X → TrailContent X
trail_opened Trail-F.End = First (tt {0})
trail_opened (Trail-F.Through v0 v1 v2) = Later (v0, (v1, v2))

abbrev pub trail_view : Trail → TrailContent Trail
trail_view x = trail_opened (out-Trail x)

-- ---- what it means, and how deep it is

abbrev pub trail_means_step : Trail-F Meaning → Meaning
trail_means_step Trail-F.End = tagged 0 nothing
trail_means_step (Trail-F.Through v0 v1 v2) =
    tagged 1 (paired (listed (map (λ x. paired (text (string_bytes x.0), whole x.1)) v0), paired (set_means (item_set whole v1.keys), v2.value)))

abbrev pub trail_means : Trail → Meaning
trail_means = fold-Trail Meaning trail_means_step

abbrev pub trail_depth_step : Trail-F ℕ → ℕ
trail_depth_step Trail-F.End = 0
trail_depth_step (Trail-F.Through v0 v1 v2) = suc v2.value

abbrev pub trail_depth : Trail → ℕ
trail_depth = fold-Trail ℕ trail_depth_step

-- ---- which meanings are legal, given those that are of the values in it

abbrev pub trail_step : LegalStep
trail_step P =
    LegalVariant (variant LegalUnit (variant (LegalPair (LegalList (LegalPair LegalText (LegalUnsigned 8))) (LegalPair (LegalSet (LegalUnsigned 16)) P)) no_variants))

-- ---- as bytes: the layer around the values in it, and the codec

abbrev pub trail_variants : ChoiceLayer Trail (TrailContent Trail)
trail_variants =
    next_variant (other_layer unit_codec)
    (last_variant (next_layer (linked_codec (pair_codec string_codec u8_codec)) (next_layer (codec_as (λ (x : HashSet ℕ (BuildHasherDefault FoldHasher)). x.keys) (set_codec wholes u16_codec)) (seen_layer (λ x. x.value) itself_layer))))

abbrev pub trail_layer : Layer Trail (TrailContent Trail)
trail_layer = choice_layer trail_variants (λ f. lit≤ tt)

pub trail_means_opened : (y : Trail-F Trail)
    → trail_means_step (map-Trail Trail Meaning trail_means y)
    ≡ trail_layer.means trail_means (trail_opened y)
trail_means_opened Trail-F.End = refl
trail_means_opened (Trail-F.Through v0 v1 v2) = refl

pub trail_depth_opened : (y : Trail-F Trail)
    → trail_depth_step (map-Trail Trail ℕ trail_depth y)
    ≡ trail_layer.deep trail_depth (trail_opened y)
trail_depth_opened Trail-F.End = refl
trail_depth_opened (Trail-F.Through v0 v1 v2) = refl

abbrev pub trail_nested : Nested Trail
trail_nested = record {
  Seen = TrailContent Trail;
  layer = trail_layer;
  view = trail_view;
  means = trail_means;
  depth = trail_depth;
  means_is = λ x. fold_out-Trail Meaning trail_means_step x ∙ trail_means_opened (out-Trail x);
  depth_is = λ x. fold_out-Trail ℕ trail_depth_step x ∙ trail_depth_opened (out-Trail x);
}

abbrev pub trail_codec : Codec Trail
trail_codec = nested_codec trail_nested
