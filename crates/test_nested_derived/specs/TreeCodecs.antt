-- Written by derive_files: types that contain themselves, and their codecs.
use Rattle.std.specs.Prelude.{◌≡◌, ℕ, ℤ, suc, map, refl, Vec}
use Rattle.std.specs.Global.{Global}
use Rattle.std.specs.Int.{w32}
use Rattle.std.proofs.Common.{◌∙◌, lit≤}
use Rattle.nano_value.specs.Meaning.{Meaning, number, listed, LegalSigned, LegalList}
use Rattle.nano_value.specs.Sums.{tagged, LegalVariant, variant, no_variants}
use Rattle.nano_levels.specs.Layers.{greatest}
use Rattle.nano_schema.specs.declared.choices.Either.{Either}
use Rattle.nano_schema.specs.declared.choices.Either.TheVariants.{First, Later}
use Rattle.nano_schema_levels.specs.LegalLevels.{LegalStep}
use Rattle.nano_schema_levels.proofs.StepsLaws.{list_depth}
use Rattle.nano_bin_bytes.specs.Codec.{Codec}
use Rattle.nano_bin.specs.ScalarCodecs.{i32_codec}
use Rattle.nano_bin_levels.specs.Layers.{Layer, Nested}
use Rattle.nano_bin_levels.proofs.LayersLaws.{itself_layer, other_layer, seen_layer}
use Rattle.nano_bin_levels.proofs.ListsLaws.{list_layer}
use Rattle.nano_bin_levels.proofs.LevelsLaws.{nested_codec}
use Rattle.nano_bin_nested.specs.ChoiceLayerCodecs.{ChoiceLayer, choice_layer, last_variant, next_variant}
use Rattle.test_nested_derived.specs.declared.tree.Tree.{Tree}
use Rattle.test_nested_derived.specs.declared.tree.Tree.TheOpen.{Tree-F}
use Rattle.test_nested_derived.specs.declared.tree.Tree.TheViews.{out-Tree}
use Rattle.test_nested_derived.specs.declared.tree.Tree.TheFolds.{map-Tree, fold-Tree, fold_out-Tree}

-- ==== Tree: what a value is seen as

abbrev pub TreeContent : Type 0 → Type 0
TreeContent X = Either ℤ (Vec X Global)

abbrev pub tree_opened : {X : Type 0} → Tree-F X → TreeContent X
tree_opened (Tree-F.Leaf v) = First v
tree_opened (Tree-F.Node v) = Later v

abbrev pub tree_view : Tree → TreeContent Tree
tree_view x = tree_opened (out-Tree x)

-- ---- what it means, and how deep it is

abbrev pub tree_means_step : Tree-F Meaning → Meaning
tree_means_step (Tree-F.Leaf v) = tagged 0 (number v)
tree_means_step (Tree-F.Node v) = tagged 1 (listed v.items)

abbrev pub tree_means : Tree → Meaning
tree_means = fold-Tree Meaning tree_means_step

abbrev pub tree_depth_step : Tree-F ℕ → ℕ
tree_depth_step (Tree-F.Leaf v) = 0
tree_depth_step (Tree-F.Node v) = greatest (map (λ x. suc x) v.items)

abbrev pub tree_depth : Tree → ℕ
tree_depth = fold-Tree ℕ tree_depth_step

-- ---- which meanings are legal, given those that are of the values in it

abbrev pub tree_step : LegalStep
tree_step P = LegalVariant (variant (LegalSigned w32) (variant (LegalList P) no_variants))

-- ---- as bytes: the layer around the values in it, and the codec

abbrev pub tree_variants : ChoiceLayer Tree (TreeContent Tree)
tree_variants =
    next_variant (other_layer i32_codec)
    (last_variant (seen_layer (λ x. x.items) (list_layer itself_layer)))

abbrev pub tree_layer : Layer Tree (TreeContent Tree)
tree_layer = choice_layer tree_variants (λ f. lit≤ tt)

pub tree_means_opened : (y : Tree-F Tree)
    → tree_means_step (map-Tree Tree Meaning tree_means y)
    ≡ tree_layer.means tree_means (tree_opened y)
tree_means_opened (Tree-F.Leaf v) = refl
tree_means_opened (Tree-F.Node v) = refl

pub tree_depth_opened : (y : Tree-F Tree)
    → tree_depth_step (map-Tree Tree ℕ tree_depth y)
    ≡ tree_layer.deep tree_depth (tree_opened y)
tree_depth_opened (Tree-F.Leaf v) = refl
tree_depth_opened (Tree-F.Node v) = list_depth _ _ _ (λ x. refl) v.items

abbrev pub tree_nested : Nested Tree
tree_nested = record {
  Seen = TreeContent Tree;
  layer = tree_layer;
  view = tree_view;
  means = tree_means;
  depth = tree_depth;
  means_is = λ x. fold_out-Tree Meaning tree_means_step x ∙ tree_means_opened (out-Tree x);
  depth_is = λ x. fold_out-Tree ℕ tree_depth_step x ∙ tree_depth_opened (out-Tree x);
}

abbrev pub tree_codec : Codec Tree
tree_codec = nested_codec tree_nested
