-- Written by derive_files: types that contain themselves, and their codecs.
use Rattle.std.specs.Prelude.{◌≡◌, ℕ, suc, map, refl, true, Vec}
use Rattle.std.specs.Global.{Global}
use Rattle.std.proofs.Common.{◌∙◌, inl, inr, lit≤}
use Rattle.nano_value.specs.Meaning.{Meaning, listed, LegalList}
use Rattle.nano_value.specs.Sums.{tagged, LegalVariant, variant, no_variants}
use Rattle.nano_meaning.proofs.MeaningLaws.{list_weaker}
use Rattle.nano_levels.specs.Layers.{greatest}
use Rattle.nano_schema.specs.declared.choices.Either.{Either}
use Rattle.nano_schema.specs.declared.choices.Either.TheVariants.{First, Later}
use Rattle.nano_schema_levels.specs.LegalLevels.{IsWeaker, LegalStep}
use Rattle.nano_schema_levels.proofs.StepsLaws.{list_depth}
use Rattle.nano_bin_bytes.specs.Codec.{Codec}
use Rattle.nano_bin_levels.specs.Layers.{Layer, Nested}
use Rattle.nano_bin_levels.proofs.LayersLaws.{itself_layer, other_layer, seen_layer}
use Rattle.nano_bin_levels.proofs.ListsLaws.{list_layer}
use Rattle.nano_bin_levels.proofs.LevelsLaws.{nested_codec}
use Rattle.nano_bin_nested.specs.ChoiceLayerCodecs.{ChoiceLayer, choice_layer, last_variant, next_variant}
use Rattle.test_nested_generics.specs.declared.tree.Tree.{Tree}
use Rattle.test_nested_generics.specs.declared.tree.Tree.TheOpen.{Tree-F}
use Rattle.test_nested_generics.specs.declared.tree.Tree.TheViews.{out-Tree}
use Rattle.test_nested_generics.specs.declared.tree.Tree.TheFolds.{map-Tree, fold-Tree, fold_out-Tree}

-- ==== Tree: what a value is seen as

abbrev pub TreeContent : Type 0 → Type 0 → Type 0
TreeContent T X = Either T (Vec X Global)

abbrev pub tree_opened : {T : Type 0} → {X : Type 0} → Tree-F T X → TreeContent T X
tree_opened {T} (Tree-F.Leaf v) = First v
tree_opened {T} (Tree-F.Node v) = Later v

abbrev pub tree_view : {T : Type 0} → (Tree T) → TreeContent T (Tree T)
tree_view {T} x = tree_opened (out-Tree T x)

-- ---- what it means, and how deep it is

abbrev pub tree_means_step : {T : Type 0} → (T → Meaning) → Tree-F T Meaning → Meaning
tree_means_step {T} t_means (Tree-F.Leaf v) = tagged 0 (t_means v)
tree_means_step {T} t_means (Tree-F.Node v) = tagged 1 (listed v.items)

abbrev pub tree_means : {T : Type 0} → (T → Meaning) → (Tree T) → Meaning
tree_means {T} t_means = fold-Tree T Meaning (tree_means_step t_means)

abbrev pub tree_depth_step : {T : Type 0} → Tree-F T ℕ → ℕ
tree_depth_step {T} (Tree-F.Leaf v) = 0
tree_depth_step {T} (Tree-F.Node v) = greatest (map (λ x. suc x) v.items)

abbrev pub tree_depth : {T : Type 0} → (Tree T) → ℕ
tree_depth {T} = fold-Tree T ℕ tree_depth_step

-- ---- which meanings are legal, given those that are of the values in it

abbrev pub tree_step : (Meaning → Type 0) → LegalStep
tree_step t_legal P = LegalVariant (variant t_legal (variant (LegalList P) no_variants))

pub tree_weaker : {PT QT : Meaning → Type 0}
    → ((m : Meaning) → PT m → QT m)
    → IsWeaker (tree_step PT) (tree_step QT)
tree_weaker t X Y x m (inl h) =
    (inl (record { part = h.part; has = (t) h.part h.has; is = h.is }))
tree_weaker t X Y x m (inr (inl h)) =
    (inr (inl (record { part = h.part; has = (list_weaker _ _ x) h.part h.has; is = h.is })))
tree_weaker t X Y x m (inr (inr h)) = absurd h

module _ {T : Type 0} (t_bin : Codec T) where
  -- ---- as bytes: the layer around the values in it, and the codec

  abbrev pub tree_variants : ChoiceLayer (Tree T) (TreeContent T (Tree T))
  tree_variants =
      next_variant (other_layer t_bin)
      (last_variant (seen_layer (λ x. x.items) (list_layer itself_layer)))

  abbrev pub tree_layer : Layer (Tree T) (TreeContent T (Tree T))
  tree_layer = choice_layer tree_variants (λ f. lit≤ tt)

  pub tree_means_opened : (y : Tree-F T (Tree T))
      → (tree_means_step t_bin.canonical.means) (map-Tree T (Tree T) Meaning (tree_means t_bin.canonical.means) y)
      ≡ tree_layer.means (tree_means t_bin.canonical.means) (tree_opened y)
  tree_means_opened (Tree-F.Leaf v) = refl
  tree_means_opened (Tree-F.Node v) = refl

  pub tree_depth_opened : (y : Tree-F T (Tree T))
      → tree_depth_step (map-Tree T (Tree T) ℕ tree_depth y)
      ≡ tree_layer.deep tree_depth (tree_opened y)
  tree_depth_opened (Tree-F.Leaf v) = refl
  tree_depth_opened (Tree-F.Node v) = list_depth _ _ _ (λ x. refl) v.items

  abbrev pub tree_nested : Nested (Tree T)
  tree_nested = record {
    Seen = TreeContent T (Tree T);
    layer = tree_layer;
    view = tree_view;
    means = (tree_means t_bin.canonical.means);
    depth = tree_depth;
    means_is = λ x. fold_out-Tree T Meaning (tree_means_step t_bin.canonical.means) x ∙ tree_means_opened (out-Tree T x);
    depth_is = λ x. fold_out-Tree T ℕ tree_depth_step x ∙ tree_depth_opened (out-Tree T x);
  }

  abbrev pub tree_codec : Codec (Tree T)
  tree_codec = nested_codec tree_nested

  pub tree_is_read : t_bin.is_decodable ≡ true → tree_codec.is_decodable ≡ true
  tree_is_read t_read = rw (t_read) refl
