-- Written by derive_files: types that contain themselves, and their codecs.
use Rattle.std.specs.Prelude.{◌≡◌, ℕ, refl, codes}
use Rattle.std.proofs.Common.{◌∙◌}
use Rattle.nano_value.specs.Meaning.{Meaning, Agrees}
use Rattle.nano_schema_levels.proofs.StepsLaws.{list_depth}
use Rattle.nano_levels.specs.Layers.{Layer, Nested}
use Rattle.nano_levels.proofs.LayersLaws.{itself_layer, list_layer, other_layer}
use Rattle.nano_levels.proofs.LevelsLaws.{level, limited}
use Rattle.nano_schema_levels.specs.VariantLayers.{VariantsLayer}
use Rattle.nano_schema_levels.proofs.LegalLevelsLaws.{agree_by_steps, nested_agrees}
use Rattle.nano_schema_levels.proofs.PartLaws.{seen_layer, single_layer}
use Rattle.nano_schema_levels.proofs.VariantLayersLaws.{choice_layer, last_variant, next_variant}
use Rattle.nano_bin_nested.proofs.LegalLaws.{nested_agrees as bin_agrees}
use Rattle.nano_ron.specs.Codec.{Codec}
use Rattle.nano_ron_tokens.specs.Cut.{ron_grammar}
use Rattle.nano_ron_tokens.proofs.RonLaws.{ron, block_brackets, paren_brackets}
use Rattle.nano_ron_tokens.proofs.StylesLaws.{line_style, tuple_style}
use Rattle.nano_ron_schema.specs.VariantCodecs.{ron_variants}
use Rattle.test_nested_generics.specs.declared.tree.Tree.{Tree}
use Rattle.test_nested_generics.specs.declared.tree.Tree.TheOpen.{Tree-F}
use Rattle.test_nested_generics.specs.declared.tree.Tree.TheViews.{out-Tree}
use Rattle.test_nested_generics.specs.declared.tree.Tree.TheFolds.{map-Tree, fold_out-Tree}
use Rattle.test_nested_generics.specs.TreeCodecs.{TreeContent, tree_opened, tree_view, tree_means, tree_means_step}
use Rattle.test_nested_generics.specs.TreeCodecs.{tree_depth, tree_depth_step}
use Rattle.test_nested_generics.specs.TreeCodecs.{tree_step, tree_nested, tree_codec}
use Rattle.test_nested_generics.specs.TreeCodecs.{tree_weaker}
use Rattle.nano_bin_bytes.specs.Codec.{Codec as BinCodec}

module _ {T : Type 0} (t_ron : Codec T) where
  -- ==== Tree: the layer around the values in it

  abbrev pub tree_ron_variants : VariantsLayer ron_variants (Tree T) (TreeContent T (Tree T))
  tree_ron_variants =
      next_variant ron_variants (codes "Leaf") (single_layer tuple_style paren_brackets (other_layer t_ron)) (λ f x d. refl)
      (last_variant ron_variants (codes "Node") (single_layer tuple_style paren_brackets (seen_layer (λ x. x.items) (list_layer line_style block_brackets itself_layer))) (λ f x d. refl))

  abbrev pub tree_ron_layer : Layer ron ron_grammar (Tree T) (TreeContent T (Tree T))
  tree_ron_layer = choice_layer tree_ron_variants (λ f. refl) (λ f. refl)

  pub tree_ron_means_opened : (y : Tree-F T (Tree T))
      → (tree_means_step t_ron.canonical.means) (map-Tree T (Tree T) Meaning (tree_means t_ron.canonical.means) y)
      ≡ tree_ron_layer.means (tree_means t_ron.canonical.means) (tree_opened y)
  tree_ron_means_opened (Tree-F.Leaf v) = refl
  tree_ron_means_opened (Tree-F.Node v) = refl

  pub tree_ron_depth_opened : (y : Tree-F T (Tree T))
      → tree_depth_step (map-Tree T (Tree T) ℕ tree_depth y)
      ≡ tree_ron_layer.deep tree_depth (tree_opened y)
  tree_ron_depth_opened (Tree-F.Leaf v) = refl
  tree_ron_depth_opened (Tree-F.Node v) = list_depth _ _ _ (λ x. refl) v.items

  abbrev pub tree_ron_nested : Nested ron ron_grammar (Tree T)
  tree_ron_nested = record {
    Seen = TreeContent T (Tree T);
    layer = tree_ron_layer;
    view = tree_view;
    means = (tree_means t_ron.canonical.means);
    depth = tree_depth;
    means_is = λ x. fold_out-Tree T Meaning (tree_means_step t_ron.canonical.means) x ∙ tree_ron_means_opened (out-Tree T x);
    depth_is = λ x. fold_out-Tree T ℕ tree_depth_step x ∙ tree_ron_depth_opened (out-Tree T x);
  }

  -- those of at most so many levels
  abbrev pub tree_ron_at : ℕ → Codec (Tree T)
  tree_ron_at = level tree_ron_nested

  -- those that are read
  abbrev pub tree_ron : Codec (Tree T)
  tree_ron = limited tree_ron_nested 128

  pub tree_ron_agrees : (t_bin : BinCodec T)
      → (t_same : Agrees t_bin.canonical.means t_bin.encoding.legal
      t_ron.canonical.means t_ron.encoding.legal)
      → Agrees (tree_means t_bin.canonical.means) (tree_codec t_bin).encoding.legal (tree_means t_ron.canonical.means)
      tree_ron.encoding.legal
  tree_ron_agrees t_bin t_same =
      agree_by_steps (tree_weaker t_same.allows) (tree_weaker t_same.is_legal)
      (bin_agrees (tree_nested t_bin) (tree_step t_bin.encoding.legal) (λ f. refl))
      (nested_agrees tree_ron_nested (tree_step t_ron.encoding.legal) (λ f. refl) 128)
      (λ i. tree_means (t_same.means_is i))
