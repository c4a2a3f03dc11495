-- Written by derive_files: types that contain themselves, and their codecs.
use Rattle.std.specs.Prelude.{◌≡◌, ℕ, refl, codes}
use Rattle.std.proofs.Common.{◌∙◌}
use Rattle.nano_value.specs.Meaning.{Meaning, Agrees}
use Rattle.nano_schema_levels.proofs.StepsLaws.{list_depth}
use Rattle.nano_levels.specs.Layers.{Layer, Nested}
use Rattle.nano_levels.proofs.LayersLaws.{itself_layer, list_layer, other_layer}
use Rattle.nano_levels.proofs.LevelsLaws.{level, limited}
use Rattle.nano_schema_levels.specs.VariantLayers.{VariantsLayer}
use Rattle.nano_schema_levels.proofs.LegalLevelsLaws.{agree_by_steps, nested_agrees}
use Rattle.nano_schema_levels.proofs.PartLaws.{seen_layer, single_layer}
use Rattle.nano_schema_levels.proofs.VariantLayersLaws.{choice_layer, last_variant, next_variant}
use Rattle.nano_bin_nested.proofs.LegalLaws.{nested_agrees as bin_agrees}
use Rattle.nano_json.specs.Codec.{Codec}
use Rattle.nano_json_tokens.specs.Cut.{json_grammar}
use Rattle.nano_json_tokens.proofs.JsonLaws.{json, block_brackets, block_style, tuple_style}
use Rattle.nano_json_schema.specs.VariantCodecs.{json_variants}
use Rattle.test_nested_generics.specs.declared.tree.Tree.{Tree}
use Rattle.test_nested_generics.specs.declared.tree.Tree.TheOpen.{Tree-F}
use Rattle.test_nested_generics.specs.declared.tree.Tree.TheViews.{out-Tree}
use Rattle.test_nested_generics.specs.declared.tree.Tree.TheFolds.{map-Tree, fold_out-Tree}
use Rattle.test_nested_generics.specs.TreeCodecs.{TreeContent, tree_opened, tree_view, tree_means, tree_means_step}
use Rattle.test_nested_generics.specs.TreeCodecs.{tree_depth, tree_depth_step}
use Rattle.test_nested_generics.specs.TreeCodecs.{tree_step, tree_nested, tree_codec}
use Rattle.test_nested_generics.specs.TreeCodecs.{tree_weaker}
use Rattle.nano_bin_bytes.specs.Codec.{Codec as BinCodec}

module _ {T : Type 0} (t_json : Codec T) where
  -- ==== Tree: the layer around the values in it

  abbrev pub tree_json_variants : VariantsLayer json_variants (Tree T) (TreeContent T (Tree T))
  tree_json_variants =
      next_variant json_variants (codes "Leaf") (single_layer tuple_style block_brackets (other_layer t_json)) (λ f x d. tt)
      (last_variant json_variants (codes "Node") (single_layer tuple_style block_brackets (seen_layer (λ x. x.items) (list_layer block_style block_brackets itself_layer))) (λ f x d. tt))

  abbrev pub tree_json_layer : Layer json json_grammar (Tree T) (TreeContent T (Tree T))
  tree_json_layer = choice_layer tree_json_variants (λ f. refl) (λ f. refl)

  pub tree_json_means_opened : (y : Tree-F T (Tree T))
      → (tree_means_step t_json.canonical.means) (map-Tree T (Tree T) Meaning (tree_means t_json.canonical.means) y)
      ≡ tree_json_layer.means (tree_means t_json.canonical.means) (tree_opened y)
  tree_json_means_opened (Tree-F.Leaf v) = refl
  tree_json_means_opened (Tree-F.Node v) = refl

  pub tree_json_depth_opened : (y : Tree-F T (Tree T))
      → tree_depth_step (map-Tree T (Tree T) ℕ tree_depth y)
      ≡ tree_json_layer.deep tree_depth (tree_opened y)
  tree_json_depth_opened (Tree-F.Leaf v) = refl
  tree_json_depth_opened (Tree-F.Node v) = list_depth _ _ _ (λ x. refl) v.items

  abbrev pub tree_json_nested : Nested json json_grammar (Tree T)
  tree_json_nested = record {
    Seen = TreeContent T (Tree T);
    layer = tree_json_layer;
    view = tree_view;
    means = (tree_means t_json.canonical.means);
    depth = tree_depth;
    means_is = λ x. fold_out-Tree T Meaning (tree_means_step t_json.canonical.means) x ∙ tree_json_means_opened (out-Tree T x);
    depth_is = λ x. fold_out-Tree T ℕ tree_depth_step x ∙ tree_json_depth_opened (out-Tree T x);
  }

  -- those of at most so many levels
  abbrev pub tree_json_at : ℕ → Codec (Tree T)
  tree_json_at = level tree_json_nested

  -- those that are read
  abbrev pub tree_json : Codec (Tree T)
  tree_json = limited tree_json_nested 128

  pub tree_json_agrees : (t_bin : BinCodec T)
      → (t_same : Agrees t_bin.canonical.means t_bin.encoding.legal
      t_json.canonical.means t_json.encoding.legal)
      → Agrees (tree_means t_bin.canonical.means) (tree_codec t_bin).encoding.legal (tree_means t_json.canonical.means)
      tree_json.encoding.legal
  tree_json_agrees t_bin t_same =
      agree_by_steps (tree_weaker t_same.allows) (tree_weaker t_same.is_legal)
      (bin_agrees (tree_nested t_bin) (tree_step t_bin.encoding.legal) (λ f. refl))
      (nested_agrees tree_json_nested (tree_step t_json.encoding.legal) (λ f. refl) 128)
      (λ i. tree_means (t_same.means_is i))
