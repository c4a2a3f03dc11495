-- Written by derive_files: what is proved of types that contain themselves.
use Rattle.std.specs.Prelude.{◌≡◌, ℕ, codes, Vec}
use Rattle.std.specs.Global.{Global}
use Rattle.nano_schema.specs.declared.choices.Either.TheVariants.{First, Later}
use Rattle.nano_schema_levels.proofs.NestedLaws.{text_seen}
use Rattle.nano_json.specs.Codec.{Codec, codec_as}
use Rattle.nano_json.specs.ContainerCodecs.{list_codec}
use Rattle.nano_json_schema.specs.FieldCodecs.{single_codec}
use Rattle.nano_json_schema.specs.Variants.{content_text}
use Rattle.test_nested_generics.specs.declared.tree.Tree.{Tree}
use Rattle.test_nested_generics.specs.TreeCodecs.{tree_view}
use Rattle.test_nested_generics.specs.TreeJsonCodecs.{tree_json_nested, tree_json}
use Rattle.test_nested_generics.proofs.TreeCodecsLaws.{tree_view_leaf, tree_view_node}
use Rattle.test_nested_generics.specs.declared.tree.Tree.{Leaf as Tree-Leaf}
use Rattle.test_nested_generics.specs.declared.tree.Tree.{Node as Tree-Node}

module _ {T : Type 0} (t_json : Codec T) where
  -- ==== Tree

  pub tree_json_text_leaf : (d : ℕ)
      → (v : T)
      → (tree_json t_json).canonical.text d (Tree-Leaf v)
      ≡ content_text (codes "Leaf") ((single_codec t_json).canonical.text d v)
  tree_json_text_leaf d v =
      text_seen (tree_json_nested t_json) 128 d (Tree-Leaf v) (First v) (tree_view_leaf v)

  pub tree_json_text_node : (d : ℕ)
      → (v : Vec (Tree T) Global)
      → (tree_json t_json).canonical.text d (Tree-Node v)
      ≡ content_text (codes "Node") ((single_codec (codec_as (λ (x : Vec (Tree T) Global). x.items) (list_codec (tree_json t_json)))).canonical.text d v)
  tree_json_text_node d v =
      text_seen (tree_json_nested t_json) 128 d (Tree-Node v) (Later v) (tree_view_node v)

pub ruleset tree_json_texts = (tree_json_text_leaf, tree_json_text_node)
