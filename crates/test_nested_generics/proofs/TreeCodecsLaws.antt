-- Written by derive_files: what is proved of types that contain themselves.
use Rattle.std.specs.Prelude.{◌≡◌, ◌++◌, map, refl, Vec}
use Rattle.std.specs.Global.{Global}
use Rattle.std.proofs.Common.{append_assoc, inl, inr, rules}
use Rattle.nano_value.specs.Meaning.{listed}
use Rattle.nano_schema.specs.declared.choices.Either.TheVariants.{First, Later}
use Rattle.nano_bin_bytes.specs.Codec.{Codec}
use Rattle.nano_bin_bytes.specs.BaseCodecs.{codec_as}
use Rattle.nano_bin_bytes.specs.Scalars.{little_endian}
use Rattle.nano_bin.specs.ContainerCodecs.{list_codec}
use Rattle.nano_bin_nested.proofs.NestedLaws.{seen_legal, written_seen}
use Rattle.test_nested_generics.specs.declared.tree.Tree.{Tree}
use Rattle.test_nested_generics.specs.TreeCodecs.{tree_view, tree_means, tree_nested, tree_codec}
use Rattle.test_nested_generics.specs.declared.tree.Tree.{the_lemmas}
use Rattle.test_nested_generics.specs.declared.tree.Tree.{Leaf as Tree-Leaf}
use Rattle.test_nested_generics.specs.declared.tree.Tree.{Node as Tree-Node}

-- ==== Tree

pub tree_view_leaf : {T : Type 0} → (v : T)
    → tree_view (Tree-Leaf v) ≡ First v
tree_view_leaf {T} v = search (rules, the_lemmas)

pub tree_view_node : {T : Type 0} → (v : Vec (Tree T) Global)
    → tree_view (Tree-Node v) ≡ Later v
tree_view_node {T} v = search (rules, the_lemmas)

module _ {T : Type 0} (t_bin : Codec T) where
  pub tree_written_leaf : (v : T)
      → (tree_codec t_bin).canonical.written (Tree-Leaf v)
      ≡ little_endian 2 0
      ++ t_bin.canonical.written v
  tree_written_leaf v =
      written_seen (tree_nested t_bin) (Tree-Leaf v) (First v) (tree_view_leaf v)

  pub tree_legal_leaf : (v : T)
      → t_bin.encoding.legal (t_bin.canonical.means v)
      → (tree_codec t_bin).encoding.legal ((tree_means t_bin.canonical.means) (Tree-Leaf v))
  tree_legal_leaf v h0 =
      seen_legal (tree_nested t_bin) (Tree-Leaf v) (First v) (tree_view_leaf v)
      (inl (record { part = t_bin.canonical.means v; has = h0; is = refl }))

  pub tree_written_node : (v : Vec (Tree T) Global)
      → (tree_codec t_bin).canonical.written (Tree-Node v)
      ≡ little_endian 2 1
      ++ (codec_as (λ (x : Vec (Tree T) Global). x.items) (list_codec (tree_codec t_bin))).canonical.written v
  tree_written_node v =
      written_seen (tree_nested t_bin) (Tree-Node v) (Later v) (tree_view_node v)

  pub tree_legal_node : (v : Vec (Tree T) Global)
      → (codec_as (λ (x : Vec (Tree T) Global). x.items) (list_codec (tree_codec t_bin))).encoding.legal (listed (map (tree_means t_bin.canonical.means) v.items))
      → (tree_codec t_bin).encoding.legal ((tree_means t_bin.canonical.means) (Tree-Node v))
  tree_legal_node v h0 =
      seen_legal (tree_nested t_bin) (Tree-Node v) (Later v) (tree_view_node v)
      (inr (inl (record { part = listed (map (tree_means t_bin.canonical.means) v.items); has = h0; is = refl })))

pub ruleset tree_views = (tree_view_leaf, tree_view_node)

pub ruleset tree_written_laws = (append_assoc, tree_written_leaf, tree_written_node)
