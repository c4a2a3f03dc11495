-- Written by derive_files.
use Rattle.test_nested_generics.proofs.TreeRonCodecsLaws.{tree_ron_text_leaf, tree_ron_text_node}
use Rattle.test_nested_generics.proofs.tree.derived.TreeWritesRon.+write_ron.Goals as goal

pub returns-in-Leaf-clause-ok : goal.returns-in-Leaf-clause-ok
returns-in-Leaf-clause-ok g t c =
    rw (c.in-Leaf.is, (tree_ron_text_leaf g.T.RonCodec.ron) c.args.d c.in-Leaf.first)
    c.write_variant_other.ensures.ok

pub returns-in-Node-clause-ok : goal.returns-in-Node-clause-ok
returns-in-Node-clause-ok g t c =
    rw (c.in-Node.is, (tree_ron_text_node g.T.RonCodec.ron) c.args.d c.in-Node.first)
    c.write_variant_within.ensures.ok
