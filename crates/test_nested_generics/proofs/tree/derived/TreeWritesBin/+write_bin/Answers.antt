-- Written by derive_files.
use Rattle.test_nested_generics.proofs.TreeCodecsLaws.{tree_written_leaf, tree_written_node}
use Rattle.test_nested_generics.proofs.tree.derived.TreeWritesBin.+write_bin.Goals as goal

pub returns-in-Leaf-clause-ok : goal.returns-in-Leaf-clause-ok
returns-in-Leaf-clause-ok g t c =
    rw (c.in-Leaf.is, (tree_written_leaf g.T.BinCodec.bin) c.in-Leaf.first)
    c.append_variant.ensures.ok

pub returns-in-Node-clause-ok : goal.returns-in-Node-clause-ok
returns-in-Node-clause-ok g t c =
    rw (c.in-Node.is, (tree_written_node g.T.BinCodec.bin) c.in-Node.first)
    c.append_variant_within.ensures.ok
