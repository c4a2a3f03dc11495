-- Written by derive_files.
use Rattle.test_nested_generics.proofs.TreeJsonCodecsLaws.{tree_json_text_leaf, tree_json_text_node}
use Rattle.test_nested_generics.proofs.tree.derived.TreeWritesJson.+write_json.Goals as goal

pub returns-in-Leaf-clause-ok : goal.returns-in-Leaf-clause-ok
returns-in-Leaf-clause-ok g t c =
    rw (c.in-Leaf.is, (tree_json_text_leaf g.T.JsonCodec.json) c.args.d c.in-Leaf.first)
    c.write_variant_other.ensures.ok

pub returns-in-Node-clause-ok : goal.returns-in-Node-clause-ok
returns-in-Node-clause-ok g t c =
    rw (c.in-Node.is, (tree_json_text_node g.T.JsonCodec.json) c.args.d c.in-Node.first)
    c.write_variant_within.ensures.ok
