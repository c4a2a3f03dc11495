-- Written by derive_files.
use Rattle.nano_schema_levels.proofs.LegalLevelsLaws.{legal_in_words}
use Rattle.test_nested_generics.proofs.TreeCodecsLaws.{tree_legal_leaf, tree_legal_node}
use Rattle.test_nested_generics.proofs.tree.derived.TreeValue.+known.Goals as goal

pub returns-in-Leaf : goal.returns-in-Leaf
returns-in-Leaf g t c =
    rw c.in-Leaf.is ((tree_legal_leaf g.T.BinCodec.bin) c.in-Leaf.first (legal_in_words g.met.T.BinCodec.agrees c.in-Leaf.first c.known.ensures))

pub returns-in-Node : goal.returns-in-Node
returns-in-Node g t c = rw c.in-Node.is ((tree_legal_node g.T.BinCodec.bin) c.in-Node.first c.known-in-Node.ensures)
