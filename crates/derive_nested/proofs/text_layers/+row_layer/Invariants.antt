use Rattle.std.proofs.Common.{length}
use Rattle.derive_nested.proofs.text_layers.+row_layer.Given as goal

abbrev pub decreases-row_layer : goal.decreases-row_layer
decreases-row_layer l = length l.leaves.now
