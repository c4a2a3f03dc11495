use Rattle.nano_meaning.proofs.MeaningLaws.{pair_is_legal}
use Rattle.nano_meaning.proofs.SumsLaws.{variant_is_legal}
use Rattle.nano_bin.specs.Variants.{legal_bodies}
use Rattle.test_types.specs.CommandCodecs.{variants}
use Rattle.test_types.proofs.command.CommandValue.known.Goals as goal

pub returns-in-Stop : goal.returns-in-Stop
returns-in-Stop c =
    rw c.in-Stop.is (variant_is_legal (legal_bodies variants) 0 _ c.known.ensures)

pub returns-in-Move : goal.returns-in-Move
returns-in-Move c =
    let legal = pair_is_legal _ _ _ _ c.known-in-Move.ensures c.known-in-Move-2.ensures in
    rw c.in-Move.is (variant_is_legal (legal_bodies variants) 1 _ legal)

pub returns-in-Wait : goal.returns-in-Wait
returns-in-Wait c =
    rw c.in-Wait.is (variant_is_legal (legal_bodies variants) 2 _ c.known-in-Wait.ensures)
