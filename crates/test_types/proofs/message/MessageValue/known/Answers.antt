use Rattle.std.proofs.Common.{inl, inr, refl, [], ◌∷◌}
use Rattle.nano_value.specs.Meaning.{LegalUnit, whole, nothing}
use Rattle.nano_meaning.proofs.MeaningLaws.{pair_is_legal, array_is_legal, image_of}
use Rattle.nano_value.specs.Sums.{tagged}
use Rattle.test_types.proofs.message.MessageValue.known.Goals as goal

pub returns-in-Hello : goal.returns-in-Hello
returns-in-Hello c = rw c.in-Hello.is (inl (image_of (tagged 0) LegalUnit nothing refl))

pub returns-in-Move : goal.returns-in-Move
returns-in-Move c =
    let legal = pair_is_legal _ _ _ _ c.known.ensures c.known-in-Move.ensures in
    rw c.in-Move.is (inr (inl (image_of (tagged 1) _ _ legal)))

pub returns-in-Wait : goal.returns-in-Wait
returns-in-Wait c =
    let count = c.in-Wait.time ∷ [] in
    rw c.in-Wait.is (inr (inr (inl (image_of (tagged 2) _ _
    (array_is_legal whole _ 1 count refl (c.known-in-Wait.ensures, tt))))))

pub returns-in-Say : goal.returns-in-Say
returns-in-Say c =
    let legal = pair_is_legal _ _ _ _ c.known-in-Say.ensures c.known-in-Say-2.ensures in
    rw c.in-Say.is (inr (inr (inr (inl (image_of (tagged 3) _ _ legal)))))
