use Rattle.std.proofs.Common.{refl}
use Rattle.nano_levels.proofs.ChainsLaws.{left_out, up}
use Rattle.nano_levels.proofs.levels.Levels.most.Goals as goal

-- one step for each link
pub returns : goal.returns
returns c =
    up _ refl (up _ refl (up _ refl (up _ refl (up _ refl (up _ refl (up _ refl (up _ refl (
    up _ refl (up _ refl (up _ refl (up _ refl (up _ refl (up _ refl (up _ refl (up _ refl (
    up _ refl (up _ refl (up _ refl (up _ refl (up _ refl (up _ refl (up _ refl (up _ refl (
    up _ refl (up _ refl (up _ refl (up _ refl (up _ refl (up _ refl (up _ refl (up _ refl (
    up _ refl (up _ refl (up _ refl (up _ refl (up _ refl (up _ refl (up _ refl (up _ refl (
    up _ refl (up _ refl (up _ refl (up _ refl (up _ refl (up _ refl (up _ refl (up _ refl (
    up _ refl (up _ refl (up _ refl (up _ refl (up _ refl (up _ refl (up _ refl (up _ refl (
    up _ refl (up _ refl (up _ refl (up _ refl (up _ refl (up _ refl (up _ refl (up _ refl (
    up _ refl (up _ refl (up _ refl (up _ refl (up _ refl (up _ refl (up _ refl (up _ refl (
    up _ refl (up _ refl (up _ refl (up _ refl (up _ refl (up _ refl (up _ refl (up _ refl (
    up _ refl (up _ refl (up _ refl (up _ refl (up _ refl (up _ refl (up _ refl (up _ refl (
    up _ refl (up _ refl (up _ refl (up _ refl (up _ refl (up _ refl (up _ refl (up _ refl (
    up _ refl (up _ refl (up _ refl (up _ refl (up _ refl (up _ refl (up _ refl (up _ refl (
    up _ refl (up _ refl (up _ refl (up _ refl (up _ refl (up _ refl (up _ refl (up _ refl (
    up _ refl (up _ refl (up _ refl (up _ refl (up _ refl (up _ refl (up _ refl (up _ refl (
    up _ refl (up _ refl (up _ refl (up _ refl (up _ refl (up _ refl (up _ refl (up _ refl (
    left_out
    ))))))))))))))))))))))))))))))))))))))))))))))))))))))))))))))))
    ))))))))))))))))))))))))))))))))))))))))))))))))))))))))))))))))
