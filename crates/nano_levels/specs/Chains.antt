-- How many levels may follow.
use Rattle.std.specs.Prelude.{ℕ, suc, List, [], ◌∷◌}
use Rattle.nano_levels.specs.declared.levels.Levels.{Levels}
use Rattle.nano_levels.specs.declared.levels.Levels.TheOpen.{Levels-F}
use Rattle.nano_levels.specs.declared.levels.Levels.TheFolds.{fold-Levels}

-- one more than the first has
abbrev pub one_more : List ℕ → ℕ
one_more [] = 0
one_more (n ∷ ns) = suc n

abbrev pub left_step : Levels-F ℕ → ℕ
left_step Levels-F.Out = 0
left_step (Levels-F.More below) = one_more below.now

abbrev pub left : Levels → ℕ
left = fold-Levels ℕ left_step
