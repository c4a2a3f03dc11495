-- What is reported where there are more levels than a limit.
use Rattle.std.specs.Prelude.{◌++◌, ℕ, List, codes, decimal}

-- the message of the error
abbrev pub levels_message : ℕ → List ℕ
levels_message limit =
    codes "Value out of range " ++ ((codes "levels>" ++ decimal limit) ++ codes " ")
