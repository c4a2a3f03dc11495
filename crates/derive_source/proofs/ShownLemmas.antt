-- What several writes write, one after the other.
use Rattle.std.proofs.Common.{◌≡◌, ℕ, List, [], ◌∷◌, ◌++◌, Option, Result, Ok, Err, OnOk, map, refl, ap}
use Rattle.std.proofs.KnownBytes.{Appends-trans}
use Rattle.std.specs.Io.KnownBytes.{Appends}

pub itself : (xs : List ℕ) → map (λ x. x) xs ≡ xs
itself [] = refl
itself (x ∷ xs) = ap (λ l. x ∷ l) (itself xs)

-- a write after what was written
pub then_writes : {T E : Type 0} (r : Result T E) (a b c : Option (List ℕ)) (xs ys : List ℕ) → Appends a b xs
    → OnOk r (Appends b c ys) → OnOk r (Appends a c (xs ++ ys))
then_writes (Ok x) a b c xs ys h k = Appends-trans a b c xs ys h k
then_writes (Err x) a b c xs ys h k = tt
