-- Tokens from an opening bracket to the one that closes it, over any tokens.
use Rattle.std.specs.Prelude.{◌≡◌, ◌≢◌, ◌⊎◌, ℕ, List, [], ◌∷◌, ◌++◌, sum_by}
use Rattle.std.specs.List.{AllByRecursion}

-- how many opening brackets a token is, and how many closing ones
module _ {T : Type 0} (opens closes : T → ℕ) (end : T) where
  -- an opening bracket first, as many closing as opening brackets in all, and in no shorter
  -- prefix but the empty one; the end nowhere
  pub record IsBracketed (ts : List T) : Type 0 where
    pub first : T
    pub following : List T
    pub are : ts ≡ first ∷ following
    pub opening : opens first ≡ 1
    pub even : sum_by opens ts ≡ sum_by closes ts
    pub shortest : (prefix back : List T) → ts ≡ prefix ++ back
        → sum_by opens prefix ≡ sum_by closes prefix → (prefix ≡ []) ⊎ (back ≡ [])
    pub no_end : AllByRecursion (λ t. t ≢ end) ts

  -- brackets with all between them, which stand for no value
  abbrev pub Brackets : List T → Unit {0} → Type 0
  Brackets ts value = IsBracketed ts
