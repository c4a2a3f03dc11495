-- What outer values hold of inner ones, whatever the outer ones mean and however they are encoded.
use Rattle.std.specs.Prelude.{◌<◌, ◌≤◌, ℕ}

-- what holds of all inner ones, and the least number above those of the inner ones
pub record Inside (A B : Type 0) : Type 1 where
  pub All : (A → Type 0) → B → Type 0
  pub deep : (A → ℕ) → B → ℕ
  pub weaker : (P Q : A → Type 0) → ((y : A) → P y → Q y) → (x : B) → All P x → All Q x
  pub less : (d : A → ℕ) (x : B) → All (λ y. d y < deep d x) x
  pub most : (d : A → ℕ) (n : ℕ) (x : B) → All (λ y. d y < n) x → deep d x ≤ n
