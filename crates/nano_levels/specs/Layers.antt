-- A type that contains itself, by one layer of it.
use Rattle.std.specs.Prelude.{◌≡◌, ◌<◌, ◌≤◌, ℕ, max, List, [], ◌∷◌}
use Rattle.nano_value.specs.Meaning.{Meaning}
use Rattle.nano_grammar.specs.Tokens.{Cutting}
use Rattle.nano_grammar.specs.Codec.{Grammar}
use Rattle.nano_grammar.specs.Codec.{Codec}

-- the greatest of numbers, 0 of none
abbrev pub greatest : List ℕ → ℕ
greatest [] = 0
greatest (n ∷ ns) = max n (greatest ns)

-- values of one type inside those of another: the codec of the outer ones, given that of the inner
-- ones; what holds of all inner ones; what an outer one means, and the least number above those of
-- the inner ones. What holds of outer values hangs on the inner ones alone
pub record Layer {T : Type 0} (c : Cutting T) (g : Grammar T) (A B : Type 0) : Type 1 where
  pub codec : Codec c g A → Codec c g B
  pub All : (A → Type 0) → B → Type 0
  pub means : (A → Meaning) → B → Meaning
  pub deep : (A → ℕ) → B → ℕ
  pub weaker : (P Q : A → Type 0) → ((y : A) → P y → Q y) → (x : B) → All P x → All Q x
  pub less : (d : A → ℕ) (x : B) → All (λ y. d y < deep d x) x
  pub most : (d : A → ℕ) (n : ℕ) (x : B) → All (λ y. d y < n) x → deep d x ≤ n
  pub means_is : (f : Codec c g A) (x : B)
      → (codec f).canonical.means x ≡ means f.canonical.means x
  pub means_same : (m n : A → Meaning) (x : B) → All (λ y. m y ≡ n y) x → means m x ≡ means n x
  pub text_same : (f h : Codec c g A) (x : B)
      → All (λ y. (d : ℕ) → f.canonical.text d y ≡ h.canonical.text d y) x
      → (d : ℕ) → (codec f).canonical.text d x ≡ (codec h).canonical.text d x
  pub tokens_same : (f h : Codec c g A) (x : B)
      → All (λ y. f.canonical.tokens y ≡ h.canonical.tokens y) x
      → (codec f).canonical.tokens x ≡ (codec h).canonical.tokens x
  pub sound_same : (f h : Codec c g A) (x : B)
      → All (λ y. f.canonical.tokens y ≡ h.canonical.tokens y) x
      → All (λ y. f.sound y → h.sound y) x → (codec f).sound x → (codec h).sound x
  pub legal_parts : (f : Codec c g A) (m : A → Meaning) (x : B)
      → (codec f).encoding.legal (means m x) → All (λ y. f.encoding.legal (m y)) x
  pub legal_same : (f h : Codec c g A) (m : A → Meaning) (x : B)
      → All (λ y. f.encoding.legal (m y) → h.encoding.legal (m y)) x
      → (codec f).encoding.legal (means m x) → (codec h).encoding.legal (means m x)

-- a type whose values are seen as holding values of the type itself, with what they mean and how
-- deep they are
pub record Nested {T : Type 0} (c : Cutting T) (g : Grammar T) (A : Type 0) : Type 1 where
  pub Seen : Type 0
  pub layer : Layer c g A Seen
  pub view : A → Seen
  pub means : A → Meaning
  pub depth : A → ℕ
  pub means_is : (x : A) → means x ≡ layer.means means (view x)
  pub depth_is : (x : A) → depth x ≡ layer.deep depth (view x)
