-- What a value means and how deep it is, step by step from what its parts mean and how deep these
-- are: the same as the layers say.
use Rattle.std.specs.Prelude.{◌≡◌, ℕ, max, refl, List, [], ◌∷◌, map, Option, Some, None}
use Rattle.std.specs.declared.cmp.Ordering.{Ordering}
use Rattle.std.proofs.Common.{ap, sym, ◌∙◌, arith}
use Rattle.nano_value.specs.Meaning.{Meaning, listed, paired}
use Rattle.nano_value.specs.Ordered.{ordered_map_means}
use Rattle.nano_levels.specs.Layers.{greatest}
use Rattle.nano_levels.proofs.EntriesLaws.{ordered_map_means-values}

module _ {A B C : Type 0} (s : B → C) (g : A → B) (m : A → C)
    (same : (x : A) → s (g x) ≡ m x) where
  pub map_steps : (xs : List A) → map s (map g xs) ≡ map m xs
  map_steps [] = refl
  map_steps (x ∷ xs) = λ i. same x i ∷ map_steps xs i

-- ---- lists

pub list_means : {A B : Type 0} (s : B → Meaning) (g : A → B) (m : A → Meaning)
    → ((x : A) → s (g x) ≡ m x) → (xs : List A) → listed (map s (map g xs)) ≡ listed (map m xs)
list_means s g m same xs = ap listed (map_steps s g m same xs)

pub list_depth : {A B : Type 0} (s : B → ℕ) (g : A → B) (d : A → ℕ)
    → ((x : A) → s (g x) ≡ d x) → (xs : List A) → greatest (map s (map g xs)) ≡ greatest (map d xs)
list_depth s g d same xs = ap greatest (map_steps s g d same xs)

-- ---- maps

pub map_means : {K A B : Type 0} (c : K → K → Ordering) (k : K → Meaning) (s : B → Meaning)
    (g : K × A → K × B) (m : A → Meaning)
    → ((e : K × A) → ◌≡◌ {A = K × Meaning} ((g e).0, s (g e).1) (e.0, m e.1))
    → (es : List (K × A)) → ordered_map_means c k s (map g es) ≡ ordered_map_means c k m es
map_means c k s g m same es =
    sym (ordered_map_means-values k s c (map g es))
    ∙ (ap (ordered_map_means c k (λ x. x))
    (map_steps (λ e. (e.0, s e.1)) g (λ e. (e.0, m e.1)) same es)
    ∙ ordered_map_means-values k m c es)

-- ---- options

-- what holds where there is none, and where there is some
pub by_option : {A : Type 0} (P : Option A → Type 0) → P None → ((x : A) → P (Some x))
    → (x : Option A) → P x
by_option P none some None = none
by_option P none some (Some x) = some x

-- ---- pairs

pub pair_means : {a b c d : Meaning} → a ≡ b → c ≡ d → paired (a, c) ≡ paired (b, d)
pair_means e f = λ i. paired (e i, f i)

pub pair_depth : {a b c d : ℕ} → a ≡ b → c ≡ d → max a c ≡ max b d
pair_depth e f = λ i. max (e i) (f i)

-- what holds no values of the type before what does
pub later_depth : {a b : ℕ} → a ≡ b → a ≡ max 0 b
later_depth e = omega (arith, e)
