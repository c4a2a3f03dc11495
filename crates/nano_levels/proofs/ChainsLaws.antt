-- What is proved of Chains.
use Rattle.std.proofs.Common.{◌≡◌, ℕ, suc, List, [], ◌∷◌, Bor, ap, ◌∙◌, rules, map, refl, Some, None}
use Rattle.std.specs.List.{slice_get}
use Rattle.nano_levels.specs.declared.levels.Levels.{Levels, Out, More, the_lemmas}
use Rattle.nano_levels.specs.Chains.{left, one_more}

pub left_out : left Out ≡ 0
left_out = search (rules, the_lemmas)

pub left_more : (below : Bor (List Levels)) → left (More below) ≡ one_more (map left below.now)
left_more below = search (rules, the_lemmas)

-- one more than the first of those below has
pub up : (below : Bor (List Levels)) {x : Levels} {n : ℕ} → below.now ≡ x ∷ [] → left x ≡ n
    → left (More below) ≡ suc n
up below is h = left_more below ∙ (ap (λ xs. one_more (map left xs)) is ∙ ap suc h)

-- ---- one level down

first_more : (xs : List Levels) (x : Levels) → Some x ≡ slice_get xs 0
    → one_more (map left xs) ≡ suc (left x)
first_more [] x e = absurd (cc e)
first_more (y ∷ ys) x e = let same : y ≡ x = cc e in ap (λ z. suc (left z)) same

none_more : (xs : List Levels) → None ≡ slice_get xs 0 → one_more (map left xs) ≡ 0
none_more [] e = refl
none_more (y ∷ ys) e = absurd (cc e)

pub left_below : (below : Bor (List Levels)) (x : Levels) → Some x ≡ slice_get below.now 0
    → left (More below) ≡ suc (left x)
left_below below x e = left_more below ∙ first_more below.now x e

pub none_below : (below : Bor (List Levels)) → None ≡ slice_get below.now 0
    → left (More below) ≡ 0
none_below below e = left_more below ∙ none_more below.now e
