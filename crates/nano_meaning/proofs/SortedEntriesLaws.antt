-- Entries in strict order: what is found in them, and that two lists which answer alike have the
-- same values.
use Rattle.std.specs.Prelude.{◌≡◌, Bool, true, false, cond, ◌&&◌, T, refl, List, [], ◌∷◌, ◌++◌, map}
use Rattle.std.specs.Prelude.{Some, None, ◌≢◌}
use Rattle.std.specs.List.{AllByRecursion}
use Rattle.std.specs.Option.{unwrap_or}
use Rattle.std.specs.declared.cmp.Ordering.{Ordering}
use Rattle.std.specs.declared.cmp.Ordering.TheVariants.{Less, Equal, Greater}
use Rattle.std.specs.Ordering.{is_lt, is_eq, eq_by_cmp, ordering_reverse}
use Rattle.std.specs.Cmp.{IsTotalOrder, tied_itself, Equal-is, alike_right}
use Rattle.std.specs.FinMap.Entries.{by_order, below_all, put, is_sorted}
use Rattle.std.specs.Map.{keys_of}
use Rattle.std.proofs.Common.{sym, ◌∙◌, ap}
use Rattle.std.specs.List.Sorted.{IsStrictlySortedBy}
use Rattle.std.specs.FinMap as table

pub first : (a b : Bool) → T (a && b) → T a
first true b p = tt
first false b p = p

pub second : (a b : Bool) → T (a && b) → T b
second true b p = p
second false b p = absurd p

pub less : (o : Ordering) → T (is_lt o) → o ≡ Less
less Less p = refl
less Equal p = absurd p
less Greater p = absurd p

pub equal : (r : Ordering) → is_eq r ≡ true → r ≡ Equal
equal r e = (Equal-is r).0 e

module _ {K X : Type 0} (R : K → K → Ordering) where
  strictly_below : (x : K) (es : List (K × X)) → T (below_all R x es)
      → AllByRecursion (λ y. R x y ≡ Less) (keys_of es)
  strictly_below x [] h = tt
  strictly_below x (e ∷ es) h = (less _ (first _ _ h), strictly_below x es (second _ _ h))

  pub strictly_sorted : (es : List (K × X)) → T (is_sorted R es) → IsStrictlySortedBy R (keys_of es)
  unfolding IsStrictlySortedBy
  strictly_sorted [] h = tt
  strictly_sorted (e ∷ es) h =
      (strictly_below e.0 es (first _ _ h), strictly_sorted es (second _ _ h))

module _ {K X : Type 0} {R : K → K → Ordering} (o : IsTotalOrder R) where
  below_less : (x y : K) (es : List (K × X)) → R x y ≡ Less → T (below_all R y es)
      → table.find R x es ≡ None
  below_less x y [] p h = refl
  below_less x y (e ∷ es) p h =
      let q : R x e.0 ≡ Less = o.trans x y e.0 p (less _ (first _ _ h)) in
      ap (λ r. cond (is_eq r) (Some e.1) (table.find R x es)) q ∙ below_less x y es p (second _ _ h)

  below_agreed : (x y : K) (es : List (K × X)) → R x y ≡ Equal → T (below_all R y es)
      → table.find R x es ≡ None
  below_agreed x y [] p h = refl
  below_agreed x y (e ∷ es) p h =
      let q : R x e.0 ≡ Less = o.congr x y e.0 p ∙ less _ (first _ _ h) in
      ap (λ r. cond (is_eq r) (Some e.1) (table.find R x es)) q
      ∙ below_agreed x y es p (second _ _ h)

  found_first : (e : K × X) (es : List (K × X)) → table.find R e.0 (e ∷ es) ≡ Some e.1
  found_first e es = ap (λ r. cond (is_eq r) (Some e.1) (table.find R e.0 es)) (tied_itself o e.0)

  missed : (e f : K × X) (es fs : List (K × X)) → R e.0 f.0 ≡ Less → T (below_all R f.0 fs)
      → table.find R e.0 (e ∷ es) ≢ table.find R e.0 (f ∷ fs)
  missed e f es fs p h is =
      let one = found_first e es in
      let two : table.find R e.0 (f ∷ fs) ≡ None =
      ap (λ r. cond (is_eq r) (Some f.1) (table.find R e.0 fs)) p ∙ below_less e.0 f.0 fs p h in
      cc

  tails : (e f : K × X) (es fs : List (K × X)) (q : K) → R e.0 f.0 ≡ Equal → T (below_all R e.0 es)
      → T (below_all R f.0 fs) → table.find R q (e ∷ es) ≡ table.find R q (f ∷ fs)
      → table.find R q es ≡ table.find R q fs
  tails e f es fs q p g h =
      let both : eq_by_cmp R q e.0 ≡ eq_by_cmp R q f.0 = ap is_eq (alike_right o e.0 f.0 q p) in
      elim (eq_by_cmp R q e.0) as (λ b. eq_by_cmp R q e.0 ≡ b
      → cond b (Some e.1) (table.find R q es) ≡ table.find R q (f ∷ fs)
      → table.find R q es ≡ table.find R q fs) [
        | true ↦ λ t is. below_agreed q e.0 es (equal _ t) g
            ∙ sym (below_agreed q f.0 fs (equal _ (sym both ∙ t)) h)
        | false ↦ λ t is. is ∙ ap (λ b. cond b (Some f.1) (table.find R q fs)) (sym both ∙ t)
      ] refl

  pub same_values : (es fs : List (K × X)) → T (is_sorted R es) → T (is_sorted R fs)
      → ((q : K) → table.find R q es ≡ table.find R q fs) → map (λ e. e.1) es ≡ map (λ e. e.1) fs
  same_values [] [] g h is = refl
  same_values [] (f ∷ fs) g h is = absurd (let one = found_first f fs in let two = is f.0 in cc)
  same_values (e ∷ es) [] g h is = absurd (let one = found_first e es in let two = is e.0 in cc)
  same_values (e ∷ es) (f ∷ fs) g h is =
      elim (R e.0 f.0) as (λ r. R e.0 f.0 ≡ r → map (λ x. x.1) (e ∷ es) ≡ map (λ x. x.1) (f ∷ fs)) [
        | Less ↦ λ p. absurd (missed e f es fs p (first _ _ h) (is e.0))
        | Greater ↦ λ p. absurd (missed f e fs es (o.antisymm f.0 e.0 ∙ ap ordering_reverse p)
            (first _ _ g) (sym (is f.0)))
        | Equal ↦ λ p.
            let at = sym (found_first e es)
            ∙ (is e.0 ∙ ap (λ r. cond (is_eq r) (Some f.1) (table.find R e.0 fs)) p) in
            let value : e.1 ≡ f.1 = ap (λ x. unwrap_or x e.1) at in
            let rest =
            same_values es fs (second _ _ g) (second _ _ h)
            (λ q. tails e f es fs q p (first _ _ g) (first _ _ h) (is q)) in
            λ i. value i ∷ rest i
      ] refl

  -- what holds of all that is found holds of each entry
  pub all_found : (L : K → X → Type 0) (es : List (K × X)) → T (is_sorted R es)
      → ((q : K) (v : X) → table.find R q es ≡ Some v → L q v) → AllByRecursion (λ e. L e.0 e.1) es
  all_found L [] g h = tt
  all_found L (e ∷ es) g h = (
    h e.0 e.1 (found_first e es),
    all_found L es (second _ _ g) (λ q v is. h q v (
        elim (eq_by_cmp R q e.0) as (λ b. eq_by_cmp R q e.0 ≡ b
        → cond b (Some e.1) (table.find R q es) ≡ Some v) [
          | true ↦ λ t. absurd (let none = below_agreed q e.0 es (equal _ t) (first _ _ g) in cc)
          | false ↦ λ t. is
        ] refl)),
  )

-- ---- an entry after all others

module _ {K X : Type 0} {R : K → K → Ordering} (o : IsTotalOrder R) where
  pub put_last : (k : K) (v : X) (es : List (K × X)) → AllByRecursion (λ e. R k e.0 ≡ Greater) es
      → put R k v es ≡ es ++ (k, v) ∷ []
  put_last k v [] h = refl
  put_last k v (e ∷ es) h =
      ap (λ r. by_order r ((k, v) ∷ e ∷ es) ((e.0, v) ∷ es) (e ∷ put R k v es)) h.0
      ∙ ap (λ l. e ∷ l) (put_last k v es h.1)

  below_later : (x : K) (ds : List (K × X)) (e : K × X) (es : List (K × X))
      → T (below_all R x (ds ++ e ∷ es)) → R x e.0 ≡ Less
  below_later x [] e es h = less _ (first _ _ h)
  below_later x (d ∷ ds) e es h = below_later x ds e es (second _ _ h)

  pub above_earlier : (ds : List (K × X)) (e : K × X) (es : List (K × X))
      → T (is_sorted R (ds ++ e ∷ es)) → AllByRecursion (λ d. R e.0 d.0 ≡ Greater) ds
  above_earlier [] e es h = tt
  above_earlier (d ∷ ds) e es h = (
    o.antisymm e.0 d.0 ∙ ap ordering_reverse (below_later d.0 ds e es (first _ _ h)),
    above_earlier ds e es (second _ _ h),
  )
