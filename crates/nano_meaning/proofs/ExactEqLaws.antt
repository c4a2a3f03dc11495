-- Where `==` of hashed sets and maps is true of exactly those that mean the same.
use Rattle.std.specs.Prelude.{◌≡◌, ◌⊎◌, Bool, true, false, cond, ◌||◌, refl, List, [], ◌∷◌}
use Rattle.std.specs.Prelude.{map, Option, Some, None}
use Rattle.std.specs.Bool.{Decides, one_answer}
use Rattle.std.specs.Cmp.{IsEquivalence, first_so, second_so}
use Rattle.std.specs.HashMap.{HashMap, get, hash_map_eq}
use Rattle.std.specs.HashMap.Eq.{get_from_hash_map_eq, hash_map_eq_from_get}
use Rattle.std.specs.HashSet.{hash_set_eq}
use Rattle.std.specs.List.{IsDistinct, list_all, list_any}
use Rattle.std.specs.Map.{keys_of, lookup}
use Rattle.std.specs.Option.{option_map, option_eq}
use Rattle.std.specs.FinMap as table
use Rattle.std.proofs.Common.{ap, sym, ◌∙◌, inl, inr, true≢false}
use Rattle.std.proofs.lemmas.Bool.{and_from}
use Rattle.nano_meaning.specs.Meaning.{Meaning, optional, pair_map, EqAgrees}
use Rattle.nano_meaning.specs.Sets.{marked, item_set, set_means}
use Rattle.nano_meaning.specs.Tables.{table_of, table_means}
use Rattle.nano_meaning.proofs.MeaningLaws.{both_injective}
use Rattle.nano_meaning.proofs.ExactLaws.{options_tell}
use Rattle.nano_meaning.proofs.OrderLaws.{meaning_cmp-total, meaning_cmp-antisymmetric}
use Rattle.nano_meaning.proofs.OrderLaws.{same_meaning, same_meaning-decides}
use Rattle.nano_meaning.proofs.SetsLaws.{set_means-injective}
use Rattle.nano_meaning.proofs.TablesLaws.{last, get-last_values, get-table_of, get_key}
use Rattle.nano_meaning.proofs.TablesLaws.{table_means-injective}

-- ==== sets

-- what a set has at an item
abbrev present : Bool → Option (Unit {0})
present b = cond b (Some tt) None

either_way : (a b : Bool) (o : Option (Unit {0}))
    → cond b (Some tt) (cond a (Some tt) o) ≡ cond (a || b) (Some tt) o
either_way true true o = refl
either_way true false o = refl
either_way false b o = refl

same_truth : (a b : Bool) → (a ≡ true → b ≡ true) → (b ≡ true → a ≡ true) → a ≡ b
same_truth true b f g = sym (f refl)
same_truth false true f g = g refl
same_truth false false f g = refl

present_injective : (a b : Bool) → present a ≡ present b → a ≡ b
present_injective true true e = refl
present_injective false false e = refl
present_injective true false e = absurd (cc)
present_injective false true e = absurd (cc)

from_either : {P : Type 0} (a b : Bool) → (a || b) ≡ true → (a ≡ true → P) → (b ≡ true → P) → P
from_either true b e f g = f refl
from_either false b e f g = g e

later : (a b : Bool) → b ≡ true → (a || b) ≡ true
later true b e = refl
later false b e = e

module _ {K : Type 0} (f : K → Meaning) where
  -- whether one of the items means this
  abbrev any_means : Meaning → List K → Bool
  any_means q ks = list_any (λ k. same_meaning q (f k)) ks

  last_marked : (q : Meaning) (ks : List K) (o : Option (Unit {0}))
      → last q (map (pair_map f (λ u. u)) (marked ks)) o ≡ cond (any_means q ks) (Some tt) o
  last_marked q [] o = refl
  last_marked q (k ∷ ks) o = last_marked q ks (cond (same_meaning q (f k)) (Some tt) o)
      ∙ either_way (same_meaning q (f k)) (any_means q ks) o

  get-item_set : (q : Meaning) (ks : List K)
      → table.get (item_set f ks) q ≡ present (any_means q ks)
  get-item_set q ks = get-last_values (map (pair_map f (λ u. u)) (marked ks)) q
      ∙ last_marked q ks None

  module _ (E : K → K → Bool) (exact : EqAgrees E f) where
    any_key : (k : K) (ks : List K) → any_means (f k) ks ≡ list_any (E k) ks
    any_key k [] = refl
    any_key k (x ∷ ks) =
        let head = one_answer (same_meaning (f k) (f x)) (E k x) (same_meaning-decides (f k) (f x))
        (exact k x) in
        λ i. head i || any_key k ks i

    -- what one of the items means, one of the others means, where those have each item
    among_others : (xs ys : List K) → list_all (λ k. list_any (E k) ys) xs ≡ true → (q : Meaning)
        → any_means q xs ≡ true → any_means q ys ≡ true
    among_others [] ys h q e = absurd (true≢false (sym e))
    among_others (x ∷ xs) ys h q e =
        from_either (same_meaning q (f x)) (any_means q xs) e
        (λ s. ap (λ m. any_means m ys) ((same_meaning-decides q (f x)).0 s)
        ∙ (any_key x ys ∙ first_so (list_any (E x) ys) _ h))
        (λ s. among_others xs ys (second_so (list_any (E x) ys) _ h) q s)

    has_each : (xs ys : List K) → ((q : Meaning) → any_means q xs ≡ true → any_means q ys ≡ true)
        → list_all (λ k. list_any (E k) ys) xs ≡ true
    has_each [] ys h = refl
    has_each (x ∷ xs) ys h =
        let itself = (same_meaning-decides (f x) (f x)).1 refl in
        and_from _ _ (sym (any_key x ys)
        ∙ h (f x) (ap (λ b. b || any_means (f x) xs) itself))
        (has_each xs ys (λ q s. h q (later (same_meaning q (f x)) (any_means q xs) s)))

    -- `==` of hashed sets agrees with what they mean
    pub hashed_sets_tell : {S : Type 0}
        → EqAgrees (hash_set_eq {S = S} E) (λ x. set_means (item_set f x.keys))
    hashed_sets_tell x y = (
      λ e. ap set_means (table.same_map meaning_cmp-total meaning_cmp-antisymmetric
          (item_set f x.keys) (item_set f y.keys) (λ q. get-item_set q x.keys
          ∙ (ap present (same_truth (any_means q x.keys) (any_means q y.keys)
          (among_others x.keys y.keys (first_so _ _ e) q)
          (among_others y.keys x.keys
          (second_so (list_all (λ k. list_any (E k) y.keys) x.keys) _ e) q))
          ∙ sym (get-item_set q y.keys)))),
      λ e.
          let sets = set_means-injective (item_set f x.keys) (item_set f y.keys) e in
          let same : (q : Meaning) → any_means q x.keys ≡ any_means q y.keys = λ q.
          present_injective _ _ (sym (get-item_set q x.keys)
          ∙ (ap (λ t. table.get t q) sets ∙ get-item_set q y.keys)) in
          and_from _ _ (has_each x.keys y.keys (λ q s. sym (same q) ∙ s))
          (has_each y.keys x.keys (λ q s. same q ∙ s)),
    )

-- ==== maps

optional_injective : (x y : Option Meaning) → optional x ≡ optional y → x ≡ y
optional_injective None None e = refl
optional_injective None (Some y) e = absurd (cc)
optional_injective (Some x) None e = absurd (cc)
optional_injective (Some x) (Some y) e = ap (λ m. Some m) (both_injective _ _ _ _ e).0

values_tell : {V : Type 0} (g : V → Meaning) (test : V → V → Bool) → EqAgrees test g
    → (x y : Option V) → Decides (option_eq test x y) (option_map g x ≡ option_map g y)
values_tell g test agrees x y = (
  λ e. optional_injective _ _ ((options_tell g test agrees x y).0 e),
  λ e. (options_tell g test agrees x y).1 (ap optional e),
)

module _ {K V : Type 0} (f : K → Meaning) (g : V → Meaning) where
  -- no key means this, or one does
  at_key : (q : Meaning) (es : List (K × V))
      → (lookup (λ k. same_meaning q (f k)) es ≡ None) ⊎ ((k : K) × (q ≡ f k))
  at_key q [] = inl refl
  at_key q (e ∷ es) = here (same_meaning q (f e.0)) refl (at_key q es)
    where
      here : (b : Bool) → same_meaning q (f e.0) ≡ b
          → (lookup (λ k. same_meaning q (f k)) es ≡ None) ⊎ ((k : K) × (q ≡ f k))
          → (cond (same_meaning q (f e.0)) (Some e.1) (lookup (λ k. same_meaning q (f k)) es)
          ≡ None) ⊎ ((k : K) × (q ≡ f k))
      here true s r = inr (e.0, (same_meaning-decides q (f e.0)).0 s)
      here false s (inl n) =
          inl (ap (λ b. cond b (Some e.1) (lookup (λ k. same_meaning q (f k)) es)) s ∙ n)
      here false s (inr k) = inr k

  module _ (E : K → K → Bool) (exact : EqAgrees E f) (xs ys : List (K × V))
      (one : IsDistinct E (keys_of xs)) (other : IsDistinct E (keys_of ys)) where
    same_at : (q : Meaning) → ((k : K) → option_map g (lookup (E k) xs)
        ≡ option_map g (lookup (E k) ys))
        → (lookup (λ k. same_meaning q (f k)) xs ≡ None) ⊎ ((k : K) × (q ≡ f k))
        → (lookup (λ k. same_meaning q (f k)) ys ≡ None) ⊎ ((k : K) × (q ≡ f k))
        → table.get (table_of f g xs) q ≡ table.get (table_of f g ys) q
    same_at q h (inr k) r = at k h
      where
        at : ((k : K) × (q ≡ f k)) → ((k : K) → option_map g (lookup (E k) xs)
            ≡ option_map g (lookup (E k) ys))
            → table.get (table_of f g xs) q ≡ table.get (table_of f g ys) q
        at k h = ap (table.get (table_of f g xs)) k.1 ∙ (get_key f g E exact xs k.0 one
            ∙ (h k.0 ∙ (sym (get_key f g E exact ys k.0 other)
            ∙ ap (table.get (table_of f g ys)) (sym k.1))))
    same_at q h (inl n) (inr k) = ap (table.get (table_of f g xs)) k.1
        ∙ (get_key f g E exact xs k.0 one ∙ (h k.0 ∙ (sym (get_key f g E exact ys k.0 other)
        ∙ ap (table.get (table_of f g ys)) (sym k.1))))
    same_at q h (inl n) (inl m) = get-table_of f g E exact xs q one
        ∙ (ap (option_map g) (n ∙ sym m) ∙ sym (get-table_of f g E exact ys q other))

-- `==` of hash maps in which no two keys are equal agrees with what they mean
pub hash_maps_tell : {K V S : Type 0} (f : K → Meaning) (E : K → K → Bool) (g : V → Meaning)
    (test : V → V → Bool) → IsEquivalence E → EqAgrees E f → EqAgrees test g
    → (x y : HashMap K V S) → IsDistinct E (keys_of x.entries) → IsDistinct E (keys_of y.entries)
    → Decides (hash_map_eq E test x y)
    (table_means (table_of f g x.entries) ≡ table_means (table_of f g y.entries))
hash_maps_tell f E g test laws exact agrees x y one other = (
  λ e. ap table_means (table.same_map meaning_cmp-total meaning_cmp-antisymmetric
      (table_of f g x.entries) (table_of f g y.entries)
      (λ q. same_at f g E exact x.entries y.entries one other q
      (λ k. (values_tell g test agrees (get E x k) (get E y k)).0
      (get_from_hash_map_eq E test laws x y e k))
      (at_key f g q x.entries) (at_key f g q y.entries))),
  λ e.
      let tables = table_means-injective (table_of f g x.entries) (table_of f g y.entries) e in
      hash_map_eq_from_get E test x y (λ k. (values_tell g test agrees (get E x k) (get E y k)).1
      (sym (get_key f g E exact x.entries k one) ∙ (ap (λ t. table.get t (f k)) tables
      ∙ get_key f g E exact y.entries k other))),
)
