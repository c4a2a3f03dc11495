-- What a reader of one field knows of the tokens that it takes.
use Rattle.std.proofs.Common.{◌≡◌, ℕ, List, [], ◌∷◌, refl, ap, sym, ◌∙◌, subst, Bool, true, false}
use Rattle.std.proofs.Common.{not, bytes_eq}
use Rattle.std.proofs.lemmas.Bool.{not-false, not-true, or_parts, true≢false, and_parts}
use Rattle.std.specs.Prelude.{◌++◌}
use Rattle.std.specs.List.{AllByRecursion, list_all}
use Rattle.std.proofs.lemmas.Slice.Eq.{bytes_eq-Decides}
use Rattle.nano_grammar.specs.Tokens.{At, Leaves, Spans, Cutting}
use Rattle.nano_grammar.specs.Faults.{AreTokens}
use Rattle.nano_grammar.proofs.TokensLaws.{leaves_append, CutLaws}
use Rattle.nano_grammar.proofs.FaultLaws.{LeadsTo, first_token}
use Rattle.nano_grammar.specs.Codec.{Grammar, Encoding}
use Rattle.nano_grammar.specs.Fields.{FieldStyle, EncodedField, EncodedNamed, either}
use Rattle.nano_grammar.specs.Fields.{is_known_name, are_distinct, Differs, AreDistinct}
use Rattle.nano_grammar.specs.Variants.{Variants}
use Rattle.nano_grammar.specs.Choices.{Rest, no_more, more, before, stands_alone, is_named}
use Rattle.nano_text.proofs.LaneMasks.{all_split}

module _ {T : Type 0} {c : Cutting T} {g : Grammar T} (s : FieldStyle c g) (r : CutLaws c g) where
  -- a name and a colon
  abbrev pub Head : List ℕ → List T
  Head name = s.name name ∷ (s.pair.token ∷ [])

  -- a token and a colon
  abbrev pub Head_of : T → List T
  Head_of t = t ∷ (s.pair.token ∷ [])

  -- the pending token and a colon were taken
  abbrev pub HeadTaken : At T → At T → Type 0
  HeadTaken start following = Leaves c.cut (start.token ∷ (s.pair.token ∷ [])) start following

  -- ---- a name, a colon and a value

  module _ {A : Type 0} (name : List ℕ) (S : List T → A → Type 0) where
    pub named_found : (start following end : At T) (x : A) → start.token ≡ s.name name
        → HeadTaken start following → Spans c.cut S following end x
        → Spans c.cut (EncodedNamed s name S) start end x
    named_found start following end x e l v = (
      s.name name ∷ (s.pair.token ∷ v.0),
      (v.0, refl, v.1),
      leaves_append c.cut (Head name) v.0 start following end (sym e, l.1) v.2,
    )

    pub colon_leads : (pending : T)
        → LeadsTo (EncodedNamed s name S) (AreTokens (pending ∷ (s.pair.token ∷ []))) [] pending
    colon_leads pending us after rest next x e is =
        let f = first_token e.0 next after in
        let whole = ap (λ (xs : List T). xs ++ next ∷ after) (sym e.1) ∙ is in
        let left : s.pair.token ∷ (e.0 ++ next ∷ after) ≡ rest = cc whole in (
          Head_of pending,
          tt,
          f.0,
          f.1,
          refl,
          ap (λ (xs : List T). pending ∷ (s.pair.token ∷ xs)) (sym f.2)
              ∙ ap (λ (xs : List T). pending ∷ xs) left,
        )

    pub value_leads : (name_token pending : T) → LeadsTo (EncodedNamed s name S) S (Head_of name_token) pending
    value_leads name_token pending us after rest next x e is =
        let whole = ap (λ (xs : List T). xs ++ next ∷ after) (sym e.1) ∙ is in
        let left : e.0 ++ next ∷ after ≡ pending ∷ rest = cc whole in
        (e.0, x, next, after, e.2, left)

  -- ---- a name and a colon that were taken, and the value after them

  module _ (name : List ℕ) (takes : List ℕ → List T → Type 0) where
    pub field_after : (here following end : At T) (us : List T)
        → Leaves c.cut (Head name) here following → takes name us → Leaves c.cut us following end
        → Spans c.cut (EncodedField s takes) here end (record { name = name; value = us })
    field_after here following end us l t k = (
      s.name name ∷ (s.pair.token ∷ us),
      (refl, t),
      leaves_append c.cut (Head name) us here following end l k,
    )

    abbrev Value : List T → Unit {0} → Type 0
    Value us x = takes name us

    pub field_after_leads : (pending : T) → LeadsTo (EncodedField s takes) Value (Head name) pending
    field_after_leads pending us after rest next f h is =
        let whole = ap (λ (xs : List T). xs ++ next ∷ after) (sym h.0) ∙ is in
        let first : s.name f.name ≡ s.name name = cc whole in
        let same = s.injective f.name name first in
        let left : f.value ++ next ∷ after ≡ pending ∷ rest = cc whole in
        (f.value, tt, next, after, subst (λ (n : List ℕ). takes n f.value) same h.1, left)

-- ==== known names

-- one fact or the other, where it is known which
module _ (b : Bool) (p q : Type 0) where
  pub to_first : b ≡ true → p → either b p q
  to_first e h = subst (λ c. either c p q) (sym e) h

  pub to_second : b ≡ false → q → either b p q
  to_second e h = subst (λ c. either c p q) (sym e) h

  pub first_of : b ≡ true → either b p q → p
  first_of e h = subst (λ c. either c p q) e h

  pub second_of : b ≡ false → either b p q → q
  second_of e h = subst (λ c. either c p q) e h

-- where a test for another name fails, the name is this one
pub is_this_name : (xs ys name label : List ℕ) (unequal : Bool) → xs ≡ name → ys ≡ label → unequal ≡ not (bytes_eq xs ys)
    → unequal ≡ false → bytes_eq name label ≡ true
is_this_name xs ys name label unequal x y is e =
    ap (λ (l : List ℕ). bytes_eq l label) (sym x) ∙ (ap (bytes_eq xs) (sym y) ∙ not-false (bytes_eq xs ys) (sym is ∙ e))

-- and where it succeeds, it is another one
pub other_name : (xs ys name label : List ℕ) (unequal : Bool) → xs ≡ name → ys ≡ label → unequal ≡ not (bytes_eq xs ys)
    → unequal ≡ true → bytes_eq name label ≡ false
other_name xs ys name label unequal x y is e =
    ap (λ (l : List ℕ). bytes_eq l label) (sym x) ∙ (ap (bytes_eq xs) (sym y) ∙ not-true (bytes_eq xs ys) (sym is ∙ e))

-- ==== unknown names

module _ {T : Type 0} {g : Grammar T} (rest : Rest g) (first : List ℕ)
    (others : Variants (Encoding g)) (stood : Bool) (name : List ℕ) where
  unknown_parts : is_known_name (before rest first others) stood name ≡ false
      → (is_named stood (stands_alone rest) name first ≡ false)
      × (is_known_name others stood name ≡ false)
  unknown_parts e =
      elim rest as (λ r. is_known_name (before r first others) stood name ≡ false
      → (is_named stood (stands_alone r) name first ≡ false)
      × (is_known_name others stood name ≡ false)) [
        | no_more ↦ λ e. or_parts (is_named stood true name first) (is_known_name others stood name) e
        | more content ↦ λ e. or_parts (is_named stood false name first) (is_known_name others stood name) e
      ] e

  -- it is not that of the first
  pub first_unknown : is_named stood (stands_alone rest) name first ≡ true
      → is_known_name (before rest first others) stood name ≡ false → ⊥
  first_unknown named unknown = true≢false (sym named ∙ (unknown_parts unknown).0)

  -- and not that of a later one
  pub later_unknown : is_known_name (before rest first others) stood name ≡ false
      → is_known_name others stood name ≡ false
  later_unknown unknown = (unknown_parts unknown).1

-- ==== names

-- names of one list and of another: none stands twice in either, and none of the second in the
-- first
pub record AreApart (xs ys : List (List ℕ)) : Type 0 where
  pub first : AreDistinct xs
  pub second : AreDistinct ys
  pub across : AllByRecursion (λ y. AllByRecursion (Differs y) xs) ys

-- ---- the laws of it

pub same_name : (name : List ℕ) → bytes_eq name name ≡ true
same_name name = (bytes_eq-Decides name name).1 refl

pub all_join : {A : Type 0} (P Q R : A → Type 0) → ((x : A) → P x → Q x → R x) → (xs : List A)
    → AllByRecursion P xs → AllByRecursion Q xs → AllByRecursion R xs
all_join P Q R join [] h k = tt
all_join P Q R join (x ∷ xs) h k = (join x h.0 k.0, all_join P Q R join xs h.1 k.1)

each_differs : (name : List ℕ) (names : List (List ℕ))
    → list_all (λ other. not (bytes_eq other name)) names ≡ true
    → AllByRecursion (λ other. Differs other name) names
each_differs name [] h = tt
each_differs name (other ∷ names) h =
    let rest = list_all (λ o. not (bytes_eq o name)) names in
    let first = and_parts (not (bytes_eq other name)) rest h in
    (not-true (bytes_eq other name) first.0, each_differs name names first.1)

pub distinct_names : (names : List (List ℕ)) → are_distinct names ≡ true → AreDistinct names
distinct_names [] h = tt
distinct_names (name ∷ names) h =
    let rest = list_all (λ other. not (bytes_eq other name)) names in
    let first = and_parts rest (are_distinct names) h in
    (each_differs name names first.0, distinct_names names first.1)

nothing_differs : (ys : List (List ℕ)) → AllByRecursion (λ y. Unit {0}) ys
nothing_differs [] = tt
nothing_differs (y ∷ ys) = (tt, nothing_differs ys)

pub distinct_apart : (xs ys : List (List ℕ)) → AreDistinct (xs ++ ys) → AreApart xs ys
distinct_apart [] ys h = record { first = tt; second = h; across = nothing_differs ys }
distinct_apart (x ∷ xs) ys h =
    let here = all_split (λ other. Differs other x) xs ys h.0 in
    let rest = distinct_apart xs ys h.1 in
    let Apart = λ (y : List ℕ). AllByRecursion (Differs y) xs in
    let Across = λ (y : List ℕ). AllByRecursion (Differs y) (x ∷ xs) in
    record {
      first = (here.0, rest.first);
      second = rest.second;
      across = all_join (λ y. Differs y x) Apart Across (λ y d e. (d, e)) ys here.1 rest.across;
    }
