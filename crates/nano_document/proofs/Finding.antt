-- The last entry of a name, looked for from the end.
use Rattle.std.proofs.Common.{◌≡◌, ℕ, suc, ◌-◌, ◌<◌, ◌≤◌, List, [], ◌∷◌, ◌++◌, length, get_or, take, drop, String, Global, string_bytes, sym, ◌∙◌, ap, subst, arith}
use Rattle.std.proofs.Math.Seq.{drop-cons}
use Rattle.std.proofs.lemmas.List.{take-append-drop, drop_all}
use Rattle.std.proofs.lemmas.List.Elements.{All-nil, All-cons, All-head, All-tail}
use Rattle.nano_document.specs.Held.{HasNone, IsLast}
use Rattle.nano_document.specs.declared.json.Json.{Json}

-- the list from a place on begins with what was read there
drop_read : {A : Type 0} (xs : List A) (n : ℕ) (x : A) → n < length xs → x ≡ get_or xs n x → drop n xs ≡ x ∷ drop (suc n) xs
drop_read xs n x h is = drop-cons xs n x h ∙ ap (λ y. y ∷ drop (suc n) xs) (sym is)

module _ (IsName : List ℕ → Type 0) (es : List (String Global × Json)) where
  pub none_past : (n : ℕ) → length es ≤ n → HasNone IsName (drop n es)
  none_past n h = subst (HasNone IsName) (sym (drop_all n es h)) (All-nil _)

  pub none_more : (n : ℕ) (e : String Global × Json) → n < length es → e ≡ get_or es n e
      → (IsName (string_bytes e.0) → ⊥) → HasNone IsName (drop (suc n) es) → HasNone IsName (drop n es)
  none_more n e h is other rest =
      subst (HasNone IsName) (sym (drop_read es n e h is)) (All-cons (λ x. IsName (string_bytes x.0) → ⊥) e (drop (suc n) es) other rest)

  pub last_here : (n : ℕ) (e : String Global × Json) → n < length es → e ≡ get_or es n e
      → IsName (string_bytes e.0) → HasNone IsName (drop (suc n) es) → IsLast IsName es e.1
  last_here n e h is named rest = record {
    before = take n es;
    name = e.0;
    after = drop (suc n) es;
    stands = sym (take-append-drop n es) ∙ ap (λ ys. take n es ++ ys) (drop_read es n e h is);
    is_name = named;
    is_last = rest;
  }

  -- the same where the place is one below the end of the walk
  below_end : (end : ℕ) → 0 < end → suc (end - 1) ≡ end
  below_end end h = omega (arith, h)

  pub none_before : (end : ℕ) (e : String Global × Json) → 0 < end → end ≤ length es → e ≡ get_or es (end - 1) e
      → (IsName (string_bytes e.0) → ⊥) → HasNone IsName (drop end es) → HasNone IsName (drop (end - 1) es)
  none_before end e some h is other rest =
      none_more (end - 1) e (omega (arith, some, h)) is other
      (subst (λ n. HasNone IsName (drop n es)) (sym (below_end end some)) rest)

  pub last_before : (end : ℕ) (e : String Global × Json) → 0 < end → end ≤ length es → e ≡ get_or es (end - 1) e
      → IsName (string_bytes e.0) → HasNone IsName (drop end es) → IsLast IsName es e.1
  last_before end e some h is named rest =
      last_here (end - 1) e (omega (arith, some, h)) is named
      (subst (λ n. HasNone IsName (drop n es)) (sym (below_end end some)) rest)

-- ---- one entry is the last

module _ (IsName : List ℕ → Type 0) where
  none_has : (before after : List (String Global × Json)) (name : String Global) (x : Json)
      → HasNone IsName (before ++ (name, x) ∷ after) → IsName (string_bytes name) → ⊥
  none_has [] after name x h named = All-head (λ e. IsName (string_bytes e.0) → ⊥) (name, x) after h named
  none_has (e ∷ before) after name x h named =
      none_has before after name x (All-tail (λ e. IsName (string_bytes e.0) → ⊥) e (before ++ (name, x) ∷ after) h) named

  one_at : (before others after more : List (String Global × Json)) (m n : String Global) (x y : Json)
      → before ++ (m, x) ∷ after ≡ others ++ (n, y) ∷ more → IsName (string_bytes m) → IsName (string_bytes n)
      → HasNone IsName after → HasNone IsName more → x ≡ y
  one_at [] [] after more m n x y e hm hn none nothing =
      let head : (m, x) ≡ (n, y) = cc in
      ap (λ (p : String Global × Json). p.1) head
  one_at [] (f ∷ others) after more m n x y e hm hn none nothing =
      let tail : after ≡ others ++ (n, y) ∷ more = cc in
      absurd (none_has others more n y (subst (HasNone IsName) tail none) hn)
  one_at (f ∷ before) [] after more m n x y e hm hn none nothing =
      let tail : before ++ (m, x) ∷ after ≡ more = cc in
      absurd (none_has before after m x (subst (HasNone IsName) (sym tail) nothing) hm)
  one_at (f ∷ before) (h ∷ others) after more m n x y e hm hn none nothing =
      let tail : before ++ (m, x) ∷ after ≡ others ++ (n, y) ∷ more = cc in
      one_at before others after more m n x y tail hm hn none nothing

  pub one_last : (es : List (String Global × Json)) (x y : Json) → IsLast IsName es x → IsLast IsName es y → x ≡ y
  one_last es x y h k =
      one_at h.before k.before h.after k.after h.name k.name x y (sym h.stands ∙ k.stands) h.is_name k.is_name h.is_last k.is_last

  pub no_last_of_none : (es : List (String Global × Json)) (x : Json) → HasNone IsName es → IsLast IsName es x → ⊥
  no_last_of_none es x none h = none_has h.before h.after h.name x (subst (HasNone IsName) h.stands none) h.is_name

  none_of_nothing : (before after : List (String Global × Json)) (e : String Global × Json) → [] ≡ before ++ e ∷ after → ⊥
  none_of_nothing [] after e h = absurd (cc h)
  none_of_nothing (f ∷ before) after e h = absurd (cc h)

  pub no_last : (es : List (String Global × Json)) (x : Json) → es ≡ [] → IsLast IsName es x → ⊥
  no_last es x none h = none_of_nothing h.before h.after (h.name, x) (sym none ∙ h.stands)
