-- Reading a list, whatever the tokens are: what is known at the head of the loop, and at its exits.
use Rattle.std.proofs.Common.{◌≡◌, ◌≢◌, ℕ, List, [], ◌∷◌, ◌++◌, ◌⊎◌, inl, inr, refl, ap, sym, ◌∙◌}
use Rattle.std.proofs.Common.{subst, append_assoc}
use Rattle.nano_grammar.specs.Tokens.{At, Leaves, Spans}
use Rattle.nano_grammar.specs.Faults.{AreTokens}
use Rattle.nano_grammar.specs.Items.{ListPunctuation, EncodedItems, EncodedList, ApartInList}
use Rattle.nano_grammar.proofs.ItemLaws.{EncodedAfter, NeverStartsWith, EndsAt, same_item, ends_divided}
use Rattle.nano_grammar.proofs.TokensLaws.{leaves_append}
use Rattle.nano_grammar.proofs.FaultLaws.{LeadsTo, first_token}

-- whatever list begins with these tokens and then the pending one, tokens like these are left after
-- them
pub record StillLeft {T V : Type 0} (punctuation : ListPunctuation T) (encodes : List T → V → Type 0)
    (rest : List T → List V → Type 0) (prefix : List T) (pending : T) : Type 0 where
  pub all : (us left more : List T) (next : T) (vs : List V) → EncodedList punctuation encodes us vs
      → us ++ next ∷ left ≡ prefix ++ pending ∷ more
      → (back : List T) × (ws : List V) × rest back ws × (back ++ next ∷ left ≡ pending ∷ more)

-- what the tokens taken so far encode: with the closing bracket after them a list, and with
-- more items too, where no closing bracket is pending; and what is left of each list
pub record SoFar {T V : Type 0} (cut : List ℕ → T → List ℕ → Type 0) (punctuation : ListPunctuation T)
    (encodes : List T → V → Type 0) (start here : At T) (out : List V) : Type 0 where
  pub prefix : List T
  pub taken : Leaves cut prefix start here
  pub closed : (back : List T) → back ≡ punctuation.closing ∷ []
      → EncodedList punctuation encodes (prefix ++ back) out
  pub going : here.token ≢ punctuation.closing → (back : List T) (vs : List V)
      → EncodedItems punctuation encodes back vs → EncodedList punctuation encodes (prefix ++ back) (out ++ vs)
  pub still : StillLeft punctuation encodes (EncodedItems punctuation encodes) prefix here.token

module _ {T V : Type 0} (cut : List ℕ → T → List ℕ → Type 0)
    (punctuation : ListPunctuation T) (apart : punctuation.closing ≢ punctuation.comma)
    (encodes : List T → V → Type 0) (in_list : ApartInList punctuation encodes)
    (never_closing : NeverStartsWith punctuation.closing encodes) where
  abbrev ListSoFar : At T → At T → List V → Type 0
  ListSoFar start here out = SoFar cut punctuation encodes start here out

  abbrev ItemsLeft : List T → T → Type 0
  ItemsLeft prefix pending = StillLeft punctuation encodes (EncodedItems punctuation encodes) prefix pending

  abbrev AfterLeft : List T → T → Type 0
  AfterLeft prefix pending = StillLeft punctuation encodes (EncodedAfter punctuation encodes) prefix pending

  -- ---- once the opening bracket is taken

  start_left : (pending : T) → ItemsLeft (punctuation.opening ∷ []) pending
  start_left pending = record {
    all = λ us left more next vs e is.
        let whole = ap (λ (xs : List T). xs ++ next ∷ left) (sym e.1) ∙ is in
        let rest : e.0 ++ next ∷ left ≡ pending ∷ more = cc whole in
        (e.0, vs, e.2, rest);
  }

  pub start_so_far : (start here : At T) → Leaves cut (punctuation.opening ∷ []) start here
      → ListSoFar start here []
  start_so_far start here h = record {
    prefix = punctuation.opening ∷ [];
    taken = h;
    closed = λ back e. (back, refl, e);
    going = λ n back vs k. (back, refl, k);
    still = start_left here.token;
  }

  -- ---- once an item is read, and what comes after it

  -- no item begins with a closing bracket
  not_closing : (a x y : List T) (v : V) → encodes a v → a ++ x ≡ punctuation.closing ∷ y → ⊥
  not_closing [] x y v h e = never_closing [] v h
  not_closing (t ∷ a) x y v h e =
      let first : t ≡ punctuation.closing = cc e in
      never_closing (t ∷ a) v h first

  -- an item begins with the pending token
  item_first : (i : List T) (s m : At T) (v : V) → encodes i v → Leaves cut i s m
      → (inside : List T) × (i ≡ s.token ∷ inside)
  item_first [] s m v e l = absurd (never_closing [] v e)
  item_first (t ∷ i) s m v e l = (i, ap (λ (x : T). x ∷ i) l.0)

  -- what is left after items that are left: where no closing bracket is pending, the first of them
  first_left : (back left more : List T) (pending next : T) (ws : List V)
      → pending ≢ punctuation.closing → EncodedItems punctuation encodes back ws
      → back ++ next ∷ left ≡ pending ∷ more
      → (a : List T) × (w : V) × (b : List T) × (vs : List V) × encodes a w
      × EncodedAfter punctuation encodes b vs × (a ++ (b ++ next ∷ left) ≡ pending ∷ more)
  first_left back left more pending next [] n h is =
      let whole = ap (λ (xs : List T). xs ++ next ∷ left) (sym h) ∙ is in
      let same : punctuation.closing ≡ pending = cc whole in
      absurd (n (sym same))
  first_left back left more pending next (w ∷ ws) n h is =
      let joined = append_assoc h.0 h.1 (next ∷ left) in
      let whole = sym joined ∙ (ap (λ (xs : List T). xs ++ next ∷ left) (sym h.2) ∙ is) in
      (h.0, w, h.1, ws, h.3, h.4, whole)

  -- once an item is read, what comes after it is left
  pub item_left : (s m : At T) (prefix i : List T) (v : V) → ItemsLeft prefix s.token
      → s.token ≢ punctuation.closing → encodes i v → Leaves cut i s m → EndsAt encodes i m.token
      → AfterLeft (prefix ++ i) m.token
  item_left s m prefix i v h n e l ends = record {
    all = λ us left more next vs k is.
        let begins = item_first i s m v e l in
        let tail = m.token ∷ more in
        let starts : i ++ tail ≡ s.token ∷ (begins.0 ++ tail) = ap (λ (xs : List T). xs ++ tail) begins.1 in
        let joined = append_assoc prefix i tail in
        let there = joined ∙ ap (λ (xs : List T). prefix ++ xs) starts in
        let r = h.all us left (begins.0 ++ tail) next vs k (is ∙ there) in
        let f = first_left r.0 left (begins.0 ++ tail) s.token next r.1 n r.2 r.3 in
        let same =
        same_item punctuation encodes in_list f.0 f.2 (next ∷ left) i more m.token f.3 f.1 v f.4 f.5 e ends
        (f.6 ∙ sym starts) in
        (f.2, f.3, f.5, same.1);
  }

  last_left : (prefix : List T) (pending : T) → AfterLeft prefix pending → pending ≡ punctuation.closing
      → ItemsLeft prefix pending
  last_left prefix pending h c = record {
    all = λ us left more next vs e is.
        let r = h.all us left more next vs e is in
        elim r.2 [
          | inl p ↦ (r.0, [], p.0, r.3)
          | inr p ↦
              let whole = ap (λ (xs : List T). xs ++ next ∷ left) (sym p.1) ∙ r.3 in
              let same : punctuation.comma ≡ pending = cc whole in
              absurd (apart (sym (same ∙ c)))
        ];
  }

  comma_left : (prefix : List T) (pending after : T) → AfterLeft prefix pending → pending ≡ punctuation.comma
      → ItemsLeft (prefix ++ punctuation.comma ∷ []) after
  comma_left prefix pending after h c = record {
    all = λ us left more next vs e is.
        let joined = append_assoc prefix (punctuation.comma ∷ []) (after ∷ more) in
        let there = joined ∙ ap (λ (t : T). prefix ++ t ∷ (after ∷ more)) (sym c) in
        let r = h.all us left (after ∷ more) next vs e (is ∙ there) in
        elim r.2 [
          | inl p ↦
              let whole = ap (λ (xs : List T). xs ++ next ∷ left) (sym p.0) ∙ (r.3 ∙ ap (λ (t : T). t ∷ (after ∷ more)) c) in
              let same : punctuation.closing ≡ punctuation.comma = cc whole in
              absurd (apart same)
          | inr p ↦
              let whole = ap (λ (xs : List T). xs ++ next ∷ left) (sym p.1) ∙ (r.3 ∙ ap (λ (t : T). t ∷ (after ∷ more)) c) in
              let rest : p.0 ++ next ∷ left ≡ after ∷ more = cc whole in
              (p.0, r.1, p.2, rest)
        ];
  }

  last_so_far : (start s m : At T) (out : List V) (v : V) → ListSoFar start s out
      → s.token ≢ punctuation.closing → Spans cut encodes s m v
      → m.token ≡ punctuation.closing → ListSoFar start m (out ++ v ∷ [])
  last_so_far start s m out v h n i c = record {
    prefix = h.prefix ++ i.0;
    taken = leaves_append cut h.prefix i.0 start s m h.taken i.2;
    closed =
        λ back e. subst (λ (xs : List T). EncodedList punctuation encodes xs (out ++ v ∷ [])) (sym (append_assoc h.prefix i.0 back))
        (h.going n (i.0 ++ back) (v ∷ []) (i.0, back, refl, i.1, inl (e, refl)));
    going = λ other. absurd (other c);
    still = last_left (h.prefix ++ i.0) m.token (item_left s m h.prefix i.0 v h.still n i.1 i.2
        (ends_divided punctuation encodes in_list i.0 v i.1 m.token (inr c))) c;
  }

  comma_so_far : (start s m k : At T) (out : List V) (v : V) → ListSoFar start s out
      → s.token ≢ punctuation.closing → Spans cut encodes s m v
      → Leaves cut (punctuation.comma ∷ []) m k → ListSoFar start k (out ++ v ∷ [])
  comma_so_far start s m k out v h n i c =
      let join : (back : List T) → ((h.prefix ++ i.0) ++ punctuation.comma ∷ []) ++ back ≡ h.prefix ++ (i.0 ++ punctuation.comma ∷ back) = λ back.
      append_assoc (h.prefix ++ i.0) (punctuation.comma ∷ []) back ∙ append_assoc h.prefix i.0 (punctuation.comma ∷ back) in
      record {
        prefix = (h.prefix ++ i.0) ++ punctuation.comma ∷ [];
        taken =
            leaves_append cut (h.prefix ++ i.0) (punctuation.comma ∷ []) start m k
            (leaves_append cut h.prefix i.0 start s m h.taken i.2) c;
        closed =
            λ back e. subst (λ (xs : List T). EncodedList punctuation encodes xs (out ++ v ∷ [])) (sym (join back))
            (h.going n (i.0 ++ punctuation.comma ∷ back) (v ∷ []) (i.0, punctuation.comma ∷ back, refl, i.1, inr (back, refl, e)));
        going =
            λ other back vs l. subst (λ (xs : List T). EncodedList punctuation encodes xs ((out ++ v ∷ []) ++ vs)) (sym (join back))
            (subst (λ (ws : List V). EncodedList punctuation encodes (h.prefix ++ (i.0 ++ punctuation.comma ∷ back)) ws) (sym (append_assoc out (v ∷ []) vs))
            (h.going n (i.0 ++ punctuation.comma ∷ back) (v ∷ vs) (i.0, punctuation.comma ∷ back, refl, i.1, inr (back, refl, l))));
        still =
            comma_left (h.prefix ++ i.0) m.token k.token (item_left s m h.prefix i.0 v h.still n i.1 i.2
            (ends_divided punctuation encodes in_list i.0 v i.1 m.token (inl (sym c.0)))) (sym c.0);
      }

  pub next_so_far : (start s m k : At T) (out : List V) (v : V) → ListSoFar start s out
      → s.token ≢ punctuation.closing → Spans cut encodes s m v
      → ((m.token ≡ punctuation.closing) × (k ≡ m)) ⊎ Leaves cut (punctuation.comma ∷ []) m k → ListSoFar start k (out ++ v ∷ [])
  next_so_far start s m k out v h n i (inl p) =
      subst (λ (x : At T). ListSoFar start x (out ++ v ∷ [])) (sym p.1) (last_so_far start s m out v h n i p.0)
  next_so_far start s m k out v h n i (inr l) = comma_so_far start s m k out v h n i l

  -- ---- what a list leads to: the opening bracket, an item, a comma or the closing bracket

  pub opening_leads : (pending : T)
      → LeadsTo (EncodedList punctuation encodes) (AreTokens (punctuation.opening ∷ [])) [] pending
  opening_leads pending us more rest next vs e is =
      let f = first_token e.0 next more in
      let whole = ap (λ (xs : List T). xs ++ next ∷ more) (sym e.1) ∙ is in
      let first : punctuation.opening ∷ (e.0 ++ next ∷ more) ≡ pending ∷ rest = whole in
      (punctuation.opening ∷ [], tt, f.0, f.1, refl, ap (λ (xs : List T). punctuation.opening ∷ xs) (sym f.2) ∙ first)

  pub item_leads : (start here : At T) (out : List V) (h : ListSoFar start here out)
      → here.token ≢ punctuation.closing
      → LeadsTo (EncodedList punctuation encodes) encodes h.prefix here.token
  item_leads start here out h n us more rest next vs e is =
      let r = h.still.all us more rest next vs e is in
      let k = first_left r.0 more rest here.token next r.1 n r.2 r.3 in
      let f = first_token k.2 next more in
      (k.0, k.1, f.0, f.1, k.4, ap (λ (xs : List T). k.0 ++ xs) (sym f.2) ∙ k.6)

  pub comma_leads : (prefix : List T) (pending : T) → AfterLeft prefix pending
      → pending ≢ punctuation.closing
      → LeadsTo (EncodedList punctuation encodes) (AreTokens (punctuation.comma ∷ [])) prefix pending
  comma_leads prefix pending h n us more rest next vs e is =
      let r = h.all us more rest next vs e is in
      elim r.2 [
        | inl p ↦
            let whole = ap (λ (xs : List T). xs ++ next ∷ more) (sym p.0) ∙ r.3 in
            let same : punctuation.closing ≡ pending = cc whole in
            absurd (n (sym same))
        | inr p ↦
            let f = first_token p.0 next more in
            let whole = ap (λ (xs : List T). xs ++ next ∷ more) (sym p.1) ∙ r.3 in (
              punctuation.comma ∷ [],
              tt,
              f.0,
              f.1,
              refl,
              ap (λ (xs : List T). punctuation.comma ∷ xs) (sym f.2) ∙ whole,
            )
      ]

  -- where a closing bracket is pending, no item is left
  only_closing : (back left more : List T) (pending next : T) (ws : List V)
      → pending ≡ punctuation.closing → EncodedItems punctuation encodes back ws
      → back ++ next ∷ left ≡ pending ∷ more → back ≡ punctuation.closing ∷ []
  only_closing back left more pending next [] c h is = h
  only_closing back left more pending next (w ∷ ws) c h is =
      let joined = append_assoc h.0 h.1 (next ∷ left) in
      let whole = sym joined ∙ (ap (λ (xs : List T). xs ++ next ∷ left) (sym h.2) ∙ is) in
      absurd (not_closing h.0 (h.1 ++ next ∷ left) more w h.3 (whole ∙ ap (λ (t : T). t ∷ more) c))

  pub closing_leads : (start here : At T) (out : List V) (h : ListSoFar start here out)
      → here.token ≡ punctuation.closing
      → LeadsTo (EncodedList punctuation encodes) (AreTokens (punctuation.closing ∷ [])) h.prefix here.token
  closing_leads start here out h c us more rest next vs e is =
      let r = h.still.all us more rest next vs e is in
      (r.0, tt, next, more, only_closing r.0 more rest here.token next r.1 c r.2 r.3, r.3)

  -- ---- once the closing bracket is taken, the list is read

  pub close_found : (start s e : At T) (out : List V) → ListSoFar start s out
      → Leaves cut (punctuation.closing ∷ []) s e → Spans cut (EncodedList punctuation encodes) start e out
  close_found start s e out h k =
      (h.prefix ++ punctuation.closing ∷ [], h.closed (punctuation.closing ∷ []) refl, leaves_append cut h.prefix (punctuation.closing ∷ []) start s e h.taken k)
