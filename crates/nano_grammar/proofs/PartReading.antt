-- Reading parts one after the other, whatever the tokens are: where all are read, and what each
-- leads to.
use Rattle.std.proofs.Common.{◌≡◌, ◌≢◌, ℕ, List, [], ◌∷◌, ◌++◌, ◌⊎◌, inl, inr, refl, ap, sym, ◌∙◌}
use Rattle.std.proofs.Common.{subst, append_assoc}
use Rattle.nano_grammar.specs.Tokens.{At, Leaves, Spans, NoneBeginsAnother}
use Rattle.nano_grammar.specs.Faults.{AreTokens}
use Rattle.nano_grammar.specs.Items.{ListPunctuation, EncodedPair}
use Rattle.nano_grammar.specs.Tuples.{EncodedLast, EncodedAfter}
use Rattle.nano_grammar.proofs.TokensLaws.{leaves_append}
use Rattle.nano_grammar.proofs.ItemLaws.{same_prefix}
use Rattle.nano_grammar.proofs.FaultLaws.{LeadsTo, first_token}

-- ---- a part, a token and another part

module _ {T A B : Type 0} (punctuator : T)
    (first : List T → A → Type 0) (apart : NoneBeginsAnother first)
    (second : List T → B → Type 0) where
  pub pair_found : (cut : List ℕ → T → List ℕ → Type 0) (s m k e : At T) (x : A) (y : B)
      → Spans cut first s m x → Leaves cut (punctuator ∷ []) m k → Spans cut second k e y
      → Spans cut (EncodedPair punctuator first second) s e (x, y)
  pair_found cut s m k e x y a l b = (
    a.0 ++ punctuator ∷ b.0,
    (a.0, b.0, refl, a.1, b.1),
    leaves_append cut a.0 (punctuator ∷ b.0) s m e a.2 (leaves_append cut (punctuator ∷ []) b.0 m k e l b.2),
  )

  pub first_leads : (pending : T) → LeadsTo (EncodedPair punctuator first second) first [] pending
  first_leads pending us more rest next v e is =
      let joined = append_assoc e.0 (punctuator ∷ e.1) (next ∷ more) in
      let whole = sym joined ∙ (ap (λ (xs : List T). xs ++ next ∷ more) (sym e.2) ∙ is) in
      (e.0, v.0, punctuator, e.1 ++ next ∷ more, e.3, whole)

  -- after the first part the token and the second part are left
  after_first : (a : List T) (x : A) → first a x → (us more rest : List T) (next : T) (v : A × B)
      → (e : EncodedPair punctuator first second us v) → us ++ next ∷ more ≡ a ++ rest
      → punctuator ∷ (e.1 ++ next ∷ more) ≡ rest
  after_first a x h us more rest next v e is =
      let joined = append_assoc e.0 (punctuator ∷ e.1) (next ∷ more) in
      let whole = sym joined ∙ (ap (λ (xs : List T). xs ++ next ∷ more) (sym e.2) ∙ is) in
      (same_prefix first apart e.0 (punctuator ∷ (e.1 ++ next ∷ more)) a rest v.0 x e.3 h whole).1

  pub punctuator_leads : (a : List T) (x : A) → first a x → (pending : T)
      → LeadsTo (EncodedPair punctuator first second) (AreTokens (punctuator ∷ [])) a pending
  punctuator_leads a x h pending us more rest next v e is =
      let left = after_first a x h us more (pending ∷ rest) next v e is in
      let f = first_token e.1 next more in
      (punctuator ∷ [], tt, f.0, f.1, refl, ap (λ (xs : List T). punctuator ∷ xs) (sym f.2) ∙ left)

  pub second_leads : (a : List T) (x : A) → first a x → (pending : T)
      → LeadsTo (EncodedPair punctuator first second) second (a ++ punctuator ∷ []) pending
  second_leads a x h pending us more rest next v e is =
      let joined = append_assoc a (punctuator ∷ []) (pending ∷ rest) in
      let left = after_first a x h us more (punctuator ∷ (pending ∷ rest)) next v e (is ∙ joined) in
      let second_left : e.1 ++ next ∷ more ≡ pending ∷ rest = cc left in
      (e.1, v.1, next, more, e.4, second_left)

-- ---- a token, and what is after it

module _ {T V : Type 0} (token : T) (encodes : List T → V → Type 0) where
  pub after_found : (cut : List ℕ → T → List ℕ → Type 0) (s m e : At T) (v : V)
      → Leaves cut (token ∷ []) s m → Spans cut encodes m e v → Spans cut (EncodedAfter token encodes) s e v
  after_found cut s m e v l i =
      (token ∷ i.0, (i.0, refl, i.1), leaves_append cut (token ∷ []) i.0 s m e l i.2)

  pub token_leads : (pending : T)
      → LeadsTo (EncodedAfter token encodes) (AreTokens (token ∷ [])) [] pending
  token_leads pending us more rest next v e is =
      let f = first_token e.0 next more in
      let whole = ap (λ (xs : List T). xs ++ next ∷ more) (sym e.1) ∙ is in
      (token ∷ [], tt, f.0, f.1, refl, ap (λ (xs : List T). token ∷ xs) (sym f.2) ∙ whole)

  pub after_leads : (pending : T) → LeadsTo (EncodedAfter token encodes) encodes (token ∷ []) pending
  after_leads pending us more rest next v e is =
      let whole = ap (λ (xs : List T). xs ++ next ∷ more) (sym e.1) ∙ is in
      let inside : e.0 ++ next ∷ more ≡ pending ∷ rest = cc whole in
      (e.0, v, next, more, e.2, inside)

-- ---- the last part, optionally a comma, and the closing bracket

-- what comes after a part: a comma, which is taken, or the closing bracket, which is not taken
abbrev pub CommaTaken : {T : Type 0} → (List ℕ → T → List ℕ → Type 0) → ListPunctuation T → At T → At T
    → Type 0
CommaTaken cut punctuation following next =
    Leaves cut (punctuation.comma ∷ []) following next ⊎ ((following.token ≡ punctuation.closing) × (next ≡ following))

module _ {T V : Type 0} (punctuation : ListPunctuation T)
    (apart : punctuation.closing ≢ punctuation.comma) (encodes : List T → V → Type 0)
    (none_begins : NoneBeginsAnother encodes) where
  pub last_found : (cut : List ℕ → T → List ℕ → Type 0) (s m k e : At T) (v : V) → Spans cut encodes s m v
      → CommaTaken cut punctuation m k → Leaves cut (punctuation.closing ∷ []) k e
      → Spans cut (EncodedLast punctuation encodes) s e v
  last_found cut s m k e v i (inl l) c = (
    i.0 ++ punctuation.comma ∷ punctuation.closing ∷ [],
    (i.0, punctuation.comma ∷ punctuation.closing ∷ [], refl, i.1, inr (punctuation.closing ∷ [], refl, refl)),
    leaves_append cut i.0 (punctuation.comma ∷ punctuation.closing ∷ []) s m e i.2 (leaves_append cut (punctuation.comma ∷ []) (punctuation.closing ∷ []) m k e l c),
  )
  last_found cut s m k e v i (inr p) c = (
    i.0 ++ punctuation.closing ∷ [],
    (i.0, punctuation.closing ∷ [], refl, i.1, inl (refl, refl)),
    leaves_append cut i.0 (punctuation.closing ∷ []) s m e i.2 (subst (λ (z : At T). Leaves cut (punctuation.closing ∷ []) z e) p.1 c),
  )

  pub last_leads : (pending : T) → LeadsTo (EncodedLast punctuation encodes) encodes [] pending
  last_leads pending us more rest next v e is =
      let f = first_token e.1 next more in
      let joined = append_assoc e.0 e.1 (next ∷ more) in
      let whole = sym joined ∙ (ap (λ (xs : List T). xs ++ next ∷ more) (sym e.2) ∙ is) in
      (e.0, v, f.0, f.1, e.3, ap (λ (xs : List T). e.0 ++ xs) (sym f.2) ∙ whole)

  -- what is left after the part
  after_last : (a : List T) (x : V) → encodes a x → (us more rest : List T) (next : T) (v : V)
      → (e : EncodedLast punctuation encodes us v) → us ++ next ∷ more ≡ a ++ rest
      → e.1 ++ next ∷ more ≡ rest
  after_last a x h us more rest next v e is =
      let joined = append_assoc e.0 e.1 (next ∷ more) in
      let whole = sym joined ∙ (ap (λ (xs : List T). xs ++ next ∷ more) (sym e.2) ∙ is) in
      (same_prefix encodes none_begins e.0 (e.1 ++ next ∷ more) a rest v x e.3 h whole).1

  pub last_comma_leads : (a : List T) (x : V) → encodes a x → (pending : T) → pending ≢ punctuation.closing
      → LeadsTo (EncodedLast punctuation encodes) (AreTokens (punctuation.comma ∷ [])) a pending
  last_comma_leads a x h pending other us more rest next v e is =
      let left = after_last a x h us more (pending ∷ rest) next v e is in
      elim e.4 [
        | inl p ↦
            let whole = ap (λ (xs : List T). xs ++ next ∷ more) (sym p.0) ∙ left in
            let same : punctuation.closing ≡ pending = cc whole in
            absurd (other (sym same))
        | inr p ↦
            let f = first_token p.0 next more in
            let whole = ap (λ (xs : List T). xs ++ next ∷ more) (sym p.1) ∙ left in (
              punctuation.comma ∷ [],
              tt,
              f.0,
              f.1,
              refl,
              ap (λ (xs : List T). punctuation.comma ∷ xs) (sym f.2) ∙ whole,
            )
      ]

  -- after the part, or after the comma
  pub last_closing_leads : (a : List T) (x : V) → encodes a x → (pending : T) → pending ≡ punctuation.closing
      → LeadsTo (EncodedLast punctuation encodes) (AreTokens (punctuation.closing ∷ [])) a pending
  last_closing_leads a x h pending closes us more rest next v e is =
      let left = after_last a x h us more (pending ∷ rest) next v e is in
      elim e.4 [
        | inl p ↦ (e.1, tt, next, more, p.0, left)
        | inr p ↦
            let whole = ap (λ (xs : List T). xs ++ next ∷ more) (sym p.1) ∙ left in
            let same : punctuation.comma ≡ pending = cc whole in
            absurd (apart (sym (same ∙ closes)))
      ]

  pub comma_closing_leads : (a : List T) (x : V) → encodes a x → (pending : T)
      → LeadsTo (EncodedLast punctuation encodes) (AreTokens (punctuation.closing ∷ []))
      (a ++ punctuation.comma ∷ []) pending
  comma_closing_leads a x h pending us more rest next v e is =
      let joined = append_assoc a (punctuation.comma ∷ []) (pending ∷ rest) in
      let left = after_last a x h us more (punctuation.comma ∷ (pending ∷ rest)) next v e (is ∙ joined) in
      elim e.4 [
        | inl p ↦
            let whole = ap (λ (xs : List T). xs ++ next ∷ more) (sym p.0) ∙ left in
            let same : punctuation.closing ≡ punctuation.comma = cc whole in
            absurd (apart same)
        | inr p ↦
            let whole = ap (λ (xs : List T). xs ++ next ∷ more) (sym p.1) ∙ left in
            let inside : p.0 ++ next ∷ more ≡ pending ∷ rest = cc whole in
            (p.0, tt, next, more, p.2, inside)
      ]
