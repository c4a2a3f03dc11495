-- The laws of items between brackets and of pairs, from those of what is in them.
use Rattle.std.specs.Prelude.{◌≡◌, ◌⊎◌, List, [], ◌∷◌, ◌≢◌, ◌++◌, refl}
use Rattle.std.specs.List.{AllByRecursion}
use Rattle.std.proofs.Common.{sym, ◌∙◌, ap, subst, inl, inr, append_assoc, append-nil}
use Rattle.nano_grammar.specs.Items.{ListPunctuation, StartsOtherwise, EncodedItems, OneValue}
use Rattle.nano_grammar.specs.Items.{EncodedList, EncodedPair, ApartInList}
use Rattle.nano_grammar.specs.Tokens.{NoneBeginsAnother}

-- ==== items

-- what comes after an item: the closing bracket, or a comma and the items that are left
abbrev pub EncodedAfter : {T V : Type 0} → ListPunctuation T → (List T → V → Type 0) → List T
    → List V → Type 0
EncodedAfter {T} punctuation encodes back vs =
    ((back ≡ punctuation.closing ∷ []) × (vs ≡ []))
    ⊎ ((more : List T) × (back ≡ punctuation.comma ∷ more)
    × EncodedItems punctuation encodes more vs)

-- every encoding has a first token, and it is another
abbrev pub NeverStartsWith : {T V : Type 0} → T → (List T → V → Type 0) → Type 0
NeverStartsWith {T} {V} t encodes =
    (ts : List T) (v : V) → encodes ts v → StartsOtherwise t ts

-- no encoding goes on from this one with that token
abbrev pub EndsAt : {T V : Type 0} → (List T → V → Type 0) → List T → T → Type 0
EndsAt {T} {V} encodes ts t = (more : List T) (v : V) → encodes (ts ++ t ∷ more) v → ⊥

-- ==== item

module _ {T : Type 0} where
  -- what comes after a list and makes it no longer is empty
  pub nothing_after : (ts more : List T) → ts ++ more ≡ ts → more ≡ []
  nothing_after [] more e = e
  nothing_after (t ∷ ts) more e =
      let rest : ts ++ more ≡ ts = cc e in
      nothing_after ts more rest

  -- of two prefixes of one list, one goes on where the other ends
  pub append_meets : (a x b y : List T) → a ++ x ≡ b ++ y
      → ((c : List T) × (b ≡ a ++ c)) ⊎ ((c : List T) × (a ≡ b ++ c))
  append_meets [] x b y e = inl (b, refl)
  append_meets (t ∷ a) x [] y e = inr (t ∷ a, refl)
  append_meets (t ∷ a) x (u ∷ b) y e =
      let head : t ≡ u = cc e in
      let rest : a ++ x ≡ b ++ y = cc e in
      elim (append_meets a x b y rest) [
        | inl r ↦ inl (r.0, cc (head, r.1))
        | inr r ↦ inr (r.0, cc (head, r.1))
      ]

  cancel_prefix : (a x y : List T) → a ++ x ≡ a ++ y → x ≡ y
  cancel_prefix [] x y e = e
  cancel_prefix (t ∷ a) x y e =
      let rest : a ++ x ≡ a ++ y = cc e in
      cancel_prefix a x y rest

  -- what is encoded by a list that goes on from another is encoded by that other alone
  same_from : {V : Type 0} (encodes : List T → V → Type 0) → NoneBeginsAnother encodes
      → (a b more : List T) (v w : V) → encodes a v → encodes b w → b ≡ a ++ more → b ≡ a
  same_from encodes none_begins a b more v w h k e =
      let whole = subst (λ (xs : List T). encodes xs w) e k in
      let none = none_begins a more v w h whole in
      e ∙ (ap (λ (xs : List T). a ++ xs) none ∙ append-nil a)

  -- two encodings that begin one list of tokens are one
  pub same_prefix : {V : Type 0} (encodes : List T → V → Type 0) → NoneBeginsAnother encodes
      → (a x b y : List T) (v w : V) → encodes a v → encodes b w → a ++ x ≡ b ++ y
      → (a ≡ b) × (x ≡ y)
  same_prefix encodes none_begins a x b y v w h k e =
      let both : a ≡ b = elim (append_meets a x b y e) [
        | inl r ↦ sym (same_from encodes none_begins a b r.0 v w h k r.1)
        | inr r ↦ same_from encodes none_begins b a r.0 w v k h r.1
      ] in
      (both, cancel_prefix a x y (e ∙ ap (λ (xs : List T). xs ++ y) (sym both)))

  -- ---- an item, with the comma or the closing bracket after it

  -- where no encoding begins another, none goes on at all
  pub ends_at : {V : Type 0} (encodes : List T → V → Type 0) → NoneBeginsAnother encodes
      → (ts : List T) (v : V) → encodes ts v → (t : T) → EndsAt encodes ts t
  ends_at encodes none_begins ts v h t more w k =
      let none = none_begins ts (t ∷ more) v w h k in
      cc none

  pub apart_in_list : {V : Type 0} (punctuation : ListPunctuation T) (encodes : List T → V → Type 0)
      → NoneBeginsAnother encodes → ApartInList punctuation encodes
  apart_in_list punctuation encodes none_begins ts more t v w h k =
      absurd (ends_at encodes none_begins ts v h t more w k)

  module _ {V : Type 0} (punctuation : ListPunctuation T) (encodes : List T → V → Type 0)
      (in_list : ApartInList punctuation encodes) where
    -- no item goes on with the comma or the closing bracket
    divided : (a zs : List T) (z t : T) (v w : V) → encodes a v → encodes (a ++ z ∷ zs) w
        → (t ≡ punctuation.comma) ⊎ (t ≡ punctuation.closing) → t ≡ z → ⊥
    divided a zs z t v w h k (inl comma) e = (in_list a zs z v w h k).0 (sym e ∙ comma)
    divided a zs z t v w h k (inr closing) e = (in_list a zs z v w h k).1 (sym e ∙ closing)

    -- what comes after an item has a first token, which is one of the two
    after_first : (back : List T) (vs : List V) → EncodedAfter punctuation encodes back vs
        → (t : T) × (x : List T) × (back ≡ t ∷ x)
        × ((t ≡ punctuation.comma) ⊎ (t ≡ punctuation.closing))
    after_first back vs (inl p) = (punctuation.closing, [], p.0, inr refl)
    after_first back vs (inr p) = (punctuation.comma, p.0, p.1, inl refl)

    -- an item with what comes after it, and another one with a token after it at which it ends: if
    -- they begin one list of tokens, they are one
    pub same_item : (a x rest i more : List T) (t : T) (vs : List V) (v w : V) → encodes a v
        → EncodedAfter punctuation encodes x vs → encodes i w → EndsAt encodes i t
        → a ++ (x ++ rest) ≡ i ++ t ∷ more → (a ≡ i) × (x ++ rest ≡ t ∷ more)
    same_item a x rest i more t vs v w h after k ends e =
        let first = after_first x vs after in
        let longer : x ++ rest ≡ first.0 ∷ (first.1 ++ rest) = ap (λ (xs : List T). xs ++ rest) first.2 in
        let both : a ≡ i = elim (append_meets a (x ++ rest) i (t ∷ more) e) [
          | inl r ↦ sym (shorter r.0 r.1 first.0 (first.1 ++ rest) first.3 longer)
          | inr r ↦ longer_not r.0 r.1
        ] in
        (both, cancel_prefix a (x ++ rest) (t ∷ more) (e ∙ ap (λ (xs : List T). xs ++ t ∷ more) (sym both)))
      where
        shorter : (z : List T) → i ≡ a ++ z → (u : T) (us : List T)
            → (u ≡ punctuation.comma) ⊎ (u ≡ punctuation.closing) → x ++ rest ≡ u ∷ us → i ≡ a
        shorter [] is u us divides after_is = is ∙ append-nil a
        shorter (z ∷ zs) is u us divides after_is =
            let joined = append_assoc a (z ∷ zs) (t ∷ more) in
            let whole = e ∙ (ap (λ (xs : List T). xs ++ t ∷ more) is ∙ joined) in
            let left = cancel_prefix a (x ++ rest) (z ∷ (zs ++ t ∷ more)) whole in
            let both = sym after_is ∙ left in
            let head : u ≡ z = cc both in
            absurd (divided a zs z u v w h (subst (λ (xs : List T). encodes xs w) is k) divides head)

        longer_not : (z : List T) → a ≡ i ++ z → a ≡ i
        longer_not [] is = is ∙ append-nil i
        longer_not (z ∷ zs) is =
            let joined = append_assoc i (z ∷ zs) (x ++ rest) in
            let whole = sym joined ∙ (ap (λ (xs : List T). xs ++ (x ++ rest)) (sym is) ∙ e) in
            let left = cancel_prefix i (z ∷ (zs ++ (x ++ rest))) (t ∷ more) whole in
            let head : z ≡ t = cc left in
            let goes_on = ap (λ (u : T). i ++ u ∷ zs) head in
            absurd (ends zs v (subst (λ (xs : List T). encodes xs v) (is ∙ goes_on) h))

    -- an item ends at the comma and at the closing bracket
    pub ends_divided : (i : List T) (v : V) → encodes i v → (t : T)
        → (t ≡ punctuation.comma) ⊎ (t ≡ punctuation.closing) → EndsAt encodes i t
    ends_divided i v h t divides more w k = divided i more t t v w h k divides refl

    -- two items, each with what comes after it
    pub same_items : (a x rest b y : List T) (vs ws : List V) (v w : V) → encodes a v
        → EncodedAfter punctuation encodes x vs → encodes b w → EncodedAfter punctuation encodes y ws
        → a ++ (x ++ rest) ≡ b ++ y → (a ≡ b) × (x ++ rest ≡ y)
    same_items a x rest b y vs ws v w h after k other e =
        let first = after_first y ws other in
        let there = ap (λ (xs : List T). b ++ xs) first.2 in
        let s =
        same_item a x rest b first.1 first.0 vs v w h after k (ends_divided b w k first.0 first.3)
        (e ∙ there) in
        (s.0, s.1 ∙ sym first.2)

  -- ---- items between brackets

  module _ {V : Type 0} (punctuation : ListPunctuation T)
      (apart : punctuation.closing ≢ punctuation.comma)
      (encodes : List T → V → Type 0) (one : OneValue encodes)
      (in_list : ApartInList punctuation encodes)
      (never_closing : NeverStartsWith punctuation.closing encodes) where
    not_closing : (a x y : List T) (v : V) → encodes a v → a ++ x ≡ punctuation.closing ∷ y → ⊥
    not_closing [] x y v h e = never_closing [] v h
    not_closing (t ∷ a) x y v h e =
        let first : t ≡ punctuation.closing = cc e in
        never_closing (t ∷ a) v h first

    -- where items are a prefix of items, both are the same
    pub items_meet : (vs ws : List V) (ts us more : List T) → EncodedItems punctuation encodes ts vs
        → EncodedItems punctuation encodes us ws → ts ++ more ≡ us → (more ≡ []) × (vs ≡ ws)
    items_meet [] [] ts us more h k e =
        let both = sym (ap (λ (xs : List T). xs ++ more) h) ∙ (e ∙ k) in
        let x : more ≡ [] = cc both in
        (x, refl)
    items_meet [] (w ∷ ws) ts us more h k e =
        let longer = ap (λ (xs : List T). xs ++ more) h in
        absurd (not_closing k.0 k.1 more w k.3 (sym k.2 ∙ (sym e ∙ longer)))
    items_meet (v ∷ vs) [] ts us more h k e =
        let longer = ap (λ (xs : List T). xs ++ more) (sym h.2) in
        let split = sym (append_assoc h.0 h.1 more) ∙ (longer ∙ (e ∙ k)) in
        absurd (not_closing h.0 (h.1 ++ more) [] v h.3 split)
    items_meet (v ∷ vs) (w ∷ ws) ts us more h k e =
        let longer = ap (λ (xs : List T). xs ++ more) (sym h.2) in
        let split = sym (append_assoc h.0 h.1 more) ∙ (longer ∙ (e ∙ k.2)) in
        let s =
        same_items punctuation encodes in_list h.0 h.1 more k.0 k.1 vs ws v w h.3 h.4 k.3 k.4 split in
        let item = one k.0 v w (subst (λ (xs : List T). encodes xs v) s.0 h.3) k.3 in
        elim h.4 [
          | inl p ↦
              let prefix = sym (ap (λ (xs : List T). xs ++ more) p.0) in
              elim k.4 [
                | inl q ↦
                    let both = prefix ∙ (s.1 ∙ q.0) in
                    let none : more ≡ [] = cc both in
                    (none, cc (item, p.1, q.1))
                | inr q ↦
                    let both = prefix ∙ (s.1 ∙ q.1) in
                    let first : punctuation.closing ≡ punctuation.comma = cc both in
                    absurd (apart first)
              ]
          | inr p ↦
              let prefix = sym (ap (λ (xs : List T). xs ++ more) p.1) in
              elim k.4 [
                | inl q ↦
                    let both = prefix ∙ (s.1 ∙ q.0) in
                    let first : punctuation.comma ≡ punctuation.closing = cc both in
                    absurd (apart (sym first))
                | inr q ↦
                    let both = prefix ∙ (s.1 ∙ q.1) in
                    let rest : p.0 ++ more ≡ q.0 = cc both in
                    let r = items_meet vs ws p.0 q.0 more p.2 q.2 rest in
                    (r.0, cc (item, r.1))
              ]
        ]

    pub list_one_value : OneValue (EncodedList punctuation encodes)
    list_one_value ts vs ws h k =
        let both = sym h.1 ∙ k.1 in
        let inside : h.0 ≡ k.0 = cc both in
        (items_meet vs ws h.0 k.0 [] h.2 k.2 (append-nil h.0 ∙ inside)).1

    pub list_none_begins : NoneBeginsAnother (EncodedList punctuation encodes)
    list_none_begins ts more vs ws h k =
        let both = sym (ap (λ (xs : List T). xs ++ more) h.1) ∙ k.1 in
        let inside : h.0 ++ more ≡ k.0 = cc both in
        (items_meet vs ws h.0 k.0 more h.2 k.2 inside).0

  -- ---- pairs

  module _ {K V : Type 0} (colon : T) (key : List T → K → Type 0) (value : List T → V → Type 0)
      (one_key : OneValue key) (no_key_begins : NoneBeginsAnother key)
      (one_value : OneValue value) (no_value_begins : NoneBeginsAnother value) where
    pub pair_one_value : OneValue (EncodedPair colon key value)
    pair_one_value ts v w h k =
        let split = sym h.2 ∙ k.2 in
        let first = colon ∷ h.1 in
        let s = same_prefix key no_key_begins h.0 first k.0 (colon ∷ k.1) v.0 w.0 h.3 k.3 split in
        let both = s.1 in
        let back : h.1 ≡ k.1 = cc both in
        let key_moved = subst (λ (xs : List T). key xs v.0) s.0 h.3 in
        let value_moved = subst (λ (xs : List T). value xs v.1) back h.4 in
        let keys : v.0 ≡ w.0 = one_key k.0 v.0 w.0 key_moved k.3 in
        let values : v.1 ≡ w.1 = one_value k.1 v.1 w.1 value_moved k.4 in
        λ i. (keys i, values i)

    pub pair_none_begins : NoneBeginsAnother (EncodedPair colon key value)
    pair_none_begins ts more v w h k =
        let longer = ap (λ (xs : List T). xs ++ more) (sym h.2) in
        let split = sym (append_assoc h.0 (colon ∷ h.1) more) ∙ (longer ∙ k.2) in
        let following = colon ∷ (h.1 ++ more) in
        let s = same_prefix key no_key_begins h.0 following k.0 (colon ∷ k.1) v.0 w.0 h.3 k.3 split
        in
        let both = s.1 in
        let back : h.1 ++ more ≡ k.1 = cc both in
        let moved = subst (λ (xs : List T). value xs w.1) (sym back) k.4 in
        no_value_begins h.1 more v.1 w.1 h.4 moved

-- ---- each item

-- each item of a list has an encoding
module _ {T V : Type 0} (punctuation : ListPunctuation T) (encodes : List T → V → Type 0) where
  abbrev HasEncoding : V → Type 0
  HasEncoding v = (prefix : List T) × encodes prefix v

  each_item : (vs : List V) (ts : List T) → EncodedItems punctuation encodes ts vs
      → AllByRecursion HasEncoding vs
  each_item [] ts h = tt
  each_item (v ∷ vs) ts h = (
    (h.0, h.3),
    elim h.4 [
      | inl r ↦ subst (AllByRecursion HasEncoding) (sym r.1) tt
      | inr r ↦ each_item vs r.0 r.2
    ],
  )

  pub each_is_encoded : (vs : List V) (ts : List T) → EncodedList punctuation encodes ts vs
      → AllByRecursion (λ v. (prefix : List T) × encodes prefix v) vs
  each_is_encoded vs ts h = each_item vs h.0 h.2
