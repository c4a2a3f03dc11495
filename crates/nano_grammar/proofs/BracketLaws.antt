-- What is proved of brackets: what a reader that counts them knows of the tokens that it took.
use Rattle.std.proofs.Common.{◌≡◌, ◌≢◌, ℕ, ◌+◌, ◌<◌, ◌≤◌, ◌^◌, List, [], ◌∷◌, ◌++◌, ◌⊎◌, inl, inr}
use Rattle.std.proofs.Common.{refl, ap, sym, ◌∙◌, subst, Bool, true, false, cond, arith, length}
use Rattle.std.proofs.Common.{append-nil, append_assoc, sum_by}
use Rattle.std.specs.List.{AllByRecursion}
use Rattle.std.proofs.lemmas.List.{append_cancel_left}
use Rattle.std.proofs.lemmas.List.Sums.{sum_by_push}
use Rattle.nano_text.specs.Place.{text_at}
use Rattle.nano_text.proofs.LaneMasks.{all_append, all_split}
use Rattle.nano_grammar.specs.Tokens.{At, Leaves}
use Rattle.nano_grammar.specs.Brackets.{IsBracketed, Brackets}
use Rattle.nano_grammar.specs.Faults.{NothingCut, wrong, uncut}
use Rattle.nano_grammar.specs.Outcomes.{Position, Moved, GoesWrong}
use Rattle.nano_grammar.proofs.FaultLaws.{broken_there}
use Rattle.nano_grammar.proofs.TokensLaws.{leaves_append, tokens_left, cut_shorter, text_lt}
use Rattle.nano_grammar.proofs.TokensLaws.{token_shorter}
use Rattle.nano_grammar.proofs.ItemLaws.{append_meets}

-- ---- lists of tokens

module _ {T : Type 0} where
  none_after : (a b : List T) → [] ≡ a ++ b → b ≡ []
  none_after [] b e = sym e
  none_after (x ∷ a) b e = cc e

  none_before : (a b : List T) → [] ≡ a ++ b → a ≡ []
  none_before [] b e = refl
  none_before (x ∷ a) b e = cc e

  nothing_follows : (inside left : List T) (next : T) → inside ++ next ∷ left ≡ [] → ⊥
  nothing_follows [] left next e = absurd (cc e)
  nothing_follows (t ∷ inside) left next e = absurd (cc e)

  -- a prefix of a list with one more token is the whole, or a prefix of the list
  prefixes : (a b prefix : List T) (t : T) → prefix ++ t ∷ [] ≡ a ++ b
      → (b ≡ []) ⊎ ((c : List T) × (prefix ≡ a ++ c))
  prefixes [] b prefix t e = inr (prefix, refl)
  prefixes (x ∷ a) b [] t e = let rest : [] ≡ a ++ b = cc e in inl (none_after a b rest)
  prefixes (x ∷ a) b (f ∷ prefix) t e =
      let head : f ≡ x = cc e in
      let rest : prefix ++ t ∷ [] ≡ a ++ b = cc e in
      elim (prefixes a b prefix t rest) [ inl p ↦ inl p | inr p ↦ inr (p.0, cc (head, p.1)) ]

  whole : (prefix a c : List T) → prefix ≡ a ++ c → c ≡ [] → prefix ≡ a
  whole prefix a c e n = e ∙ (ap (λ (x : List T). a ++ x) n ∙ append-nil a)

-- ---- the tokens of a format

-- a token is one opening bracket at most, and then neither a closing one nor the end; each token
-- but the end takes a character
pub record CutsBrackets {T : Type 0} (cut : List ℕ → T → List ℕ → Type 0) (opens closes : T → ℕ)
    (end : T) : Type 0 where
  pub at_most_one : (t : T) → opens t ≤ 1
  pub opening : (t : T) → opens t ≡ 1 → (closes t ≡ 0) × (t ≢ end)
  pub is_end : T → Bool
  pub end_is : (t : T) → is_end t ≡ true → t ≡ end
  pub end_not : (t : T) → is_end t ≡ false → t ≢ end
  pub shorter : (text : List ℕ) (t : T) (rest : List ℕ) → cut text t rest
      → length rest + cond (is_end t) 0 1 ≤ length text

module _ {T : Type 0} {cut : List ℕ → T → List ℕ → Type 0} {opens closes : T → ℕ} {end : T}
    (known : CutsBrackets cut opens closes end) where
  -- the end is none of them
  abbrev NoEnd : List T → Type 0
  NoEnd ts = AllByRecursion (λ t. t ≢ end) ts

  -- they go from an opening bracket to the one that closes it
  abbrev Bracketed : List T → Type 0
  Bracketed = IsBracketed opens closes end

  -- ---- brackets

  -- they are some tokens
  pub bracket_some : Bracketed [] → ⊥
  bracket_some b = absurd (cc b.are)

  -- their first token opens one, also where they begin a list
  pub first_opens : (us rest : List T) (t : T) → Bracketed us → us ≡ t ∷ rest → opens t ≡ 1
  first_opens us rest t b e =
      let is = sym e ∙ b.are in
      let same : t ≡ b.first = cc is in
      ap opens same ∙ b.opening

  pub first_opens_in : (us more rest : List T) (t : T) → Bracketed us → us ++ more ≡ t ∷ rest
      → opens t ≡ 1
  first_opens_in us more rest t b e =
      let is = sym e ∙ ap (λ (xs : List T). xs ++ more) b.are in
      let same : t ≡ b.first = cc is in
      ap opens same ∙ b.opening

  -- they are more than one token
  pub bracket_not_one : (us : List T) (t : T) → Bracketed us → us ≡ t ∷ [] → ⊥
  bracket_not_one us t b e =
      let opening = first_opens us [] t b e in
      let closing = (known.opening t opening).0 in
      omega (arith, opening, closing, ap (sum_by opens) e, ap (sum_by closes) e, b.even)

  -- and no proper beginning of others
  pub bracket_apart : (us more : List T) → Bracketed us → Bracketed (us ++ more) → more ≡ []
  bracket_apart us more b k =
      elim (k.shortest us more refl b.even) [
        | inl e ↦ let x = sym b.are ∙ e in cc x
        | inr e ↦ e
      ]

  -- ---- counting

  -- the tokens so far, of which the first opens the bracket, and how many brackets of them are open
  pub record Counting (s0 s : At T) (depth : ℕ) : Type 0 where
    pub prefix : List T
    pub taken : Leaves cut prefix s0 s
    pub first : T
    pub following : List T
    pub are : prefix ≡ first ∷ following
    pub opening : opens first ≡ 1
    pub count : sum_by opens prefix ≡ sum_by closes prefix + depth
    pub inner : (a b : List T) → prefix ≡ a ++ b → sum_by opens a ≡ sum_by closes a
        → (a ≡ []) ⊎ (b ≡ [])
    pub no_end : NoEnd prefix

  -- after the opening bracket one is open
  pub start : (s0 s : At T) → opens s0.token ≡ 1 → cut s0.text s.token s.text → Counting s0 s 1
  start s0 s opening c =
      let h = known.opening s0.token opening in
      record {
        prefix = s0.token ∷ [];
        taken = (refl, (s, c, refl));
        first = s0.token;
        following = [];
        are = refl;
        opening = opening;
        count = omega (arith, opening, h.0);
        inner = λ a b e k. elim (prefixes a b [] s0.token e) [
          | inl p ↦ inr p
          | inr p ↦ inl (none_before a p.0 p.1)
        ];
        no_end = (h.1, tt);
      }

  uneven : (prefix a : List T) (depth : ℕ) → prefix ≡ a → sum_by opens a ≡ sum_by closes a
      → sum_by opens prefix ≡ sum_by closes prefix + depth → 0 < depth → ⊥
  uneven prefix a depth e k count more =
      omega (arith, k, ap (sum_by opens) e, ap (sum_by closes) e, count, more)

  -- one more token is taken while a bracket is open
  pub step : (s0 s m : At T) (depth next : ℕ) → Counting s0 s depth → 0 < depth
      → known.is_end s.token ≡ false → cut s.text m.token m.text
      → depth + opens s.token ≡ next + closes s.token → Counting s0 m next
  step s0 s m depth next h more remaining c d = record {
    prefix = h.prefix ++ s.token ∷ [];
    taken = leaves_append cut h.prefix (s.token ∷ []) s0 s m h.taken (refl, (m, c, refl));
    first = h.first;
    following = h.following ++ s.token ∷ [];
    are = ap (λ (x : List T). x ++ s.token ∷ []) h.are;
    opening = h.opening;
    count =
        let opening = sum_by_push opens h.prefix s.token in
        let closing = sum_by_push closes h.prefix s.token in
        omega (arith, opening, closing, h.count, d);
    inner = λ a b e k. elim (prefixes a b h.prefix s.token e) [
      | inl p ↦ inr p
      | inr p ↦ elim (h.inner a p.0 p.1 k) [
        | inl q ↦ inl q
        | inr q ↦ absurd (uneven h.prefix a depth (whole h.prefix a p.0 p.1 q) k h.count more)
      ]
    ];
    no_end =
        all_append (λ t. t ≢ end) h.prefix (s.token ∷ []) h.no_end
        (known.end_not s.token remaining, tt);
  }

  -- where no bracket is open, the brackets are found
  pub found : (s0 s : At T) → Counting s0 s 0
      → (us : List T) × Bracketed us × Leaves cut us s0 s
  found s0 s h = (
    h.prefix,
    record {
      first = h.first;
      following = h.following;
      are = h.are;
      opening = h.opening;
      even = omega (arith, h.count);
      shortest = h.inner;
      no_end = h.no_end;
    },
    h.taken,
  )

  -- while a bracket is open, the pending token belongs to the brackets and is not the end, and one
  -- more follows
  is_still_open : (s0 s : At T) (depth : ℕ) (h : Counting s0 s depth) → 0 < depth
      → (us left more : List T) (next : T) → Bracketed us
      → us ++ next ∷ left ≡ h.prefix ++ s.token ∷ more
      → (s.token ≢ end) × ((inside : List T) × (inside ++ next ∷ left ≡ more))
  is_still_open s0 s depth h some us left more next b is =
      elim (append_meets h.prefix (s.token ∷ more) us (next ∷ left) (sym is)) [
        | inl r ↦ after_prefix r.0 r.1
        | inr r ↦ elim (h.inner us r.0 r.1 b.even) [
          | inl q ↦ let x = sym q ∙ b.are in cc x
          | inr q ↦
              let same = whole h.prefix us r.0 r.1 q in
              absurd (uneven h.prefix us depth same b.even h.count some)
        ]
      ] where
        after_prefix : (cs : List T) → us ≡ h.prefix ++ cs
            → (s.token ≢ end) × ((inside : List T) × (inside ++ next ∷ left ≡ more))
        after_prefix [] e =
            let same = sym (whole us h.prefix [] e refl) in
            absurd (uneven h.prefix us depth same b.even h.count some)
        after_prefix (t ∷ cs) e =
            let joined = append_assoc h.prefix (t ∷ cs) (next ∷ left) in
            let moved = sym joined ∙ (ap (λ (xs : List T). xs ++ next ∷ left) (sym e) ∙ is) in
            let cancelled = t ∷ (cs ++ next ∷ left) in
            let both = append_cancel_left h.prefix cancelled (s.token ∷ more) moved in
            let same : t ≡ s.token = cc both in
            let rest : cs ++ next ∷ left ≡ more = cc both in
            let later = all_split (λ t. t ≢ end) h.prefix (t ∷ cs) (subst NoEnd e b.no_end) in
            (λ x. later.1.0 (same ∙ x), (cs, rest))

  -- no brackets are closed where the end is pending
  pub end_in_brackets : {breaks : List ℕ → List ℕ → Type 0} (start here : Position T) (depth : ℕ) → Counting start.at here.at depth
      → 0 < depth → known.is_end here.at.token ≡ true
      → here.at.text ≡ text_at here.place here.input → Moved start here
      → GoesWrong cut breaks (Brackets opens closes end) start here
  end_in_brackets start here depth h some is text moved = record {
    here = here;
    text = text;
    moved = moved;
    reason = wrong;
    fault = record {
      tokens = h.prefix;
      taken = h.taken;
      none = λ more _ us left next v b e.
          let open_still = is_still_open start.at here.at depth h some us left more next b e in
          open_still.0 (known.end_is here.at.token is);
    };
    stands = (refl, refl);
  }

  -- and where no token is cut after the pending one
  pub uncut_in_brackets : {breaks : List ℕ → List ℕ → Type 0} (start here there : Position T) (depth : ℕ)
      → Counting start.at here.at depth → 0 < depth → NothingCut cut here.at.text
      → breaks here.at.text (text_at there.place there.input)
      → here.at.text ≡ text_at here.place here.input → Moved start here → Moved here there
      → GoesWrong cut breaks (Brackets opens closes end) start there
  uncut_in_brackets start here there depth h some none broken text moved further = record {
    here = here;
    text = text;
    moved = moved;
    reason = uncut none;
    fault = record {
      tokens = h.prefix;
      taken = h.taken;
      none = λ more follows us left next v b e.
          let k = (is_still_open start.at here.at depth h some us left more next b e).1 in
          nothing_follows k.0 left next (k.1 ∙ follows);
    };
    stands = broken_there broken further;
  }

  -- ---- capacity

  -- so many brackets are open at most as tokens were taken, of which a text has few enough
  pub Capacity : At T → ℕ → Type 0
  Capacity s depth = depth + tokens_left known.is_end s ≤ 2 ^ 63 + 1

  pub capacity_start : (s0 s : At T) → length s0.text ≤ 2 ^ 63 → cut s0.text s.token s.text
      → Capacity s 1
  unfolding Capacity
  capacity_start s0 s few c = omega (arith, cut_shorter cut known.is_end known.shorter s0 s c)

  -- a token that is not the end is one less
  pub one_less : (s m : At T) → known.is_end s.token ≡ false → cut s.text m.token m.text
      → tokens_left known.is_end m < tokens_left known.is_end s
  one_less s m more c =
      token_shorter cut known.is_end known.shorter s.token [] s m more (refl, (m, c, refl))

  pub capacity_step : (s m : At T) (depth next : ℕ) → Capacity s depth
      → known.is_end s.token ≡ false → cut s.text m.token m.text
      → depth + opens s.token ≡ next + closes s.token → Capacity m next
  unfolding Capacity
  capacity_step s m depth next h more c d =
      omega (arith, one_less s m more c, known.at_most_one s.token, d, h)

  pub capacity_below : (s : At T) (depth : ℕ) → Capacity s depth → known.is_end s.token ≡ false
      → depth ≤ 2 ^ 63
  unfolding Capacity
  capacity_below s depth h more =
      omega (arith, text_lt cut known.is_end known.shorter s more, h)
