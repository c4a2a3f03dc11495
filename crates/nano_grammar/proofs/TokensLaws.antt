-- What is proved of Tokens.
use Rattle.std.specs.Prelude.{ℕ, List, [], ◌∷◌, ◌++◌, refl, ◌≡◌, ◌+◌, ◌≤◌, Bool, false, cond}
use Rattle.std.specs.Prelude.{length}
use Rattle.std.proofs.Common.{sym, subst, ◌⊎◌, inl, inr, ap, ◌∙◌, append-nil, ◌<◌, arith}
use Rattle.std.proofs.Common.{append_assoc}
use Rattle.nano_grammar.specs.Tokens.{At, Cuts, Leaves, TextDecodesTo, Cutting, IsOneWay, Begins}
use Rattle.nano_grammar.specs.Tokens.{BeginsAt, NoneBeginsAnother, AllTextual, IsCutInto, HasToken}
use Rattle.nano_grammar.specs.Tokens.{IsWrittenAs, IsValueText, IsPunctuator, IsWrittenGap}
use Rattle.nano_grammar.specs.Codec.{Grammar}
use Rattle.nano_grammar.specs.Promises.{TakenTokensBegin, DecodesWhereTextBegins, SpansOnce}

-- ---- outcomes

-- ---- what is cut, and what follows it

module _ {T : Type 0} (cut : List ℕ → T → List ℕ → Type 0) where
  pub cuts_append : (ts us : List T) (text middle rest : List ℕ)
      → Cuts cut ts text middle → Cuts cut us middle rest → Cuts cut (ts ++ us) text rest
  cuts_append [] us text middle rest h k = subst (λ (l : List ℕ). Cuts cut us l rest) (sym h) k
  cuts_append (t ∷ ts) us text middle rest h k =
      (h.0, h.1, cuts_append ts us h.0 middle rest h.2 k)

  -- what is cut, with one more token after it, is taken
  pub leaves_from_cuts : (ts : List T) (text rest : List ℕ) (end : At T)
      → Cuts cut ts text rest → cut rest end.token end.text
      → (start : At T) × cut text start.token start.text × Leaves cut ts start end
  leaves_from_cuts [] text rest end h k =
      (end, subst (λ (l : List ℕ). cut l end.token end.text) (sym h) k, refl)
  leaves_from_cuts (t ∷ ts) text rest end h k =
      let r = leaves_from_cuts ts h.0 rest end h.2 k in
      (record { token = t; text = h.0 }, h.1, (refl, (r.0, r.1, r.2)))

  -- a text decodes to what its tokens encode, where one more token can be cut
  pub cuts_fit : {V : Type 0} (encodes : List T → V → Type 0)
      (ts : List T) (value : V) (text rest : List ℕ) (end : At T)
      → encodes ts value → Cuts cut ts text rest → cut rest end.token end.text
      → TextDecodesTo cut encodes text value
  cuts_fit encodes ts value text rest end s h k =
      let r = leaves_from_cuts ts text rest end h k in
      (r.0, r.1, (ts, end, s, r.2))

-- ==== cuts

-- a text is cut in one way; each token but the end takes a character; no value begins with the end,
-- which is cut where nothing is left, and nothing may follow a value
pub record CutLaws {T : Type 0} (c : Cutting T) (g : Grammar T) : Type 0 where
  pub one_way : IsOneWay c.cut
  pub is_end : T → Bool
  pub shorter : (text : List ℕ) (t : T) (rest : List ℕ) → c.cut text t rest
      → length rest + cond (is_end t) 0 1 ≤ length text
  pub begins_no_end : (t : T) → g.may_begin t → is_end t ≡ false
  pub end : T
  pub end_is_cut : c.cut [] end []
  pub end_follows : c.may_follow []

-- ==== tokens that were taken

module _ {T : Type 0} (cut : List ℕ → T → List ℕ → Type 0) where
  -- taking a list, then another
  pub leaves_append : (xs ys : List T) (s m e : At T) → Leaves cut xs s m → Leaves cut ys m e
      → Leaves cut (xs ++ ys) s e
  leaves_append [] ys s m e h k = subst (λ (x : At T). Leaves cut ys x e) (sym h) k
  leaves_append (t ∷ xs) ys s m e h k = (h.0, (h.1.0, h.1.1, leaves_append xs ys h.1.0 m e h.1.2 k))

  pub leaves_split : (xs ys : List T) (s e : At T) → Leaves cut (xs ++ ys) s e
      → (m : At T) × Leaves cut xs s m × Leaves cut ys m e
  leaves_split [] ys s e h = (s, refl, h)
  leaves_split (t ∷ xs) ys s e h =
      let r = leaves_split xs ys h.1.0 e h.1.2 in
      (r.0, (h.0, (h.1.0, h.1.1, r.1)), r.2)

  -- taking tokens is beginning with them and one more
  pub begins_after : (ts : List T) (m e : At T) (text : List ℕ) → cut text m.token m.text
      → Leaves cut ts m e → Begins cut (ts ++ e.token ∷ []) text
  begins_after [] m e text c h = (e.text, subst (λ (x : At T). cut text x.token x.text) h c, tt)
  begins_after (t ∷ ts) m e text c h =
      (m.text, subst (λ (x : T). cut text x m.text) (sym h.0) c, begins_after ts h.1.0 e m.text h.1.1 h.1.2)

  pub begins_from_leaves : (ts : List T) (s e : At T) → Leaves cut ts s e
      → BeginsAt cut (ts ++ e.token ∷ []) s
  begins_from_leaves [] s e h = (ap (λ (x : At T). x.token) (sym h), tt)
  begins_from_leaves (t ∷ ts) s e h = (h.0, begins_after ts h.1.0 e s.text h.1.1 h.1.2)

  pub leaves_after : (ts : List T) (u : T) (text : List ℕ) → Begins cut (ts ++ u ∷ []) text
      → (m : At T) × (rest : List ℕ) × cut text m.token m.text × Leaves cut ts m (record { token = u; text = rest })
  leaves_after [] u text h = (record { token = u; text = h.0 }, h.0, h.1, refl)
  leaves_after (t ∷ ts) u text h =
      let r = leaves_after ts u h.0 h.2 in
      (record { token = t; text = h.0 }, r.1, h.1, (refl, (r.0, r.2, r.3)))

  pub leaves_from_begins : (ts : List T) (u : T) (s : At T) → BeginsAt cut (ts ++ u ∷ []) s
      → (rest : List ℕ) × Leaves cut ts s (record { token = u; text = rest })
  leaves_from_begins [] u s h =
      (s.text, ap (λ (x : T). record { token = x; text = s.text }) (sym h.0))
  leaves_from_begins (t ∷ ts) u s h =
      let r = leaves_after ts u s.text h.1 in
      (r.1, (h.0, (r.0, r.2, r.3)))

  module _ (one_way : IsOneWay cut) where
    pub same_at : (text : List ℕ) (m n : At T) → cut text m.token m.text → cut text n.token n.text
        → m ≡ n
    same_at text m n h k = let e = one_way text m.token n.token m.text n.text h k in
        ap (λ (x : T). record { token = x; text = m.text }) e.0 ∙ ap (λ (r : List ℕ). record { token = n.token; text = r }) e.1

    -- of two lists that are taken from one place, one goes on where the other ends
    pub meets : (xs ys : List T) (s x y : At T) → Leaves cut xs s x → Leaves cut ys s y
        → ((cs : List T) ×
        (ys ≡ xs ++ cs) × Leaves cut cs x y) ⊎ ((cs : List T) × (xs ≡ ys ++ cs) × Leaves cut cs y x)
    meets [] ys s x y h k = inl (ys, refl, subst (λ (z : At T). Leaves cut ys z y) h k)
    meets (t ∷ xs) [] s x y h k =
        inr (t ∷ xs, refl, subst (λ (z : At T). Leaves cut (t ∷ xs) z x) k h)
    meets (t ∷ xs) (u ∷ ys) s x y h k =
        let e = same_at s.text k.1.0 h.1.0 k.1.1 h.1.1 in
        let k2 = subst (λ (z : At T). Leaves cut ys z y) e k.1.2 in
        elim (meets xs ys h.1.0 x y h.1.2 k2) [
          | inl r ↦ inl (r.0, cc (k.0, h.0, r.1), r.2)
          | inr r ↦ inr (r.0, cc (k.0, h.0, r.1), r.2)
        ]

    -- a value is encoded from one place to one other
    pub same_end : {V : Type 0} (encodes : List T → V → Type 0) → NoneBeginsAnother encodes
        → (xs ys : List T) (v w : V) (s x y : At T) → encodes xs v → encodes ys w
        → Leaves cut xs s x → Leaves cut ys s y → (xs ≡ ys) × (x ≡ y)
    same_end encodes law xs ys v w s x y a b h k =
        elim (meets xs ys s x y h k) [
          | inl r ↦
              let none = law xs r.0 v w a (subst (λ zs. encodes zs w) r.1 b) in
              (sym (r.1 ∙ ap (λ zs. xs ++ zs) none ∙ append-nil xs), subst (λ zs. Leaves cut zs x y) none r.2)
          | inr r ↦
              let none = law ys r.0 w v b (subst (λ zs. encodes zs v) r.1 a) in
              (r.1 ∙ ap (λ zs. ys ++ zs) none ∙ append-nil ys, sym (subst (λ zs. Leaves cut zs y x) none r.2))
        ]

-- ==== one token

module _ {T : Type 0} (cut : List ℕ → T → List ℕ → Type 0) where
  pub taken_tokens_begin : TakenTokensBegin cut
  taken_tokens_begin ts next start = (
    λ taken. begins_from_leaves cut ts start (record { token = next; text = taken.0 }) taken.1,
    λ begun. leaves_from_begins cut ts next start begun,
  )

  module _ {V : Type 0} (encodes : List T → V → Type 0) where
    pub decodes_where_text_begins : DecodesWhereTextBegins cut encodes
    decodes_where_text_begins text value = (
      λ fits.
          let f = fits.2 in
          (f.0, f.1.token, f.2, begins_after cut f.0 fits.0 f.1 text fits.1 f.3),
      λ begun.
          let m = leaves_after cut begun.0 begun.1 text begun.3 in
          (m.0, m.2, (begun.0, record { token = begun.1; text = m.1 }, begun.2, m.3)),
    )

    pub spans_once : SpansOnce cut encodes
    spans_once one_way one none start end other v w a b =
        let same = same_end cut one_way encodes none a.0 b.0 v w start end other a.1 b.1 a.2 b.2 in
        let moved = subst (λ (ts : List T). encodes ts v) same.0 a.1 in
        (one b.0 v w moved b.1, same.1)

-- ==== tokens left

-- at most one for each character, and the pending one unless it is the end
unfoldable pub tokens_left : {T : Type 0} → (T → Bool) → At T → ℕ
tokens_left is_end here = length here.text + cond (is_end here.token) 0 1

-- where the cut takes a character for each token but the end
module _ {T : Type 0} (cut : List ℕ → T → List ℕ → Type 0) (is_end : T → Bool)
    (shorter : (text : List ℕ) (t : T) (rest : List ℕ) → cut text t rest
    → length rest + cond (is_end t) 0 1 ≤ length text) where
  pub cut_shorter : (here next : At T) → cut here.text next.token next.text
      → tokens_left is_end next ≤ length here.text
  unfolding tokens_left
  cut_shorter here next h = shorter here.text next.token next.text h

  text_le : (here : At T) → length here.text ≤ tokens_left is_end here
  unfolding tokens_left
  text_le here = omega arith

  pub text_lt : (here : At T) → is_end here.token ≡ false → length here.text < tokens_left is_end here
  unfolding tokens_left
  text_lt here h = rw h (omega arith)

  pub leaves_shorter : (ts : List T) (start end : At T) → Leaves cut ts start end
      → tokens_left is_end end ≤ tokens_left is_end start
  leaves_shorter [] start end h = omega (arith, ap (tokens_left is_end) h)
  leaves_shorter (t ∷ ts) start end h =
      omega (arith, leaves_shorter ts h.1.0 end h.1.2, cut_shorter start h.1.0 h.1.1, text_le start)

  -- a token that is not the end is one less
  pub token_shorter : (t : T) (ts : List T) (start end : At T) → is_end t ≡ false
      → Leaves cut (t ∷ ts) start end → tokens_left is_end end < tokens_left is_end start
  token_shorter t ts start end some h =
      omega (arith, leaves_shorter ts h.1.0 end h.1.2, cut_shorter start h.1.0 h.1.1, text_lt start (ap is_end (sym h.0) ∙ some))

-- ==== tokens that carry a text

pub textual_append : (xs ys : List ℕ) → AllTextual xs → AllTextual ys → AllTextual (xs ++ ys)
textual_append [] ys h k = k
textual_append (x ∷ xs) ys h k = (h.0, textual_append xs ys h.1 k)

-- ==== how a format cuts a text

-- anything
abbrev pub Anything : List ℕ → Type 0
Anything rest = Unit {0}

has_token_append : {T : Type 0} (ts us : List T) → HasToken ts → HasToken (ts ++ us)
has_token_append [] us h = absurd h
has_token_append (t ∷ ts) us h = tt

module _ {T : Type 0} (c : Cutting T) where
  -- a gap before it changes nothing
  pub written_after_gap : (F : List ℕ → Type 0) (ts : List T) (gap text : List ℕ)
      → IsWrittenGap c gap → IsWrittenAs c F ts text → IsWrittenAs c F ts (gap ++ text)
  written_after_gap F ts gap text is h = record {
    cut_again = cut ts h.has_token h.cut_again;
    has_token = h.has_token;
    textual = textual_append gap text is.textual h.textual;
  } where
    cut : (ts : List T) → HasToken ts → IsCutInto c.cut F ts text
        → IsCutInto c.cut F ts (gap ++ text)
    cut [] some k rest follows = absurd some
    cut (t ∷ ts) some k rest follows =
        let r = k rest follows in
        let skipped = c.skips gap (text ++ rest) r.0 t is.is_gap r.1 in
        subst (λ l. Cuts c.cut (t ∷ ts) l rest) (sym (append_assoc gap text rest))
        (r.0, skipped, r.2)

  -- a text and one after it that may follow
  pub written_both : (F G : List ℕ → Type 0) (ts us : List T) (text following : List ℕ)
      → IsWrittenAs c F ts text → IsWrittenAs c G us following
      → ((rest : List ℕ) → G rest → F (following ++ rest))
      → IsWrittenAs c G (ts ++ us) (text ++ following)
  written_both F G ts us text following h k joins = record {
    cut_again = λ rest follows.
        let left = following ++ rest in
        let first = h.cut_again left (joins rest follows) in
        let second = k.cut_again rest follows in
        subst (λ l. Cuts c.cut (ts ++ us) l rest) (sym (append_assoc text following rest))
        (cuts_append c.cut ts us (text ++ left) left rest first second);
    has_token = has_token_append ts us h.has_token;
    textual = textual_append text following h.textual k.textual;
  }

  -- a punctuator
  pub written_punctuator : (t : T) (punctuator : ℕ) → IsPunctuator c t punctuator
      → IsWrittenAs c Anything (t ∷ []) (punctuator ∷ [])
  written_punctuator t punctuator h = record {
    cut_again = λ rest _. (rest, h.cut rest, refl);
    has_token = tt;
    textual = (h.textual, tt);
  }

  -- a punctuator, and what comes after it
  pub written_after_punctuator : (G : List ℕ → Type 0) (t : T) (punctuator : ℕ) (us : List T)
      (following : List ℕ) → IsPunctuator c t punctuator → IsWrittenAs c G us following
      → IsWrittenAs c G (t ∷ us) (punctuator ∷ following)
  written_after_punctuator G t punctuator us following h k = record {
    cut_again = λ rest follows.
        (following ++ rest, h.cut (following ++ rest), k.cut_again rest follows);
    has_token = tt;
    textual = (h.textual, k.textual);
  }

  -- what is cut whatever follows is cut where a value may stand
  pub written_value : (ts : List T) (text : List ℕ) → IsWrittenAs c Anything ts text
      → IsValueText c ts text
  written_value ts text h = record {
    cut_again = λ rest _. h.cut_again rest tt;
    has_token = h.has_token;
    textual = h.textual;
  }
