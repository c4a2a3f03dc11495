-- What is passed over, a character or a part at a time.
use Rattle.std.proofs.Common.{◌≡◌, ◌≢◌, ℕ, ◌<◌, ◌==◌, Bool, true, false, cond, List, [], ◌∷◌}
use Rattle.std.proofs.Common.{◌++◌, refl, sym, ◌∙◌, subst, ap, inl, inr, append_assoc, length}
use Rattle.std.proofs.Common.{length-append, arith}
use Rattle.nano_text.specs.Characters.{first_is, following, prefix}
use Rattle.nano_text.specs.Characters.{is_space}
use Rattle.nano_ron_tokens.specs.Breaks.{is_slash, is_star}
use Rattle.nano_ron_tokens.specs.Cut.{IsOneLine, HoldsNoEnd, Skip, space, line, block}
use Rattle.nano_ron_tokens.specs.Cut.{IsSkip, skip_text, IsUnended}
use Rattle.nano_ron_tokens.proofs.RonLaws.{no_gap}
use Rattle.nano_ron_tokens.specs.Scan.{IsStop, AfterLine, AfterBlock, AfterComment, BeginsNoComment}
use Rattle.nano_ron_tokens.specs.Scan.{AfterGap}
use Rattle.nano_ron_tokens.proofs.Skipping.{slash_is_no_space, line_is, block_is}

-- ---- a line

line_more : (c : ℕ) (text rest : List ℕ) → c ≢ 10 → AfterLine text rest → AfterLine (c ∷ text) rest
line_more c text rest n h = elim h [
  | inl l ↦ inl (c ∷ l.0, ap (λ k. c ∷ k) l.1, (n, l.2))
  | inr l ↦ inr ((n, l.0), l.1)
]

pub line_step : (c : ℕ) (text more rest : List ℕ) → text ≡ c ∷ more → c ≢ 10 → AfterLine more rest → AfterLine text rest
line_step c text more rest e n h = subst (λ t. AfterLine t rest) (sym e) (line_more c more rest n h)

pub line_ends : (c : ℕ) (text rest : List ℕ) → text ≡ c ∷ rest → c ≡ 10 → AfterLine text rest
line_ends c text rest e is = inl ([], e ∙ ap (λ k. k ∷ rest) is, tt)

pub line_over : (text : List ℕ) → text ≡ [] → AfterLine text text
line_over text e = inr (subst IsOneLine (sym e) tt, e)

-- ---- a block

no_end_in_nothing : HoldsNoEnd []
no_end_in_nothing [] back e = cc e
no_end_in_nothing (f ∷ prefix) back e = cc e

no_end_more : (c : ℕ) (cs : List ℕ) → (c ≡ 42 → first_is is_slash cs ≡ false) → HoldsNoEnd cs → HoldsNoEnd (c ∷ cs)
no_end_more c cs star none [] back e =
    let is : c ≡ 42 = cc e in
    let rest : cs ≡ 47 ∷ back = cc e in
    let no = sym (ap (first_is is_slash) rest) ∙ star is in
    cc no
no_end_more c cs star none (f ∷ prefix) back e = let rest : cs ≡ prefix ++ 42 ∷ 47 ∷ back = cc e in none prefix back rest

no_slash_first : (cs rest : List ℕ) → first_is is_slash (cs ++ 42 ∷ 47 ∷ rest) ≡ false → first_is is_slash cs ≡ false
no_slash_first [] rest h = refl
no_slash_first (c ∷ cs) rest h = h

block_more : (c : ℕ) (text rest : List ℕ) → (c ≡ 42 → first_is is_slash text ≡ false) → AfterBlock text rest → AfterBlock (c ∷ text) rest
block_more c text rest star h = elim h [
  | inl b ↦ inl (c ∷ b.0, ap (λ k. c ∷ k) b.1, no_end_more c b.0 (λ is. no_slash_first b.0 rest (sym (ap (first_is is_slash) b.1) ∙ star is)) b.2)
  | inr b ↦ inr (no_end_more c text star b.0, b.1)
]

pub block_step : (c : ℕ) (text more rest : List ℕ) → text ≡ c ∷ more → (c ≡ 42 → first_is is_slash more ≡ false) → AfterBlock more rest → AfterBlock text rest
block_step c text more rest e star h = subst (λ t. AfterBlock t rest) (sym e) (block_more c more rest star h)

pub block_ends : (c d : ℕ) (text more rest : List ℕ) → text ≡ c ∷ more → c ≡ 42 → more ≡ d ∷ rest → d ≡ 47 → AfterBlock text rest
block_ends c d text more rest e is f ends = inl ([], e ∙ ((λ i. is i ∷ f i) ∙ ap (λ k. 42 ∷ k ∷ rest) ends), no_end_in_nothing)

pub block_over : (text : List ℕ) → text ≡ [] → AfterBlock text text
block_over text e = inr (subst HoldsNoEnd (sym e) no_end_in_nothing, e)

-- ---- a comment

line_comment : (text rest : List ℕ) → AfterLine text rest → AfterComment (47 ∷ 47 ∷ text) rest
line_comment text rest h = elim h [
  | inl l ↦ inl (line l.0, ap (λ k. 47 ∷ 47 ∷ k) l.1 ∙ sym (line_is l.0 rest), l.2)
  | inr l ↦ inr (inr (inl (text, refl, l.0)), l.1)
]

block_comment : (text rest : List ℕ) → AfterBlock text rest → AfterComment (47 ∷ 42 ∷ text) rest
block_comment text rest h = elim h [
  | inl b ↦ inl (block b.0, ap (λ k. 47 ∷ 42 ∷ k) b.1 ∙ sym (block_is b.0 rest), b.2)
  | inr b ↦ inr (inr (inr (text, refl, b.0)), b.1)
]

-- two characters, which begin a comment
begins : (c d : ℕ) (text more following : List ℕ) → text ≡ c ∷ more → c ≡ 47 → more ≡ d ∷ following → (k : ℕ) → d ≡ k → text ≡ 47 ∷ k ∷ following
begins c d text more following e is f k ends = e ∙ ((λ i. is i ∷ f i) ∙ ap (λ j. 47 ∷ j ∷ following) ends)

pub line_comment_at : (c d : ℕ) (text more following rest : List ℕ) → text ≡ c ∷ more → c ≡ 47 → more ≡ d ∷ following → d ≡ 47 → AfterLine following rest → AfterComment text rest
line_comment_at c d text more following rest e is f ends h = subst (λ t. AfterComment t rest) (sym (begins c d text more following e is f 47 ends)) (line_comment following rest h)

pub block_comment_at : (c d : ℕ) (text more following rest : List ℕ) → text ≡ c ∷ more → c ≡ 47 → more ≡ d ∷ following → d ≡ 42 → AfterBlock following rest → AfterComment text rest
block_comment_at c d text more following rest e is f ends h = subst (λ t. AfterComment t rest) (sym (begins c d text more following e is f 42 ends)) (block_comment following rest h)

other_first : (test : ℕ → Bool) (c : ℕ) (text more : List ℕ) → test c ≡ true → first_is test text ≡ false → text ≡ c ∷ more → ⊥
other_first test c text more is none e = let no = sym is ∙ (sym (ap (first_is test) e) ∙ none) in cc no

no_comment : (text : List ℕ) → first_is is_slash text ≡ false → first_is is_star text ≡ false → BeginsNoComment (47 ∷ text)
no_comment text slash star = (stops, unended) where
  stops : IsStop (47 ∷ text)
  stops (space d) more k e = let same : 47 ≡ d = cc e in slash_is_no_space d k (sym same)
  stops (line ds) more k e = let both = e ∙ line_is ds more in let rest : text ≡ 47 ∷ (ds ++ 10 ∷ more) = cc both in other_first is_slash 47 text _ refl slash rest
  stops (block ds) more k e = let both = e ∙ block_is ds more in let rest : text ≡ 42 ∷ (ds ++ 42 ∷ 47 ∷ more) = cc both in other_first is_star 42 text _ refl star rest

  unended : IsUnended (47 ∷ text) → ⊥
  unended h = elim h [
    | inl empty ↦ cc empty
    | inr r ↦ elim r [
      | inl l ↦ (let e = l.1 in let rest : text ≡ 47 ∷ l.0 = cc e in other_first is_slash 47 text l.0 refl slash rest)
      | inr b ↦ (let e = b.1 in let rest : text ≡ 42 ∷ b.0 = cc e in other_first is_star 42 text b.0 refl star rest)
    ]
  ]

pub no_comment_at : (c : ℕ) (text more : List ℕ) → text ≡ c ∷ more → c ≡ 47 → first_is is_slash more ≡ false → first_is is_star more ≡ false → BeginsNoComment text
no_comment_at c text more e is slash star = subst BeginsNoComment (sym (e ∙ ap (λ k. k ∷ more) is)) (no_comment more slash star)

-- a comment has a character
skip_longer : (s : Skip) (rest : List ℕ) → length rest < length (skip_text s ++ rest)
skip_longer (space c) rest = omega arith
skip_longer (line cs) rest = omega (arith, ap length (line_is cs rest), length-append cs (10 ∷ rest))
skip_longer (block cs) rest = omega (arith, ap length (block_is cs rest), length-append cs (42 ∷ 47 ∷ rest))

pub comment_shorter : (text rest : List ℕ) → 0 < length text → AfterComment text rest → length rest < length text
comment_shorter text rest some h = elim h [
  | inl c ↦ omega (arith, skip_longer c.0 rest, ap length c.1)
  | inr u ↦ omega (arith, some, ap length u.1)
]

-- ---- a gap

pub gap_over : (text : List ℕ) → AfterGap text text
gap_over text = record { gap = []; body = text; split = refl; skipped = no_gap; left = inl refl }

skip_more : (s : Skip) (text rest : List ℕ) → IsSkip s → AfterGap text rest → AfterGap (skip_text s ++ text) rest
skip_more s text rest is h = record {
  gap = skip_text s ++ h.gap;
  body = h.body;
  split = ap (λ l. skip_text s ++ l) h.split ∙ sym (append_assoc (skip_text s) h.gap h.body);
  skipped = record {
    skips = s ∷ h.skipped.skips;
    good = (is, h.skipped.good);
    is = ap (λ l. skip_text s ++ l) h.skipped.is;
  };
  left = h.left;
}

pub spaces_more : (text rest : List ℕ) → AfterGap (following is_space text) rest → AfterGap text rest
spaces_more [] rest h = h
spaces_more (c ∷ cs) rest h = elim (is_space c) as (λ (b : Bool). is_space c ≡ b → AfterGap (cond b (following is_space cs) (c ∷ cs)) rest → AfterGap (c ∷ cs) rest) [
  | true ↦ λ e k. skip_more (space c) cs rest e (spaces_more cs rest k)
  | false ↦ λ e k. k
] refl h

nothing_appended : (xs ys : List ℕ) → [] ≡ xs ++ ys → ys ≡ []
nothing_appended [] ys e = sym e
nothing_appended (x ∷ xs) ys e = cc e

nothing_left : (text rest : List ℕ) → text ≡ [] → AfterGap text rest → rest ≡ []
nothing_left text rest none h =
    let body = nothing_appended h.gap h.body (sym none ∙ h.split) in
    elim h.left [ inl same ↦ sym same ∙ body | inr u ↦ u.1 ]

pub comment_more : (text between rest : List ℕ) → AfterComment text between → AfterGap between rest → AfterGap text rest
comment_more text between rest comment h = elim comment [
  | inl c ↦ subst (λ t. AfterGap t rest) (sym c.1) (skip_more c.0 between rest c.2 h)
  | inr u ↦ record { gap = []; body = text; split = refl; skipped = no_gap; left = inr (u.0, nothing_left between rest u.1 h) }
]
