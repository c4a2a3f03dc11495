-- Skipping ends in one place: what is skipped begins a text in one way, and no lexeme begins so.
use Rattle.std.proofs.Common.{◌≡◌, ◌≢◌, ◌⊎◌, ℕ, true, false, List, [], ◌∷◌, ◌++◌, codes, refl, sym}
use Rattle.std.proofs.Common.{◌∙◌, subst, ap, inl, inr, append_assoc, arith}
use Rattle.std.specs.List.{AllByRecursion, flat_map}
use Rattle.std.proofs.lemmas.Bool.Decides.{nat_tests}
use Rattle.nano_text.proofs.LaneMasks.{all_split}
use Rattle.nano_text.specs.Characters.{first_is}
use Rattle.nano_text.specs.Characters.{is_space}
use Rattle.nano_ron_tokens.specs.Cut.{IsOneLine, HoldsNoEnd, Skip, space, line, block}
use Rattle.nano_ron_tokens.specs.Cut.{IsSkip, skip_text, IsGap, IsUnended}
use Rattle.nano_ron_tokens.specs.Scan.{starts_gap, IsStop}

-- of two prefixes of one list, one goes on where the other ends
append_meets : (a x b y : List ℕ) → a ++ x ≡ b ++ y → ((c : List ℕ) × (b ≡ a ++ c)) ⊎ ((c : List ℕ) × (a ≡ b ++ c))
append_meets [] x b y e = inl (b, refl)
append_meets (t ∷ a) x [] y e = inr (t ∷ a, refl)
append_meets (t ∷ a) x (u ∷ b) y e =
    let head : t ≡ u = cc e in
    let rest : a ++ x ≡ b ++ y = cc e in
    elim (append_meets a x b y rest) [
      | inl r ↦ inl (r.0, cc (head, r.1))
      | inr r ↦ inr (r.0, cc (head, r.1))
    ]

cancel_prefix : (a x y : List ℕ) → a ++ x ≡ a ++ y → x ≡ y
cancel_prefix [] x y e = e
cancel_prefix (t ∷ a) x y e = let rest : a ++ x ≡ a ++ y = cc e in cancel_prefix a x y rest

-- what comes after a prefix and its continuation
after_prefix : (a x b y c : List ℕ) → a ++ x ≡ b ++ y → b ≡ a ++ c → x ≡ c ++ y
after_prefix a x b y c e is = cancel_prefix a x (c ++ y) (e ∙ (ap (λ l. l ++ y) is ∙ append_assoc a c y))

-- ---- lines

line_longer : (cs c x y : List ℕ) → IsOneLine (cs ++ c) → 10 ∷ x ≡ c ++ 10 ∷ y → x ≡ y
line_longer cs [] x y h e = cc e
line_longer cs (k ∷ c) x y h e = let feed : 10 ≡ k = cc e in absurd ((all_split (λ k. k ≢ 10) cs (k ∷ c) h).1.0 (sym feed))

line_same : (cs ds x y : List ℕ) → IsOneLine cs → IsOneLine ds → cs ++ 10 ∷ x ≡ ds ++ 10 ∷ y → x ≡ y
line_same cs ds x y h k e = elim (append_meets cs (10 ∷ x) ds (10 ∷ y) e) [
  | inl r ↦ line_longer cs r.0 x y (subst IsOneLine r.1 k) (after_prefix cs (10 ∷ x) ds (10 ∷ y) r.0 e r.1)
  | inr r ↦ sym (line_longer ds r.0 y x (subst IsOneLine r.1 h) (after_prefix ds (10 ∷ y) cs (10 ∷ x) r.0 (sym e) r.1))
]

-- a line holds no line feed
line_has_none : (cs ds more : List ℕ) → IsOneLine cs → cs ≡ ds ++ 10 ∷ more → ⊥
line_has_none cs ds more h e = (all_split (λ k. k ≢ 10) ds (10 ∷ more) (subst IsOneLine e h)).1.0 refl

-- ---- blocks

block_longer : (cs c x y : List ℕ) → HoldsNoEnd (cs ++ c) → 42 ∷ 47 ∷ x ≡ c ++ 42 ∷ 47 ∷ y → x ≡ y
block_longer cs [] x y h e = cc e
block_longer cs (k ∷ []) x y h e = let other : ◌≡◌ {A = ℕ} 47 42 = cc e in absurd (omega (arith, other))
block_longer cs (k ∷ l ∷ c) x y h e =
    let star : k ≡ 42 = cc e in
    let slash : l ≡ 47 = cc e in
    absurd (h cs c (λ i. cs ++ star i ∷ slash i ∷ c))

block_same : (cs ds x y : List ℕ) → HoldsNoEnd cs → HoldsNoEnd ds → cs ++ 42 ∷ 47 ∷ x ≡ ds ++ 42 ∷ 47 ∷ y → x ≡ y
block_same cs ds x y h k e = elim (append_meets cs (42 ∷ 47 ∷ x) ds (42 ∷ 47 ∷ y) e) [
  | inl r ↦ block_longer cs r.0 x y (subst HoldsNoEnd r.1 k) (after_prefix cs (42 ∷ 47 ∷ x) ds (42 ∷ 47 ∷ y) r.0 e r.1)
  | inr r ↦ sym (block_longer ds r.0 y x (subst HoldsNoEnd r.1 h) (after_prefix ds (42 ∷ 47 ∷ y) cs (42 ∷ 47 ∷ x) r.0 (sym e) r.1))
]

-- ---- one skip

pub slash_is_no_space : (c : ℕ) → is_space c ≡ true → c ≡ 47 → ⊥
slash_is_no_space c h e = let no : false ≡ true = subst (λ c. is_space c ≡ true) e h in cc no

-- what comes after a comment, with its text split
pub line_is : (cs x : List ℕ) → skip_text (line cs) ++ x ≡ 47 ∷ 47 ∷ (cs ++ 10 ∷ x)
line_is cs x = ap (λ l. 47 ∷ 47 ∷ l) (append_assoc cs (10 ∷ []) x)

pub block_is : (cs x : List ℕ) → skip_text (block cs) ++ x ≡ 47 ∷ 42 ∷ (cs ++ 42 ∷ 47 ∷ x)
block_is cs x = ap (λ l. 47 ∷ 42 ∷ l) (append_assoc cs (42 ∷ 47 ∷ []) x)

skip_same : (s t : Skip) (x y : List ℕ) → IsSkip s → IsSkip t → skip_text s ++ x ≡ skip_text t ++ y → x ≡ y
skip_same (space c) (space d) x y h k e = cc e
skip_same (space c) (line ds) x y h k e = absurd (slash_is_no_space c h (cc e))
skip_same (space c) (block ds) x y h k e = absurd (slash_is_no_space c h (cc e))
skip_same (line cs) (space d) x y h k e = let same : 47 ≡ d = cc e in absurd (slash_is_no_space d k (sym same))
skip_same (block cs) (space d) x y h k e = let same : 47 ≡ d = cc e in absurd (slash_is_no_space d k (sym same))
skip_same (line cs) (block ds) x y h k e = let other : ◌≡◌ {A = ℕ} 47 42 = cc e in absurd (omega (arith, other))
skip_same (block cs) (line ds) x y h k e = let other : ◌≡◌ {A = ℕ} 42 47 = cc e in absurd (omega (arith, other))
skip_same (line cs) (line ds) x y h k e =
    let both = sym (line_is cs x) ∙ (e ∙ line_is ds y) in
    let inside : cs ++ 10 ∷ x ≡ ds ++ 10 ∷ y = cc both in
    line_same cs ds x y h k inside
skip_same (block cs) (block ds) x y h k e =
    let both = sym (block_is cs x) ∙ (e ∙ block_is ds y) in
    let inside : cs ++ 42 ∷ 47 ∷ x ≡ ds ++ 42 ∷ 47 ∷ y = cc both in
    block_same cs ds x y h k inside

skips_same : (ss ts : List Skip) (b d : List ℕ) → AllByRecursion IsSkip ss → AllByRecursion IsSkip ts → IsStop b → IsStop d → flat_map skip_text ss ++ b ≡ flat_map skip_text ts ++ d → b ≡ d
skips_same [] [] b d h k p q e = e
skips_same [] (t ∷ ts) b d h k p q e = absurd (p t (flat_map skip_text ts ++ d) k.0 (e ∙ append_assoc (skip_text t) (flat_map skip_text ts) d))
skips_same (s ∷ ss) [] b d h k p q e = absurd (q s (flat_map skip_text ss ++ b) h.0 (sym e ∙ append_assoc (skip_text s) (flat_map skip_text ss) b))
skips_same (s ∷ ss) (t ∷ ts) b d h k p q e =
    skips_same ss ts b d h.1 k.1 p q
    (skip_same s t (flat_map skip_text ss ++ b) (flat_map skip_text ts ++ d) h.0 k.0 (sym (append_assoc (skip_text s) (flat_map skip_text ss) b) ∙ (e ∙ append_assoc (skip_text t) (flat_map skip_text ts) d)))

-- a text has one place at most at which skipping ends
pub skips_one_way : (gap other body left : List ℕ) → IsGap gap → IsGap other → IsStop body → IsStop left → gap ++ body ≡ other ++ left → body ≡ left
skips_one_way gap other body left h k p q e =
    skips_same h.skips k.skips body left h.good k.good p q (ap (λ l. l ++ body) (sym h.is) ∙ (e ∙ ap (λ l. l ++ left) k.is))

-- what begins with a gap, and ends after another one, goes on with a gap
skips_left : (ss ts : List Skip) (text d : List ℕ) → AllByRecursion IsSkip ss → AllByRecursion IsSkip ts → IsStop d → flat_map skip_text ss ++ text ≡ flat_map skip_text ts ++ d
    → (us : List Skip) × AllByRecursion IsSkip us × (text ≡ flat_map skip_text us ++ d)
skips_left [] ts text d h k q e = (ts, k, e)
skips_left (s ∷ ss) [] text d h k q e = absurd (q s (flat_map skip_text ss ++ text) h.0 (sym e ∙ append_assoc (skip_text s) (flat_map skip_text ss) text))
skips_left (s ∷ ss) (t ∷ ts) text d h k q e =
    skips_left ss ts text d h.1 k.1 q
    (skip_same s t (flat_map skip_text ss ++ text) (flat_map skip_text ts ++ d) h.0 k.0 (sym (append_assoc (skip_text s) (flat_map skip_text ss) text) ∙ (e ∙ append_assoc (skip_text t) (flat_map skip_text ts) d)))

pub skips_go_on : (gap other text left : List ℕ) → IsGap gap → IsGap other → IsStop left → gap ++ text ≡ other ++ left → (more : List ℕ) × IsGap more × (text ≡ more ++ left)
skips_go_on gap other text left h k q e =
    let r = skips_left h.skips k.skips text left h.good k.good q (ap (λ l. l ++ text) (sym h.is) ∙ (e ∙ ap (λ l. l ++ left) k.is)) in
    (flat_map skip_text r.0, record { skips = r.0; good = r.1; is = refl }, r.2)

-- ---- where skipping ends

empty_stops : IsStop []
empty_stops (space c) more k e = cc e
empty_stops (line cs) more k e = cc e
empty_stops (block cs) more k e = cc e

stops_at : (c : ℕ) (rest : List ℕ) → starts_gap c ≡ false → IsStop (c ∷ rest)
stops_at c rest h (space d) more k e = let same : c ≡ d = cc e in let no = subst (λ d. is_space d ≡ true) (sym same) k in grind (arith, nat_tests, h, no)
stops_at c rest h (line cs) more k e = let same : c ≡ 47 = cc e in let no = subst (λ c. starts_gap c ≡ false) same h in cc no
stops_at c rest h (block cs) more k e = let same : c ≡ 47 = cc e in let no = subst (λ c. starts_gap c ≡ false) same h in cc no

-- where neither white space nor a slash stands
pub first_stops : (text : List ℕ) → first_is starts_gap text ≡ false → IsStop text
first_stops [] h = empty_stops
first_stops (c ∷ cs) h = stops_at c cs h

line_stops : (cs : List ℕ) → IsOneLine cs → IsStop (codes "//" ++ cs)
line_stops cs h (space d) more k e = let same : 47 ≡ d = cc e in slash_is_no_space d k (sym same)
line_stops cs h (line ds) more k e = let both = e ∙ line_is ds more in let inside : cs ≡ ds ++ 10 ∷ more = cc both in line_has_none cs ds more h inside
line_stops cs h (block ds) more k e = let other : ◌≡◌ {A = ℕ} 47 42 = cc e in omega (arith, other)

block_stops : (cs : List ℕ) → HoldsNoEnd cs → IsStop (codes "/*" ++ cs)
block_stops cs h (space d) more k e = let same : 47 ≡ d = cc e in slash_is_no_space d k (sym same)
block_stops cs h (line ds) more k e = let other : ◌≡◌ {A = ℕ} 42 47 = cc e in omega (arith, other)
block_stops cs h (block ds) more k e = let both = e ∙ block_is ds more in let inside : cs ≡ ds ++ 42 ∷ 47 ∷ more = cc both in h ds more inside

-- where nothing is left, or a comment that has no end
pub unended_stops : (body : List ℕ) → IsUnended body → IsStop body
unended_stops body h = elim h [
  | inl empty ↦ subst IsStop (sym empty) empty_stops
  | inr r ↦ elim r [
    | inl l ↦ subst IsStop (sym l.1) (line_stops l.0 l.2)
    | inr b ↦ subst IsStop (sym b.1) (block_stops b.0 b.2)
  ]
]
