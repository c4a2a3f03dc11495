-- A prefix of a text that is appended with the block that it begins, and then truncated.
use Rattle.std.proofs.Common.{◌≡◌, ℕ, suc, ◌+◌, ◌≤◌, List, [], ◌∷◌, ◌++◌, take, length}
use Rattle.std.proofs.Common.{length-append, get_or, ap, sym, ◌∙◌, subst, arith}
use Rattle.std.proofs.lemmas.List.{length-take, get_or-append-add, get_or-take, take-take}
use Rattle.std.specs.Str.{IsCharBoundary}
use Rattle.std.specs.String.Boundary.{IsSplitPoint}

take_past : (xs ys : List ℕ) (n : ℕ) → take (length xs + n) (xs ++ ys) ≡ xs ++ take n ys
take_past [] ys n = ap (λ (k : ℕ). take k ys) (omega arith)
take_past (x ∷ xs) ys n =
    let e : length (x ∷ xs) + n ≡ suc (length xs + n) = omega arith in
    ap (λ (k : ℕ). take k (x ∷ xs ++ ys)) e ∙ ap (λ (l : List ℕ). x ∷ l) (take_past xs ys n)

-- it may be truncated there
pub prefix_seam : (old text part all : List ℕ) (start len : ℕ) → start ≡ length old → IsCharBoundary text len → len ≤ 32 → part ≡ take 32 text → all ≡ old ++ part
    → IsSplitPoint all (start + len)
prefix_seam old text part all start len is boundary few part_is all_is =
    let long = ap length all_is ∙ length-append old part in
    let block = ap length part_is ∙ length-take 32 text in (
      omega (arith, is, boundary.0, few, long, block),
      λ some less high.
          let here : get_or all (start + len) 0 ≡ get_or text len 0 =
          ap (λ (l : List ℕ). get_or l (start + len) 0) all_is
          ∙ (ap (λ (n : ℕ). get_or (old ++ part) (n + len) 0) is
          ∙ (get_or-append-add old part len 0
          ∙ (ap (λ (l : List ℕ). get_or l len 0) part_is ∙ get_or-take 32 text len 0 (omega (arith, is, less, long, block))))) in
          subst (λ (b : ℕ). 192 ≤ b) (sym here) (boundary.1 (omega (arith, is, less, long, block)) (subst (λ (b : ℕ). 128 ≤ b) here high)),
    )

-- and then the prefix is appended
pub prefix_is : (old text part all : List ℕ) (start len : ℕ) → start ≡ length old → len ≤ 32 → len ≤ length text → part ≡ take 32 text → all ≡ old ++ part
    → take (start + len) all ≡ old ++ take len text
prefix_is old text part all start len is few within part_is all_is =
    ap (take (start + len)) all_is
    ∙ (ap (λ (n : ℕ). take (n + len) (old ++ part)) is
    ∙ (take_past old part len ∙ ap (λ (l : List ℕ). old ++ l) (ap (take len) part_is ∙ take-take len 32 text few)))
