-- Names between quotes, byte by byte.
use Rattle.std.proofs.Common.{◌≡◌, ℕ, ◌+◌, ◌-◌, ◌<◌, ◌≤◌, List, [], ◌∷◌, ◌++◌, length, get_or, take}
use Rattle.std.proofs.Common.{set, replicate, refl, ap, sym, ◌∙◌, suc, add-one, arith, append_assoc}
use Rattle.std.proofs.Common.{IsUtf8, length-append}
use Rattle.std.proofs.lemmas.List.{length-take-le, set_at, take_all, take_at, take_more}
use Rattle.std.proofs.lemmas.Str.{IsUtf8-append, IsUtf8-from_ascii}
use Rattle.std.proofs.lemmas.Str.Ascii.{IsAscii-nil, IsAscii-cons}

-- a quote, the first bytes of a name, and quotes
abbrev pub put_so_far : ℕ → List ℕ → List ℕ
put_so_far at name = 34 ∷ (take at name ++ replicate (31 - at) 34)

pub put_first : (name : List ℕ) → replicate 32 34 ≡ put_so_far 0 name
put_first name = refl

pub put_next : (name : List ℕ) (at : ℕ) → at < length name → length name ≤ 28 → set (put_so_far at name) (at + 1) (get_or name at 0) ≡ put_so_far (at + 1) name
put_next name at inside short =
    let b = get_or name at 0 in
    let left = 31 - (at + 1) in
    let more : 31 - at ≡ suc left = omega arith in
    let one : at + 1 ≡ suc at = add-one at in
    let before = length-take-le at name (omega arith) in
    ap (λ k. set (34 ∷ (take at name ++ replicate k 34)) (at + 1) b) more
    ∙ (ap (λ i. set (34 ∷ (take at name ++ 34 ∷ replicate left 34)) i b) one
    ∙ ap (λ (l : List ℕ). 34 ∷ l) (set_at (take at name) 34 (replicate left 34) b at before
    ∙ (sym (append_assoc (take at name) (b ∷ []) (replicate left 34))
    ∙ ap (λ (l : List ℕ). l ++ replicate left 34) (sym (take_more name at 0 inside)))))

pub put_last : (name : List ℕ) → length name ≤ 28 → take (length name + 3) (set (put_so_far (length name) name) (length name + 2) 58) ≡ 34 ∷ (name ++ 34 ∷ 58 ∷ [])
put_last name short =
    let n = length name in
    let left = 31 - n - 2 in
    let rest = replicate left 34 in
    let more : 31 - n ≡ suc (suc left) = omega arith in
    let at : n + 2 ≡ suc (n + 1) = omega arith in
    let end : n + 3 ≡ suc (n + 2) = omega arith in
    let quoted = name ++ 34 ∷ [] in
    let whole = name ++ 34 ∷ 58 ∷ [] in
    let all = take_all n name (omega arith) in
    let long : length quoted ≡ n + 1 = length-append name (34 ∷ []) in
    let long_whole : length whole ≡ n + 2 = length-append name (34 ∷ 58 ∷ []) in
    let filled : put_so_far n name ≡ 34 ∷ (quoted ++ 34 ∷ rest) =
    ap (λ (l : List ℕ). 34 ∷ (l ++ replicate (31 - n) 34)) all
    ∙ (ap (λ k. 34 ∷ (name ++ replicate k 34)) more ∙ ap (λ (l : List ℕ). 34 ∷ l) (sym (append_assoc name (34 ∷ []) (34 ∷ rest)))) in
    let colon : set (put_so_far n name) (n + 2) 58 ≡ 34 ∷ (quoted ++ 58 ∷ rest) =
    ap (λ (l : List ℕ). set l (n + 2) 58) filled
    ∙ (ap (λ i. set (34 ∷ (quoted ++ 34 ∷ rest)) i 58) at ∙ ap (λ (l : List ℕ). 34 ∷ l) (set_at quoted 34 rest 58 (n + 1) long)) in
    let regrouped : quoted ++ 58 ∷ rest ≡ whole ++ rest =
    append_assoc name (34 ∷ []) (58 ∷ rest) ∙ sym (append_assoc name (34 ∷ 58 ∷ []) rest) in
    ap (take (n + 3)) colon
    ∙ (ap (λ k. take k (34 ∷ (quoted ++ 58 ∷ rest))) end
    ∙ ap (λ (l : List ℕ). 34 ∷ l) (ap (take (n + 2)) regrouped ∙ take_at whole rest (n + 2) long_whole))

pub quoted_utf8 : (name : List ℕ) → IsUtf8 name → IsUtf8 (34 ∷ (name ++ 34 ∷ 58 ∷ []))
quoted_utf8 name utf8 =
    let quote = IsUtf8-from_ascii (34 ∷ []) (IsAscii-cons 34 [] (omega arith) IsAscii-nil) in
    let colon = IsUtf8-from_ascii (34 ∷ 58 ∷ []) (IsAscii-cons 34 (58 ∷ []) (omega arith) (IsAscii-cons 58 [] (omega arith) IsAscii-nil)) in
    IsUtf8-append (34 ∷ []) (name ++ 34 ∷ 58 ∷ []) quote (IsUtf8-append name (34 ∷ 58 ∷ []) utf8 colon)
