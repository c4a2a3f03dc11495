-- From the mask of bytes looked at together to those that pass a test.
use Rattle.std.proofs.Common.{◌≡◌, ℕ, ◌+◌, ◌-◌, ◌%◌, ◌^◌, ◌<◌, ◌≤◌, Bool, true, false, cond, not, ◌||◌}
use Rattle.std.proofs.Common.{List, [], ◌∷◌, map, length, get_or, replicate, Fits, w8, refl, sym}
use Rattle.std.proofs.Common.{ap, ap₂, ◌∙◌, subst, arith, inl, inr}
use Rattle.std.proofs.lemmas.Bool.{agree_below, agree_below_at, not-true, cases_eq, eq-eqb, ne_eqb}
use Rattle.std.proofs.lemmas.Bool.{cond-true, cond-false}
use Rattle.std.proofs.lemmas.Simd.{map-map, mask_l-mod, length-chunk, get_or-chunk}
use Rattle.std.proofs.lemmas.Simd.{leading_from_mask_l, trailing_mask_l, run_in_chunk_stops}
use Rattle.std.proofs.lemmas.List.{length-map}
use Rattle.std.proofs.lemmas.List.Sums.{prefix_len-le-length, prefix_len_passes}
use Rattle.std.specs.List.{prefix_len}
use Rattle.std.proofs.Common.{zero, suc, ◌*◌, ◌/◌, ◌&&◌, ltb, take, drop, IsAscii}
use Rattle.std.specs.Str.{bytes_eq}
use Rattle.std.proofs.lemmas.Bool.Decides.{Decides-below_and, Decides-by_and, Decides-ltb}
use Rattle.std.proofs.lemmas.Slice.Eq.{bytes_eq-Decides}
use Rattle.std.proofs.lemmas.Str.Ascii.{IsAscii-from_all}
use Rattle.std.specs.Prelude.{◌++◌}
use Rattle.std.specs.List.{AllByRecursion}
use lib.Lanes.{chunk, zip2, mask_l, top}
use Rattle.std.proofs.Common.{count_by, count_ones, cond}
use Rattle.std.proofs.lemmas.Nat.{mod-pow-add}
use Rattle.std.proofs.lemmas.Simd.{ones-mask_l}
use Rattle.std.proofs.lemmas.List.{take-take}
use Rattle.nano_text.specs.Characters.{first_set, three_digits}
use Rattle.nano_text.specs.declared.triples.TheConstants.{TRIPLES}

zip2-map : (h : ℕ → ℕ → ℕ) (f g : ℕ → ℕ) (xs : List ℕ) → zip2 h (map f xs) (map g xs) ≡ map (λ x. h (f x) (g x)) xs
zip2-map h f g [] = refl
zip2-map h f g (x ∷ xs) = ap (λ r. h (f x) (g x) ∷ r) (zip2-map h f g xs)

-- an operation on two vectors that were computed lane by lane from v
pub joined : (h : ℕ → ℕ → ℕ) (f g : ℕ → ℕ) (v : List ℕ) {a b : List ℕ} → a ≡ map f v → b ≡ map g v → zip2 h a b ≡ map (λ x. h (f x) (g x)) v
joined h f g v p q = ap₂ (zip2 h) p q ∙ zip2-map h f g v

pub splat_is : (v : List ℕ) (n y : ℕ) → length v ≡ n → replicate n y ≡ map (λ _. y) v
splat_is [] n y e = ap (λ k. replicate k y) (sym e)
splat_is (x ∷ xs) n y e = ap (λ k. replicate k y) (sym e) ∙ ap (λ r. y ∷ r) (splat_is xs (length xs) y refl)

pub itself : (v : List ℕ) → v ≡ map (λ x. x) v
itself [] = refl
itself (x ∷ xs) = ap (λ r. x ∷ r) (itself xs)

run_is : (p : ℕ → Bool) (v : List ℕ) (n : ℕ) → length v ≡ n → n ≤ 64 → first_set (mask_l (map p v)) n ≡ prefix_len (λ x. not (p x)) v
run_is p v n long few =
    elim (cases_eq (mask_l (map p v)) 0) [
      | inl none ↦ cond-true _ _ _ (eq-eqb _ _ none) ∙ sym (leading_from_mask_l p v none ∙ long)
      | inr some ↦ cond-false _ _ _ (ne_eqb _ _ some) ∙ trailing_mask_l p 64 v (omega arith) (omega arith)
    ]

module _ (q : ℕ → Bool) (d : List ℕ) (i n r : ℕ) (z : List ℕ) (inside : i + n ≤ length d) (few : n ≤ 64)
    (fits : (k : ℕ) → Fits w8 (get_or d k 0)) (found : r ≡ first_set (mask_l (map (top 7) z) % 2 ^ 64) n)
    (f : ℕ → ℕ) (lanes : z ≡ map f (chunk i n d)) where
  abbrev stops : ℕ → Bool
  stops x = top 7 (f x)

  long : length (chunk i n d) ≡ n
  long = length-chunk i n d inside

  counted : r ≡ prefix_len (λ x. not (stops x)) (chunk i n d)
  counted =
      let v = chunk i n d in
      let mask = ap (λ l. mask_l l % 2 ^ 64) (ap (map (top 7)) lanes ∙ map-map (top 7) f v) ∙ mask_l-mod (map stops v) 64 (omega (arith, length-map v stops, long)) in
      found ∙ ap (λ m. first_set m n) mask ∙ run_is stops v n long few

  goes_on : (k : ℕ) → i ≤ k → k < i + r → stops (get_or d k 0) ≡ false
  goes_on k from to =
      let back : i + (k - i) ≡ k = omega arith in
      let bound = prefix_len-le-length (λ x. not (stops x)) (chunk i n d) in
      let at = get_or-chunk i n d (k - i) 0 (omega (arith, counted, long)) ∙ ap (λ j. get_or d j 0) back in
      subst (λ x. stops x ≡ false) at (not-true _ (prefix_len_passes (λ x. not (stops x)) (chunk i n d) (k - i) 0 (omega (arith, counted))))

  -- each byte at which no lane stops passes q
  pub passes_in : agree_below (λ x. stops x || q x) (λ _. true) 256 ≡ true → (r ≤ n) × ((k : ℕ) → i ≤ k → k < i + r → q (get_or d k 0) ≡ true)
  passes_in all = (
    omega (arith, counted, long, prefix_len-le-length (λ x. not (stops x)) (chunk i n d)),
    λ k from to. sym (ap (λ b. b || q (get_or d k 0)) (goes_on k from to)) ∙ agree_below_at (λ x. stops x || q x) (λ _. true) 256 (get_or d k 0) all (fits k).fits,
  )

  -- the first byte at which a lane stops does not pass q
  pub stops_in : agree_below (λ x. not (stops x && q x)) (λ _. true) 256 ≡ true → r < n → q (get_or d (i + r) 0) ≡ false
  stops_in all less =
      let b = get_or d (i + r) 0 in
      let stop : stops b ≡ true = run_in_chunk_stops stops d i n r 0 inside counted less in
      let both = agree_below_at (λ x. not (stops x && q x)) (λ _. true) 256 b all (fits (i + r)).fits in
      not-true _ (subst (λ (t : Bool). not (t && q b) ≡ true) stop both)

-- ==== lanes that are counted

lowest_first : (x y r : ℕ) → x < 2 → (x + 2 * y) % 2 ^ suc r ≡ x + 2 * (y % 2 ^ r)
lowest_first x y r small =
    let n = x + 2 * y in
    let e : suc r ≡ r + 1 = omega arith in
    let whole : n % 2 ^ (r + 1) ≡ (n / 2 ^ 1 % 2 ^ r) * 2 ^ 1 + n % 2 ^ 1 = mod-pow-add n r 1 in
    let half : n / 2 ^ 1 ≡ y = omega (arith, small) in
    let low : n % 2 ^ 1 ≡ x = omega (arith, small) in
    let rest : n / 2 ^ 1 % 2 ^ r ≡ y % 2 ^ r = ap (λ h. h % 2 ^ r) half in
    ap (λ k. n % 2 ^ k) e ∙ (whole ∙ omega (arith, rest, low))

mask_take : (ms : List Bool) (r : ℕ) → mask_l ms % 2 ^ r ≡ mask_l (take r ms)
mask_take ms zero = omega arith
mask_take [] (suc r) = lowest_first 0 0 r (omega arith) ∙ omega (arith, mask_take [] r)
mask_take (m ∷ ms) (suc r) =
    elim m as (λ (b : Bool). (cond b 1 0 + 2 * mask_l ms) % 2 ^ suc r ≡ cond b 1 0 + 2 * mask_l (take r ms)) [
      | true ↦ lowest_first 1 (mask_l ms) r (omega arith) ∙ ap (λ k. 1 + 2 * k) (mask_take ms r)
      | false ↦ lowest_first 0 (mask_l ms) r (omega arith) ∙ ap (λ k. 0 + 2 * k) (mask_take ms r)
    ]

map_take : (f : ℕ → Bool) (r : ℕ) (v : List ℕ) → take r (map f v) ≡ map f (take r v)
map_take f zero v = refl
map_take f (suc r) [] = refl
map_take f (suc r) (x ∷ xs) = ap (λ l. f x ∷ l) (map_take f r xs)

map_agrees : (f g : ℕ → Bool) (v : List ℕ) → ((k : ℕ) → k < length v → f (get_or v k 0) ≡ g (get_or v k 0)) → map f v ≡ map g v
map_agrees f g [] h = refl
map_agrees f g (x ∷ xs) h = ap₂ (λ y l. y ∷ l) (h 0 (omega arith)) (map_agrees f g xs (λ k low. h (suc k) (omega (arith, low))))

-- how many of the first lanes pass
pub counted_first : (q : ℕ → Bool) (d : List ℕ) (i n r : ℕ) (z : List ℕ) → i + n ≤ length d → n ≤ 64 → r ≤ n
    → ((k : ℕ) → Fits w8 (get_or d k 0)) → (f : ℕ → ℕ) → z ≡ map f (chunk i n d)
    → agree_below (λ x. top 7 (f x)) q 256 ≡ true
    → count_ones ((mask_l (map (top 7) z) % 2 ^ 64) % 2 ^ r) ≡ count_by q (take r (drop i d))
counted_first q d i n r z inside few within fits f lanes all =
    let v = chunk i n d in
    let stops : ℕ → Bool = λ x. top 7 (f x) in
    let long = length-chunk i n d inside in
    let mask = ap (λ l. mask_l l % 2 ^ 64) (ap (map (top 7)) lanes ∙ map-map (top 7) f v) ∙ mask_l-mod (map stops v) 64 (omega (arith, length-map v stops, long)) in
    let each : (k : ℕ) → k < length v → stops (get_or v k 0) ≡ q (get_or v k 0) =
    λ k low. subst (λ b. stops b ≡ q b) (sym (get_or-chunk i n d k 0 (omega (arith, low, long)))) (agree_below_at stops q 256 (get_or d (i + k) 0) all (fits (i + k)).fits) in
    ap (λ m. count_ones (m % 2 ^ r)) (mask ∙ ap mask_l (map_agrees stops q v each))
    ∙ (ap count_ones (mask_take (map q v) r ∙ ap mask_l (map_take q r v))
    ∙ (ones-mask_l q (take r v) ∙ ap (count_by q) (take-take r n (drop i d) within)))

-- ==== triple text

-- so many bytes from a number's place on are its digits
module _ (digits : ℕ → List ℕ) (place : ℕ → ℕ) (count : ℕ) where
  abbrev entry : ℕ → List ℕ
  entry n = take count (drop (place n) TRIPLES.now)

  abbrev entries_match : ℕ → Bool
  entries_match zero = true
  entries_match (suc n) = bytes_eq (entry n) (digits n) && entries_match n

  entries_are : (most : ℕ) → entries_match most ≡ true → (n : ℕ) → n < most → entry n ≡ digits n
  entries_are most checked =
      (Decides-below_and (λ n. bytes_eq (entry n) (digits n)) (λ n. entry n ≡ digits n) entries_match (λ n. bytes_eq-Decides _ _) refl (λ _. refl) most).0 checked

-- the three bytes after the first are its digits
pub triple_entry : (n : ℕ) → n < 1000 → take 3 (drop (n * 4 + 1) TRIPLES.now) ≡ three_digits n
triple_entry = entries_are three_digits (λ n. n * 4 + 1) 3 1000 refl

-- the first is how many of them are no leading zeros
abbrev pub count_below_1000 : ℕ → ℕ
count_below_1000 n = cond (ltb n 10) 1 (cond (ltb n 100) 2 3)

pub counted_entry : (n : ℕ) → n < 1000 → take 4 (drop (n * 4) TRIPLES.now) ≡ (48 + count_below_1000 n) ∷ three_digits n
counted_entry = entries_are (λ n. (48 + count_below_1000 n) ∷ three_digits n) (λ n. n * 4) 4 1000 refl

-- the last two are the digits of a number below 100
pub pair_entry : (n : ℕ) → n < 100 → take 2 (drop (n * 4 + 2) TRIPLES.now) ≡ (48 + n / 10) ∷ (48 + n % 10) ∷ []
pair_entry = entries_are (λ n. (48 + n / 10) ∷ (48 + n % 10) ∷ []) (λ n. n * 4 + 2) 2 100 refl

-- the last is the digit of a number below 10
pub digit_entry : (n : ℕ) → n < 10 → take 1 (drop (n * 4 + 3) TRIPLES.now) ≡ (48 + n) ∷ []
digit_entry = entries_are (λ n. (48 + n) ∷ []) (λ n. n * 4 + 3) 1 10 refl

abbrev all_ascii : List ℕ → Bool
all_ascii [] = true
all_ascii (b ∷ bs) = ltb b 128 && all_ascii bs

pub triples_ascii : IsAscii TRIPLES.now
triples_ascii =
    IsAscii-from_all TRIPLES.now ((Decides-by_and (λ b. ltb b 128) (λ b. b < 128) all_ascii (λ b. Decides-ltb b 128) refl (λ _ _. refl) TRIPLES.now).0 refl)

-- ==== each

pub all_append : {A : Type 0} (P : A → Type 0) (xs ys : List A)
    → AllByRecursion P xs → AllByRecursion P ys → AllByRecursion P (xs ++ ys)
all_append P [] ys h k = k
all_append P (x ∷ xs) ys h k = (h.0, all_append P xs ys h.1 k)

pub all_split : {A : Type 0} (P : A → Type 0) (xs ys : List A)
    → AllByRecursion P (xs ++ ys) → AllByRecursion P xs × AllByRecursion P ys
all_split P [] ys h = (tt, h)
all_split P (x ∷ xs) ys h =
    let rest = all_split P xs ys h.1 in
    ((h.0, rest.0), rest.1)
