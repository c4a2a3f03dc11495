-- The prefix of a text and the prefix of its bytes, for a test that every number from 128 on
-- passes, or none.
use Rattle.std.proofs.Common.{◌≡◌, ℕ, ◌+◌, ◌/◌, ◌≤◌, List, [], ◌∷◌, ◌++◌, Bool, true, false, cond}
use Rattle.std.proofs.Common.{ltb, chars, encode_utf8_all, IsUtf8, nat_eq, eqb-true, refl, ap, sym}
use Rattle.std.proofs.Common.{◌∙◌, arith, length}
use Rattle.std.proofs.Math.Utf8.{encode, scalars, scalar}
use Rattle.std.specs.List.{AllByRecursion}
use Rattle.std.specs.Str.{IsCharBoundary}
use Rattle.std.proofs.lemmas.Bool.{ltb-false, ltb-true, le-ltb, and_parts}
use Rattle.std.proofs.lemmas.Str.{encode_ascii, encodes-chars, scalars-chars, chars-encodes}
use Rattle.std.proofs.lemmas.Str.{IsCharBoundary-at_seam}
use Rattle.nano_text.specs.Characters.{prefix, following}
use Rattle.nano_text.specs.Place.{before_nul}

-- what a prefix and what is after it make
pub prefix-append-following : (test : ℕ → Bool) (text : List ℕ) → prefix test text ++ following test text ≡ text
prefix-append-following test [] = refl
prefix-append-following test (c ∷ cs) = elim (test c) as (λ (b : Bool). cond b (c ∷ prefix test cs) [] ++ cond b (following test cs) (c ∷ cs) ≡ c ∷ cs) [ true ↦ ap (λ (l : List ℕ). c ∷ l) (prefix-append-following test cs) | false ↦ refl ]

-- characters that all pass are taken into the prefix
pub prefix_passing : (test : ℕ → Bool) (xs ys : List ℕ) → AllByRecursion (λ x. test x ≡ true) xs → prefix test (xs ++ ys) ≡ xs ++ prefix test ys
prefix_passing test [] ys h = refl
prefix_passing test (x ∷ xs) ys h = rw h.0 (ap (λ (l : List ℕ). x ∷ l) (prefix_passing test xs ys h.1))

pub after_passing : (test : ℕ → Bool) (xs ys : List ℕ) → AllByRecursion (λ x. test x ≡ true) xs → following test (xs ++ ys) ≡ following test ys
after_passing test [] ys h = refl
after_passing test (x ∷ xs) ys h = rw h.0 (after_passing test xs ys h.1)

-- what holds of each of three lists holds of the one that two tests choose
pub of_each : (P : List ℕ → Type 0) (a b : Bool) (xs ys zs : List ℕ) → P xs → P ys → P zs → P (cond a xs (cond b ys zs))
of_each P true b xs ys zs p q r = p
of_each P false true xs ys zs p q r = q
of_each P false false xs ys zs p q r = r

-- the bytes of a character that is not ASCII are not either
wide_bytes : (test : ℕ → Bool) → ((n : ℕ) → 128 ≤ n → test n ≡ true) → (c : ℕ) → 128 ≤ c → AllByRecursion (λ x. test x ≡ true) (encode c)
unfolding encode
wide_bytes test wide c h =
    rw (le-ltb c 128 h) (of_each (AllByRecursion (λ x. test x ≡ true)) (ltb c 2048) (ltb c 65536) _ _ _
    (wide _ (omega arith), (wide _ (omega arith), tt))
    (wide _ (omega arith), (wide _ (omega arith), (wide _ (omega arith), tt)))
    (wide _ (omega arith), (wide _ (omega arith), (wide _ (omega arith), (wide _ (omega arith), tt)))))

-- a test that they all pass
prefix-encodes_wide : (test : ℕ → Bool) → ((n : ℕ) → 128 ≤ n → test n ≡ true) → (cs : List ℕ) → prefix test (encode_utf8_all cs) ≡ encode_utf8_all (prefix test cs)
prefix-encodes_wide test wide [] = refl
prefix-encodes_wide test wide (c ∷ cs) = elim (ltb c 128) as (λ (b : Bool). ltb c 128 ≡ b → prefix test (encode c ++ encode_utf8_all cs) ≡ encode_utf8_all (cond (test c) (c ∷ prefix test cs) [])) [
  | true ↦ λ e. rw (encode_ascii c (ltb-true c 128 e)) (elim (test c) as (λ (b : Bool). cond b (c ∷ prefix test (encode_utf8_all cs)) [] ≡ encode_utf8_all (cond b (c ∷ prefix test cs) [])) [
    | true ↦ rw (encode_ascii c (ltb-true c 128 e)) (ap (λ (l : List ℕ). c ∷ l) (prefix-encodes_wide test wide cs))
    | false ↦ refl
  ])
  | false ↦ λ e.
      let passes = wide_bytes test wide c (ltb-false c 128 e) in
      rw (wide c (ltb-false c 128 e)) (prefix_passing test (encode c) (encode_utf8_all cs) passes ∙ ap (λ (l : List ℕ). encode c ++ l) (prefix-encodes_wide test wide cs))
] refl

following-encodes_wide : (test : ℕ → Bool) → ((n : ℕ) → 128 ≤ n → test n ≡ true) → (cs : List ℕ) → following test (encode_utf8_all cs) ≡ encode_utf8_all (following test cs)
following-encodes_wide test wide [] = refl
following-encodes_wide test wide (c ∷ cs) = elim (ltb c 128) as (λ (b : Bool). ltb c 128 ≡ b → following test (encode c ++ encode_utf8_all cs) ≡ encode_utf8_all (cond (test c) (following test cs) (c ∷ cs))) [
  | true ↦ λ e. rw (encode_ascii c (ltb-true c 128 e)) (elim (test c) as (λ (b : Bool). cond b (following test (encode_utf8_all cs)) (c ∷ encode_utf8_all cs) ≡ encode_utf8_all (cond b (following test cs) (c ∷ cs))) [
    | true ↦ following-encodes_wide test wide cs
    | false ↦ rw (encode_ascii c (ltb-true c 128 e)) refl
  ])
  | false ↦ λ e.
      let passes = wide_bytes test wide c (ltb-false c 128 e) in
      rw (wide c (ltb-false c 128 e)) (after_passing test (encode c) (encode_utf8_all cs) passes ∙ following-encodes_wide test wide cs)
] refl

-- a test that none of them passes
wide_first : (c : ℕ) → 128 ≤ c → (b : ℕ) × (bs : List ℕ) × (encode c ≡ b ∷ bs) × (128 ≤ b)
unfolding encode
wide_first c h =
    rw (le-ltb c 128 h) (of_each (λ (xs : List ℕ). (b : ℕ) × (bs : List ℕ) × (xs ≡ b ∷ bs) × (128 ≤ b)) (ltb c 2048) (ltb c 65536) _ _ _
    (192 + c / 64, _, refl, omega arith)
    (224 + c / 4096, _, refl, omega arith)
    (240 + c / 262144, _, refl, omega arith))

no_wide_byte : (test : ℕ → Bool) → ((n : ℕ) → 128 ≤ n → test n ≡ false) → (c : ℕ) (bytes : List ℕ) → 128 ≤ c → (prefix test (encode c ++ bytes) ≡ []) × (following test (encode c ++ bytes) ≡ encode c ++ bytes)
no_wide_byte test narrow c bytes h =
    let first = wide_first c h in
    let fails = narrow first.0 first.3 in
    rw first.2 (rw fails refl, rw fails refl)

prefix-encodes_narrow : (test : ℕ → Bool) → ((n : ℕ) → 128 ≤ n → test n ≡ false) → (cs : List ℕ) → prefix test (encode_utf8_all cs) ≡ encode_utf8_all (prefix test cs)
prefix-encodes_narrow test narrow [] = refl
prefix-encodes_narrow test narrow (c ∷ cs) = elim (ltb c 128) as (λ (b : Bool). ltb c 128 ≡ b → prefix test (encode c ++ encode_utf8_all cs) ≡ encode_utf8_all (cond (test c) (c ∷ prefix test cs) [])) [
  | true ↦ λ e. rw (encode_ascii c (ltb-true c 128 e)) (elim (test c) as (λ (b : Bool). cond b (c ∷ prefix test (encode_utf8_all cs)) [] ≡ encode_utf8_all (cond b (c ∷ prefix test cs) [])) [
    | true ↦ rw (encode_ascii c (ltb-true c 128 e)) (ap (λ (l : List ℕ). c ∷ l) (prefix-encodes_narrow test narrow cs))
    | false ↦ refl
  ])
  | false ↦ λ e. rw (narrow c (ltb-false c 128 e)) (no_wide_byte test narrow c (encode_utf8_all cs) (ltb-false c 128 e)).0
] refl

following-encodes_narrow : (test : ℕ → Bool) → ((n : ℕ) → 128 ≤ n → test n ≡ false) → (cs : List ℕ) → following test (encode_utf8_all cs) ≡ encode_utf8_all (following test cs)
following-encodes_narrow test narrow [] = refl
following-encodes_narrow test narrow (c ∷ cs) = elim (ltb c 128) as (λ (b : Bool). ltb c 128 ≡ b → following test (encode c ++ encode_utf8_all cs) ≡ encode_utf8_all (cond (test c) (following test cs) (c ∷ cs))) [
  | true ↦ λ e. rw (encode_ascii c (ltb-true c 128 e)) (elim (test c) as (λ (b : Bool). cond b (following test (encode_utf8_all cs)) (c ∷ encode_utf8_all cs) ≡ encode_utf8_all (cond b (following test cs) (c ∷ cs))) [
    | true ↦ following-encodes_narrow test narrow cs
    | false ↦ rw (encode_ascii c (ltb-true c 128 e)) refl
  ])
  | false ↦ λ e. rw (narrow c (ltb-false c 128 e)) (no_wide_byte test narrow c (encode_utf8_all cs) (ltb-false c 128 e)).1
] refl

scalars-following : (test : ℕ → Bool) (cs : List ℕ) → scalars cs ≡ true → scalars (following test cs) ≡ true
scalars-following test [] h = refl
scalars-following test (c ∷ cs) h = elim (test c) as (λ (b : Bool). scalars (cond b (following test cs) (c ∷ cs)) ≡ true) [ true ↦ scalars-following test cs (and_parts (scalar c) (scalars cs) h).1 | false ↦ h ]

-- the bytes of a text, split after the prefix
pub record CutAfterPrefix (test : ℕ → Bool) (bytes : List ℕ) : Type 0 where
  pub boundary : IsCharBoundary bytes (length (prefix test bytes))
  pub prefix_is : prefix test bytes ≡ encode_utf8_all (prefix test (chars bytes))
  pub after_is : chars (following test bytes) ≡ following test (chars bytes)
  pub after_utf8 : IsUtf8 (following test bytes)

cut_from : (test : ℕ → Bool) (bytes : List ℕ) → IsUtf8 bytes → prefix test (encode_utf8_all (chars bytes)) ≡ encode_utf8_all (prefix test (chars bytes)) → following test (encode_utf8_all (chars bytes)) ≡ encode_utf8_all (following test (chars bytes)) → CutAfterPrefix test bytes
cut_from test bytes text prefix_enc after_enc =
    let cs = chars bytes in
    let is : encode_utf8_all cs ≡ bytes = encodes-chars bytes text in
    let scalar_rest = scalars-following test cs (scalars-chars bytes text) in
    let after_bytes : following test bytes ≡ encode_utf8_all (following test cs) = ap (following test) (sym is) ∙ after_enc in
    let utf8 : IsUtf8 (following test bytes) = (following test cs, (scalar_rest, sym after_bytes)) in
    record {
      boundary = IsCharBoundary-at_seam bytes (prefix test bytes) (following test bytes) (sym (prefix-append-following test bytes)) utf8;
      prefix_is = ap (prefix test) (sym is) ∙ prefix_enc;
      after_is = ap chars after_bytes ∙ chars-encodes (following test cs) scalar_rest;
      after_utf8 = utf8;
    }

pub cut_wide : (test : ℕ → Bool) → ((n : ℕ) → 128 ≤ n → test n ≡ true) → (bytes : List ℕ) → IsUtf8 bytes → CutAfterPrefix test bytes
cut_wide test wide bytes text = cut_from test bytes text (prefix-encodes_wide test wide (chars bytes)) (following-encodes_wide test wide (chars bytes))

pub cut_narrow : (test : ℕ → Bool) → ((n : ℕ) → 128 ≤ n → test n ≡ false) → (bytes : List ℕ) → IsUtf8 bytes → CutAfterPrefix test bytes
cut_narrow test narrow bytes text = cut_from test bytes text (prefix-encodes_narrow test narrow (chars bytes)) (following-encodes_narrow test narrow (chars bytes))

-- a test that NUL doesn't pass stops before it
pub prefix-before_nul : (test : ℕ → Bool) → test 0 ≡ false → (cs : List ℕ) → prefix test (before_nul cs) ≡ prefix test cs
prefix-before_nul test stops [] = refl
prefix-before_nul test stops (c ∷ cs) = elim (nat_eq c 0) as (λ (b : Bool). nat_eq c 0 ≡ b → prefix test (cond b [] (c ∷ before_nul cs)) ≡ cond (test c) (c ∷ prefix test cs) []) [
  | true ↦ λ e. rw (eqb-true c 0 e, stops) refl
  | false ↦ λ e. ap (λ (l : List ℕ). cond (test c) (c ∷ l) []) (prefix-before_nul test stops cs)
] refl

pub following-before_nul : (test : ℕ → Bool) → test 0 ≡ false → (cs : List ℕ) → following test (before_nul cs) ≡ before_nul (following test cs)
following-before_nul test stops [] = refl
following-before_nul test stops (c ∷ cs) = elim (nat_eq c 0) as (λ (b : Bool). nat_eq c 0 ≡ b → following test (cond b [] (c ∷ before_nul cs)) ≡ before_nul (cond (test c) (following test cs) (c ∷ cs))) [
  | true ↦ λ e. rw (eqb-true c 0 e, stops) refl
  | false ↦ λ e. elim (test c) as (λ (b : Bool). cond b (following test (before_nul cs)) (c ∷ before_nul cs) ≡ before_nul (cond b (following test cs) (c ∷ cs))) [
    | true ↦ following-before_nul test stops cs
    | false ↦ rw e refl
  ]
] refl
