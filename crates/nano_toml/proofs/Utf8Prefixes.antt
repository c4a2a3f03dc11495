-- The prefix of a text and the prefix of its bytes, for a test that can be made of bytes.
use Rattle.std.proofs.Common.{◌≡◌, ℕ, ◌≤◌, List, [], ◌∷◌, ◌++◌, Bool, true, false, cond, ltb, chars}
use Rattle.std.proofs.Common.{encode_utf8_all, IsUtf8, nat_eq, eqb-true, refl, ap, sym, ◌∙◌, arith}
use Rattle.std.proofs.Common.{length}
use Rattle.std.proofs.Math.Utf8.{encode, scalars, scalar}
use Rattle.std.specs.Str.{IsCharBoundary}
use Rattle.std.proofs.lemmas.Bool.{ltb-false, ltb-true, le-ltb, and_parts}
use Rattle.std.proofs.lemmas.Str.{encode_ascii, encodes-chars, scalars-chars, chars-encodes}
use Rattle.std.proofs.lemmas.Str.{IsCharBoundary-at_seam}
use Rattle.nano_toml.specs.Characters.{Each, IsByteTest}
use Rattle.nano_toml.specs.Place.{before_nul}
use Rattle.nano_toml.specs.Token.{begins, prefix, following}
use Rattle.nano_toml.proofs.Places.{span_split, prefix_stop, after_stop}

-- characters that all pass are taken into the prefix
prefix_passing : (test : ℕ → Bool) (xs ys : List ℕ) → Each test xs → prefix test (xs ++ ys) ≡ xs ++ prefix test ys
prefix_passing test [] ys h = refl
prefix_passing test (x ∷ xs) ys h = rw h.0 (ap (λ (l : List ℕ). x ∷ l) (prefix_passing test xs ys h.1))

after_passing : (test : ℕ → Bool) (xs ys : List ℕ) → Each test xs → following test (xs ++ ys) ≡ following test ys
after_passing test [] ys h = refl
after_passing test (x ∷ xs) ys h = rw h.0 (after_passing test xs ys h.1)

-- what holds of each of three lists holds of the one that two tests choose
of_each : (P : List ℕ → Type 0) (a b : Bool) (xs ys zs : List ℕ) → P xs → P ys → P zs → P (cond a xs (cond b ys zs))
of_each P true b xs ys zs p q r = p
of_each P false true xs ys zs p q r = q
of_each P false false xs ys zs p q r = r

-- the bytes of a character that is not ASCII are not either
wide_bytes : (test : ℕ → Bool) → ((n : ℕ) → 128 ≤ n → test n ≡ true) → (c : ℕ) → 128 ≤ c → Each test (encode c)
unfolding encode
wide_bytes test wide c h =
    rw (le-ltb c 128 h) (of_each (Each test) (ltb c 2048) (ltb c 65536) _ _ _
    (wide _ (omega arith), (wide _ (omega arith), tt))
    (wide _ (omega arith), (wide _ (omega arith), (wide _ (omega arith), tt)))
    (wide _ (omega arith), (wide _ (omega arith), (wide _ (omega arith), (wide _ (omega arith), tt)))))

-- the first byte of such a character answers the test as the character
wide_begins : (test : ℕ → Bool) (b : Bool) → ((n : ℕ) → 128 ≤ n → test n ≡ b) → (c : ℕ) → 128 ≤ c → (ys : List ℕ) → begins test (encode c ++ ys) ≡ b
unfolding encode
wide_begins test b wide c h ys =
    rw (le-ltb c 128 h) (of_each (λ (xs : List ℕ). begins test (xs ++ ys) ≡ b) (ltb c 2048) (ltb c 65536) _ _ _ (wide _ (omega arith)) (wide _ (omega arith)) (wide _ (omega arith)))

pub begins_encodes : (test : ℕ → Bool) → IsByteTest test → (cs : List ℕ) → begins test (encode_utf8_all cs) ≡ begins test cs
begins_encodes test h [] = refl
begins_encodes test h (c ∷ cs) = elim (ltb c 128) as (λ (b : Bool). ltb c 128 ≡ b → begins test (encode c ++ encode_utf8_all cs) ≡ test c) [
  | true ↦ λ e. rw (encode_ascii c (ltb-true c 128 e)) refl
  | false ↦ λ e. wide_begins test (test 128) h.1 c (ltb-false c 128 e) (encode_utf8_all cs) ∙ sym (h.1 c (ltb-false c 128 e))
] refl

-- the prefix after a character beyond ASCII, which passes or not
prefix_wide : (test : ℕ → Bool) (t : Bool) → ((n : ℕ) → 128 ≤ n → test n ≡ t) → (c : ℕ) (cs : List ℕ) → 128 ≤ c → prefix test (encode_utf8_all cs) ≡ encode_utf8_all (prefix test cs)
    → prefix test (encode c ++ encode_utf8_all cs) ≡ encode_utf8_all (cond (test c) (c ∷ prefix test cs) [])
prefix_wide test true wide c cs h more = rw (wide c h) (prefix_passing test (encode c) (encode_utf8_all cs) (wide_bytes test wide c h) ∙ ap (λ (l : List ℕ). encode c ++ l) more)
prefix_wide test false wide c cs h more = rw (wide c h) (prefix_stop test (encode c ++ encode_utf8_all cs) (wide_begins test false wide c h (encode_utf8_all cs)))

after_wide : (test : ℕ → Bool) (t : Bool) → ((n : ℕ) → 128 ≤ n → test n ≡ t) → (c : ℕ) (cs : List ℕ) → 128 ≤ c → following test (encode_utf8_all cs) ≡ encode_utf8_all (following test cs)
    → following test (encode c ++ encode_utf8_all cs) ≡ encode_utf8_all (cond (test c) (following test cs) (c ∷ cs))
after_wide test true wide c cs h more = rw (wide c h) (after_passing test (encode c) (encode_utf8_all cs) (wide_bytes test wide c h) ∙ more)
after_wide test false wide c cs h more = rw (wide c h) (after_stop test (encode c ++ encode_utf8_all cs) (wide_begins test false wide c h (encode_utf8_all cs)))

prefix_encodes : (test : ℕ → Bool) → IsByteTest test → (cs : List ℕ) → prefix test (encode_utf8_all cs) ≡ encode_utf8_all (prefix test cs)
prefix_encodes test h [] = refl
prefix_encodes test h (c ∷ cs) = elim (ltb c 128) as (λ (b : Bool). ltb c 128 ≡ b → prefix test (encode c ++ encode_utf8_all cs) ≡ encode_utf8_all (cond (test c) (c ∷ prefix test cs) [])) [
  | true ↦ λ e. rw (encode_ascii c (ltb-true c 128 e)) (elim (test c) as (λ (b : Bool). cond b (c ∷ prefix test (encode_utf8_all cs)) [] ≡ encode_utf8_all (cond b (c ∷ prefix test cs) [])) [
    | true ↦ rw (encode_ascii c (ltb-true c 128 e)) (ap (λ (l : List ℕ). c ∷ l) (prefix_encodes test h cs))
    | false ↦ refl
  ])
  | false ↦ λ e. prefix_wide test (test 128) h.1 c cs (ltb-false c 128 e) (prefix_encodes test h cs)
] refl

after_encodes : (test : ℕ → Bool) → IsByteTest test → (cs : List ℕ) → following test (encode_utf8_all cs) ≡ encode_utf8_all (following test cs)
after_encodes test h [] = refl
after_encodes test h (c ∷ cs) = elim (ltb c 128) as (λ (b : Bool). ltb c 128 ≡ b → following test (encode c ++ encode_utf8_all cs) ≡ encode_utf8_all (cond (test c) (following test cs) (c ∷ cs))) [
  | true ↦ λ e. rw (encode_ascii c (ltb-true c 128 e)) (elim (test c) as (λ (b : Bool). cond b (following test (encode_utf8_all cs)) (c ∷ encode_utf8_all cs) ≡ encode_utf8_all (cond b (following test cs) (c ∷ cs))) [
    | true ↦ after_encodes test h cs
    | false ↦ rw (encode_ascii c (ltb-true c 128 e)) refl
  ])
  | false ↦ λ e. after_wide test (test 128) h.1 c cs (ltb-false c 128 e) (after_encodes test h cs)
] refl

-- what characters of ASCII are encoded to
pub prefix_ascii : (test : ℕ → Bool) → IsByteTest test → test 128 ≡ false → (cs : List ℕ) → encode_utf8_all (prefix test cs) ≡ prefix test cs
prefix_ascii test h narrow [] = refl
prefix_ascii test h narrow (c ∷ cs) = elim (ltb c 128) as (λ (b : Bool). ltb c 128 ≡ b → encode_utf8_all (cond (test c) (c ∷ prefix test cs) []) ≡ cond (test c) (c ∷ prefix test cs) []) [
  | true ↦ λ e. elim (test c) as (λ (b : Bool). encode_utf8_all (cond b (c ∷ prefix test cs) []) ≡ cond b (c ∷ prefix test cs) []) [
    | true ↦ rw (encode_ascii c (ltb-true c 128 e)) (ap (λ (l : List ℕ). c ∷ l) (prefix_ascii test h narrow cs))
    | false ↦ refl
  ]
  | false ↦ λ e. rw (h.1 c (ltb-false c 128 e) ∙ narrow) refl
] refl

scalars_after : (test : ℕ → Bool) (cs : List ℕ) → scalars cs ≡ true → scalars (following test cs) ≡ true
scalars_after test [] h = refl
scalars_after test (c ∷ cs) h = elim (test c) as (λ (b : Bool). scalars (cond b (following test cs) (c ∷ cs)) ≡ true) [ true ↦ scalars_after test cs (and_parts (scalar c) (scalars cs) h).1 | false ↦ h ]

-- the bytes of a text, split after the prefix
pub record CutAfterPrefix (test : ℕ → Bool) (bytes : List ℕ) : Type 0 where
  pub boundary : IsCharBoundary bytes (length (prefix test bytes))
  pub prefix_is : prefix test bytes ≡ encode_utf8_all (prefix test (chars bytes))
  pub after_is : chars (following test bytes) ≡ following test (chars bytes)

pub cut_after_prefix : (test : ℕ → Bool) → IsByteTest test → (bytes : List ℕ) → IsUtf8 bytes → CutAfterPrefix test bytes
cut_after_prefix test h bytes text =
    let cs = chars bytes in
    let is : encode_utf8_all cs ≡ bytes = encodes-chars bytes text in
    let scalar_rest = scalars_after test cs (scalars-chars bytes text) in
    let after_bytes : following test bytes ≡ encode_utf8_all (following test cs) = ap (following test) (sym is) ∙ after_encodes test h cs in
    let utf8 : IsUtf8 (following test bytes) = (following test cs, (scalar_rest, sym after_bytes)) in
    record {
      boundary = IsCharBoundary-at_seam bytes (prefix test bytes) (following test bytes) (span_split test bytes) utf8;
      prefix_is = ap (prefix test) (sym is) ∙ prefix_encodes test h cs;
      after_is = ap chars after_bytes ∙ chars-encodes (following test cs) scalar_rest;
    }

-- a test that NUL doesn't pass stops before it
pub prefix_before_nul : (test : ℕ → Bool) → test 0 ≡ false → (cs : List ℕ) → prefix test (before_nul cs) ≡ prefix test cs
prefix_before_nul test stops [] = refl
prefix_before_nul test stops (c ∷ cs) = elim (nat_eq c 0) as (λ (b : Bool). nat_eq c 0 ≡ b → prefix test (cond b [] (c ∷ before_nul cs)) ≡ cond (test c) (c ∷ prefix test cs) []) [
  | true ↦ λ e. rw (eqb-true c 0 e, stops) refl
  | false ↦ λ e. ap (λ (l : List ℕ). cond (test c) (c ∷ l) []) (prefix_before_nul test stops cs)
] refl

pub after_before_nul : (test : ℕ → Bool) → test 0 ≡ false → (cs : List ℕ) → following test (before_nul cs) ≡ before_nul (following test cs)
after_before_nul test stops [] = refl
after_before_nul test stops (c ∷ cs) = elim (nat_eq c 0) as (λ (b : Bool). nat_eq c 0 ≡ b → following test (cond b [] (c ∷ before_nul cs)) ≡ before_nul (cond (test c) (following test cs) (c ∷ cs))) [
  | true ↦ λ e. rw (eqb-true c 0 e, stops) refl
  | false ↦ λ e. elim (test c) as (λ (b : Bool). cond b (following test (before_nul cs)) (c ∷ before_nul cs) ≡ before_nul (cond b (following test cs) (c ∷ cs))) [
    | true ↦ after_before_nul test stops cs
    | false ↦ rw e refl
  ]
] refl
