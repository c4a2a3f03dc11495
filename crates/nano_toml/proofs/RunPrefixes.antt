-- The first byte of what is left, and runs of it that are taken at once.
use Rattle.std.proofs.Common.{◌≡◌, ℕ, List, [], ◌∷◌, ◌==◌, ◌||◌, Bool, true, false, cond, not, Some}
use Rattle.std.proofs.Common.{None, nat_eq, drop, take, length, chars, encode_utf8_all, IsUtf8}
use Rattle.std.proofs.Common.{refl, ap, sym, ◌∙◌, subst, eqb-true, true≢false, ◌++◌, encode_utf8}
use Rattle.std.proofs.Common.{ne_eqb, eqb, append_assoc, append-nil}
use Rattle.std.proofs.Math.Seq.{drop-append_seam}
use Rattle.std.proofs.StrCases.{chars_of_empty}
use Rattle.std.proofs.lemmas.List.{take_at}
use Rattle.std.proofs.lemmas.Str.{encodes-chars, scalars-chars, chars-encodes}
use Rattle.std.specs.List.{slice_get}
use Rattle.std.specs.Str.{IsCharBoundary}
use Rattle.std.specs.Str.Iter.{chars_rest}
use Rattle.std.specs.declared.str.Chars.{Chars}
use Rattle.std.proofs.Math.Utf8.{scalars, scalar}
use Rattle.std.proofs.lemmas.Bool.{and_parts}
use Rattle.nano_toml.specs.Characters.{IsByteTest, is_line_feed}
use Rattle.nano_toml.specs.Place.{held, remaining_of, before_nul}
use Rattle.nano_toml.specs.Scan.{is_in_line, is_plain, short_at, triple_at, some_quotes}
use Rattle.nano_toml.specs.Scan.{is_remaining}
use Rattle.nano_toml.specs.Token.{begins, prefix, following}
use Rattle.nano_toml.proofs.Places.{remaining_none, span_split}
use Rattle.nano_toml.proofs.ByteTests.{some_test}
use Rattle.nano_toml.proofs.Utf8Prefixes.{begins_encodes, cut_after_prefix, prefix_before_nul}
use Rattle.nano_toml.proofs.Utf8Prefixes.{after_before_nul}

-- ---- the first byte

begins_before_nul : (test : ℕ → Bool) → test 0 ≡ false → (cs : List ℕ) → begins test (before_nul cs) ≡ begins test cs
begins_before_nul test stops [] = refl
begins_before_nul test stops (c ∷ cs) = elim (nat_eq c 0) as (λ (b : Bool). nat_eq c 0 ≡ b → begins test (cond b [] (c ∷ before_nul cs)) ≡ test c) [
  | true ↦ λ e. sym (ap test (eqb-true c 0 e) ∙ stops)
  | false ↦ λ e. refl
] refl

begins_remaining : (test : ℕ → Bool) → IsByteTest test → (s : Chars) → IsUtf8 (chars_rest s) → begins test (remaining_of s) ≡ begins test (chars_rest s)
unfolding remaining_of
begins_remaining test h s utf8 =
    begins_before_nul test h.0 (held s) ∙ (sym (begins_encodes test h (held s)) ∙ ap (begins test) (encodes-chars (chars_rest s) utf8))

begins_first : (test : ℕ → Bool) (bytes : List ℕ) (b : ℕ) → slice_get bytes 0 ≡ Some b → begins test bytes ≡ test b
begins_first test [] b e = cc e
begins_first test (x ∷ xs) b e = let same : x ≡ b = cc e in ap test same

no_first : (bytes : List ℕ) → slice_get bytes 0 ≡ None → length bytes ≡ 0
no_first [] e = refl
no_first (x ∷ xs) e = cc e

nothing_begins : (cs : List ℕ) → begins (λ c. not (c == 0)) (before_nul cs) ≡ false → before_nul cs ≡ []
nothing_begins [] e = refl
nothing_begins (c ∷ cs) e = elim (nat_eq c 0) as (λ (b : Bool). nat_eq c 0 ≡ b → begins (λ d. not (d == 0)) (cond b [] (c ∷ before_nul cs)) ≡ false → cond b [] (c ∷ before_nul cs) ≡ []) [
  | true ↦ λ z f. refl
  | false ↦ λ z f. let here : true ≡ false = rw z at f in absurd (true≢false here)
] refl e

-- what a byte says that stands first
pub record IsFirst (s : Chars) (b : ℕ) : Type 0 where
  pub end : b ≡ 0 → remaining_of s ≡ []
  pub test : (p : ℕ → Bool) → IsByteTest p → begins p (remaining_of s) ≡ p b

nothing_remaining : (s : Chars) → begins (λ c. not (c == 0)) (remaining_of s) ≡ false → remaining_of s ≡ []
unfolding remaining_of
nothing_remaining s e = nothing_begins (held s) e

pub first_byte : (s : Chars) (text bytes : List ℕ) (b : ℕ) → IsUtf8 text → text ≡ chars_rest s → bytes ≡ text → Some b ≡ slice_get bytes 0 → IsFirst s b
first_byte s text bytes b utf8 is same e =
    let u : IsUtf8 (chars_rest s) = subst IsUtf8 is utf8 in
    let at : slice_get (chars_rest s) 0 ≡ Some b = sym (e ∙ ap (λ (bs : List ℕ). slice_get bs 0) (same ∙ is)) in
    let tested : (p : ℕ → Bool) → IsByteTest p → begins p (remaining_of s) ≡ p b = λ p h. begins_remaining p h s u ∙ begins_first p (chars_rest s) b at in
    record {
      end = λ z. nothing_remaining s (tested (λ c. not (c == 0)) some_test ∙ ap (λ (c : ℕ). not (c == 0)) z);
      test = tested;
    }

pub no_byte : (s : Chars) (text bytes : List ℕ) → text ≡ chars_rest s → bytes ≡ text → None ≡ slice_get bytes 0 → IsFirst s 0
no_byte s text bytes is same e =
    let none : remaining_of s ≡ [] = remaining_none s (chars_of_empty (chars_rest s) (no_first (chars_rest s) (sym (e ∙ ap (λ (bs : List ℕ). slice_get bs 0) (same ∙ is))))) in
    record {
      end = λ z. none;
      test = λ p h. ap (begins p) none ∙ sym h.0;
    }

-- ---- runs

-- so many bytes are the longest prefix that passes the test
pub record IsRun (test : ℕ → Bool) (s : Chars) (n : ℕ) : Type 0 where
  pub boundary : IsCharBoundary (chars_rest s) n
  pub prefix_is : take n (chars_rest s) ≡ encode_utf8_all (prefix test (remaining_of s))
  pub after_is : (t : Chars) → chars_rest t ≡ drop n (chars_rest s) → remaining_of t ≡ following test (remaining_of s)

drop_prefix : (test : ℕ → Bool) (text : List ℕ) → drop (length (prefix test text)) text ≡ following test text
drop_prefix test text = ap (drop (length (prefix test text))) (span_split test text) ∙ drop-append_seam (prefix test text) (following test text)

take_prefix : (test : ℕ → Bool) (text : List ℕ) → take (length (prefix test text)) text ≡ prefix test text
take_prefix test text = ap (take (length (prefix test text))) (span_split test text) ∙ take_at (prefix test text) (following test text) (length (prefix test text)) refl

-- the bytes of a run, cut off a text by their number
pub run_bytes : (test : ℕ → Bool) (text bytes : List ℕ) (n : ℕ) → bytes ≡ text → n ≡ length (prefix test bytes) → take n text ≡ prefix test bytes
run_bytes test text bytes n same count = ap (λ (t : List ℕ). take n t) (sym same) ∙ (ap (λ (k : ℕ). take k bytes) count ∙ take_prefix test bytes)

prefix_remaining : (test : ℕ → Bool) → IsByteTest test → (s : Chars) → IsUtf8 (chars_rest s) → prefix test (chars_rest s) ≡ encode_utf8_all (prefix test (remaining_of s))
unfolding remaining_of
prefix_remaining test h s utf8 = (cut_after_prefix test h (chars_rest s) utf8).prefix_is ∙ ap encode_utf8_all (sym (prefix_before_nul test h.0 (held s)))

after_remaining : (test : ℕ → Bool) → IsByteTest test → (s t : Chars) → IsUtf8 (chars_rest s) → chars_rest t ≡ following test (chars_rest s) → remaining_of t ≡ following test (remaining_of s)
unfolding remaining_of
after_remaining test h s t utf8 e =
    ap before_nul (ap chars e ∙ (cut_after_prefix test h (chars_rest s) utf8).after_is) ∙ sym (after_before_nul test h.0 (held s))

pub run_of : (test : ℕ → Bool) → IsByteTest test → (s : Chars) (text bytes : List ℕ) (n : ℕ) → IsUtf8 text → text ≡ chars_rest s → bytes ≡ text → n ≡ length (prefix test bytes) → IsRun test s n
run_of test h s text bytes n utf8 is same count =
    let u : IsUtf8 (chars_rest s) = subst IsUtf8 is utf8 in
    let len : n ≡ length (prefix test (chars_rest s)) = count ∙ ap (λ (bs : List ℕ). length (prefix test bs)) (same ∙ is) in
    record {
      boundary = subst (λ (k : ℕ). IsCharBoundary (chars_rest s) k) (sym len) (cut_after_prefix test h (chars_rest s) u).boundary;
      prefix_is = ap (λ (k : ℕ). take k (chars_rest s)) len ∙ (take_prefix test (chars_rest s) ∙ prefix_remaining test h s u);
      after_is = λ t e. after_remaining test h s t u (e ∙ (ap (λ (k : ℕ). drop k (chars_rest s)) len ∙ drop_prefix test (chars_rest s)));
    }

-- ---- a line ends at its line feed, or where the text ends

to_feed : (cs : List ℕ) → following is_in_line (before_nul cs) ≡ following (λ c. not (is_line_feed c)) (before_nul cs)
to_feed [] = refl
to_feed (c ∷ cs) = elim (nat_eq c 0) as (λ (b : Bool). nat_eq c 0 ≡ b → following is_in_line (cond b [] (c ∷ before_nul cs)) ≡ following (λ d. not (is_line_feed d)) (cond b [] (c ∷ before_nul cs))) [
  | true ↦ λ e. refl
  | false ↦ λ e. rw e (elim (c == 10) as (λ (f : Bool). cond (not (f || false)) (following is_in_line (before_nul cs)) (c ∷ before_nul cs) ≡ cond (not f) (following (λ d. not (is_line_feed d)) (before_nul cs)) (c ∷ before_nul cs)) [ true ↦ refl | false ↦ to_feed cs ])
] refl

pub line_after : (s : Chars) → following is_in_line (remaining_of s) ≡ following (λ c. not (is_line_feed c)) (remaining_of s)
unfolding remaining_of
line_after s = to_feed (held s)

-- ==== plain prefixes

plain_no_quote : (c : ℕ) → is_plain c ≡ true → (eqb c 34 ≡ false) × (eqb c 92 ≡ false)
plain_no_quote c h = (ne_eqb c 34 (λ e. clash 34 e refl), ne_eqb c 92 (λ e. clash 92 e refl)) where
  clash : (n : ℕ) → c ≡ n → is_plain n ≡ false → ⊥
  clash n e f = let x : true ≡ false = sym h ∙ (ap is_plain e ∙ f) in cc x

pub short_run : (bytes text : List ℕ) → short_at bytes false text ≡ short_at (bytes ++ encode_utf8_all (prefix is_plain text)) false (following is_plain text)
short_run bytes [] = refl
short_run bytes (c ∷ cs) = elim (is_plain c) as (λ (b : Bool). is_plain c ≡ b → short_at bytes false (c ∷ cs) ≡ short_at (bytes ++ encode_utf8_all (cond b (c ∷ prefix is_plain cs) [])) false (cond b (following is_plain cs) (c ∷ cs))) [
  | true ↦ λ e.
      let n = plain_no_quote c e in
      rw (n.0, n.1) (short_run (bytes ++ encode_utf8 c) cs ∙ ap (λ (bs : List ℕ). short_at bs false (following is_plain cs)) (append_assoc bytes (encode_utf8 c) (encode_utf8_all (prefix is_plain cs))))
  | false ↦ λ e. ap (λ (bs : List ℕ). short_at bs false (c ∷ cs)) (sym (append-nil bytes))
] refl

pub triple_run : (bytes text : List ℕ) → triple_at bytes (some_quotes []) text ≡ triple_at (bytes ++ encode_utf8_all (prefix is_plain text)) (some_quotes []) (following is_plain text)
triple_run bytes [] = ap (λ (bs : List ℕ). triple_at bs (some_quotes []) []) (sym (append-nil bytes))
triple_run bytes (c ∷ cs) = elim (is_plain c) as (λ (b : Bool). is_plain c ≡ b → triple_at bytes (some_quotes []) (c ∷ cs) ≡ triple_at (bytes ++ encode_utf8_all (cond b (c ∷ prefix is_plain cs) [])) (some_quotes []) (cond b (following is_plain cs) (c ∷ cs))) [
  | true ↦ λ e.
      let n = plain_no_quote c e in
      rw (n.0, n.1, append-nil bytes) (triple_run (bytes ++ encode_utf8 c) cs ∙ ap (λ (bs : List ℕ). triple_at bs (some_quotes []) (following is_plain cs)) (append_assoc bytes (encode_utf8 c) (encode_utf8_all (prefix is_plain cs))))
  | false ↦ λ e. ap (λ (bs : List ℕ). triple_at bs (some_quotes []) (c ∷ cs)) (sym (append-nil bytes))
] refl

-- ==== remaining prefixes

prefix_all : (cs : List ℕ) → prefix is_remaining (before_nul cs) ≡ before_nul cs
prefix_all [] = refl
prefix_all (c ∷ cs) = elim (nat_eq c 0) as (λ (b : Bool). nat_eq c 0 ≡ b → prefix is_remaining (cond b [] (c ∷ before_nul cs)) ≡ cond b [] (c ∷ before_nul cs)) [
  | true ↦ λ e. refl
  | false ↦ λ e. rw e (ap (λ (t : List ℕ). c ∷ t) (prefix_all cs))
] refl

scalars_remaining : (cs : List ℕ) → scalars cs ≡ true → scalars (before_nul cs) ≡ true
scalars_remaining [] h = refl
scalars_remaining (c ∷ cs) h = elim (nat_eq c 0) as (λ (b : Bool). scalars (cond b [] (c ∷ before_nul cs)) ≡ true) [
  | true ↦ refl
  | false ↦ let p = and_parts (scalar c) (scalars cs) h in rw (p.0, scalars_remaining cs p.1) refl
]

-- the characters of the live text, from its bytes
pub remaining_chars : (s : Chars) → IsUtf8 (chars_rest s) → chars (encode_utf8_all (prefix is_remaining (remaining_of s))) ≡ remaining_of s
unfolding remaining_of
remaining_chars s utf8 =
    ap (λ (cs : List ℕ). chars (encode_utf8_all cs)) (prefix_all (held s)) ∙ chars-encodes (before_nul (held s)) (scalars_remaining (held s) (scalars-chars (chars_rest s) utf8))
