-- What `next` does to the text that is still to be read.
use Rattle.std.proofs.Common.{◌≡◌, ◌≢◌, ℕ, List, [], ◌∷◌, ◌++◌, Bool, true, false, cond, length}
use Rattle.std.proofs.Common.{encode_utf8, IsUtf8, refl, ap, sym, ◌∙◌, ne_eqb, eqb-true, nat_eq}
use Rattle.std.proofs.Common.{◌+◌, ◌*◌, ◌-◌, ◌≤◌, zero, suc, arith}
use Rattle.std.proofs.lemmas.Str.{chars_past_char}
use Rattle.std.proofs.StrCases.{chars_of_empty}
use Rattle.std.specs.Str.Iter.{chars_rest}
use Rattle.std.specs.declared.str.Chars.{Chars}
use Rattle.std.specs.Str.{chars, chars_after, continuation_len, lead_bits}
use Rattle.nano_text.specs.Place.{held, remaining, before_nul}
use Rattle.nano_text.specs.Characters.{first_is}

-- one character is taken from the start
pub held_next : (s t : Chars) (c : ℕ) → IsUtf8 (chars_rest s) → chars_rest s ≡ encode_utf8 c ++ chars_rest t → held s ≡ c ∷ held t
held_next s t c text taken = chars_past_char (chars_rest s) (chars_rest t) c text taken

pub held_none : (s : Chars) → length (chars_rest s) ≡ 0 → held s ≡ []
held_none s none = chars_of_empty (chars_rest s) none

-- the current character is taken from the start of the remaining input
pub remaining_next : (cur c : ℕ) (s t : Chars) → held s ≡ c ∷ held t → cur ≢ 0 → remaining cur s ≡ cur ∷ remaining c t
unfolding remaining
remaining_next cur c s t e h = rw (ne_eqb cur 0 h, e) refl

pub remaining_last : (cur : ℕ) (s t : Chars) → held s ≡ [] → cur ≢ 0 → remaining cur s ≡ cur ∷ remaining 0 t
unfolding remaining
remaining_last cur s t e h = rw (ne_eqb cur 0 h, e) refl

-- at a NUL nothing is left
pub remaining_end : (s : Chars) → remaining 0 s ≡ []
unfolding remaining
remaining_end s = refl

-- elsewhere the current character is the first
pub remaining_more : (cur : ℕ) (s : Chars) → cur ≢ 0 → remaining cur s ≡ cur ∷ before_nul (held s)
unfolding remaining
remaining_more cur s h = rw (ne_eqb cur 0 h) refl

-- a test that a NUL doesn't pass is a test of the current character
pub first_is-remaining : (p : ℕ → Bool) (cur : ℕ) (s : Chars) → p 0 ≡ false → first_is p (remaining cur s) ≡ p cur
unfolding remaining
first_is-remaining p cur s none = elim (nat_eq cur 0) as (λ b. nat_eq cur 0 ≡ b → first_is p (cond b [] (cur ∷ before_nul (held s))) ≡ p cur) [
  | true ↦ λ e. sym (ap p (eqb-true cur 0 e) ∙ none)
  | false ↦ λ e. refl
] refl

-- a character that passes a test which NUL doesn't pass
pub not_nul : (test : ℕ → Bool) (c : ℕ) → test 0 ≡ false → test c ≡ true → c ≢ 0
not_nul test c none passes e = let both : true ≡ false = sym passes ∙ (ap test e ∙ none) in cc both

-- what remains once a character is taken
pub remaining_taken : (c : ℕ) (s t : Chars) → held s ≡ c ∷ held t → remaining c t ≡ before_nul (held s)
unfolding remaining
remaining_taken c s t e = ap before_nul (sym e)

pub remaining_none : (s t : Chars) → held s ≡ [] → remaining 0 t ≡ before_nul (held s)
unfolding remaining
remaining_none s t e = ap before_nul (sym e)

-- the first remaining character is the current one
pub remaining-first : (cur c : ℕ) (s : Chars) (rest : List ℕ) → remaining cur s ≡ c ∷ rest → cur ≡ c
unfolding remaining
remaining-first cur c s rest e = elim (nat_eq cur 0) as (λ b. cond b [] (cur ∷ before_nul (held s)) ≡ c ∷ rest → cur ≡ c) [ true ↦ λ h. cc h | false ↦ λ h. cc h ] e

-- a test that the current character doesn't pass, nor NUL, stops before the remaining input
pub remaining_stop : (test : ℕ → Bool) (cur : ℕ) (s : Chars) → test 0 ≡ false → test cur ≡ false → first_is test (remaining cur s) ≡ false
remaining_stop test cur s none fails = first_is-remaining test cur s none ∙ fails

-- what is after the first remaining character
pub remaining-tail : (cur c : ℕ) (s : Chars) (rest : List ℕ) → remaining cur s ≡ c ∷ rest → before_nul (held s) ≡ rest
unfolding remaining
remaining-tail cur c s rest e = elim (nat_eq cur 0) as (λ b. cond b [] (cur ∷ before_nul (held s)) ≡ c ∷ rest → before_nul (held s) ≡ rest) [ true ↦ λ h. cc h | false ↦ λ h. cc h ] e

-- a text has no more characters than bytes
chars_after_fewer : (n c : ℕ) (bs : List ℕ) → length (chars_after n c bs) ≤ length bs + 1
chars_after_fewer zero c [] = omega arith
chars_after_fewer zero c (b ∷ bs) = omega (arith, chars_after_fewer (continuation_len b) (lead_bits b) bs)
chars_after_fewer (suc n) c [] = omega arith
chars_after_fewer (suc n) c (b ∷ bs) = omega (arith, chars_after_fewer n (c * 64 + (b - 128)) bs)

chars_fewer : (bs : List ℕ) → length (chars bs) ≤ length bs
unfolding chars
chars_fewer [] = omega arith
chars_fewer (b ∷ bs) = omega (arith, chars_after_fewer (continuation_len b) (lead_bits b) bs)

before_nul_fewer : (cs : List ℕ) → length (before_nul cs) ≤ length cs
before_nul_fewer [] = omega arith
before_nul_fewer (c ∷ cs) = elim (nat_eq c 0) as (λ (b : Bool). length (cond b [] (c ∷ before_nul cs)) ≤ length (c ∷ cs)) [
  | true ↦ omega arith
  | false ↦ omega (arith, before_nul_fewer cs)
]

-- the remaining input has at most one character more than its iterator has bytes
pub remaining_fewer : (cur : ℕ) (s : Chars) → length (remaining cur s) ≤ length (chars_rest s) + 1
unfolding remaining
remaining_fewer cur s = omega (arith, before_nul_fewer (cur ∷ held s), chars_fewer (chars_rest s))

-- what a text still holds does not depend on which iterator holds it
pub same_remaining : (cur : ℕ) (i j : Chars) → chars_rest i ≡ chars_rest j → remaining cur i ≡ remaining cur j
unfolding remaining
same_remaining cur i j e = ap (λ (bytes : List ℕ). before_nul (cur ∷ chars bytes)) e
