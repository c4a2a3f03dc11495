-- Digits and integers, and how they are scanned: one is the other.
use Rattle.std.proofs.Common.{◌≡◌, ℕ, ◌<◌, ◌≤◌, ◌^◌, List, [], ◌∷◌, ◌++◌, length, length-append}
use Rattle.std.proofs.Common.{Bool, true, false, cond, ◌||◌, nat_le, nat_lt, Some, None, refl}
use Rattle.std.proofs.Common.{arith, pos, neg_ℤ}
use Rattle.std.proofs.lemmas.Bool.Decides.{nat_tests}
use Rattle.nano_toml.specs.Characters.{is_digit}
use Rattle.nano_toml.specs.Token.{signed}
use Rattle.nano_toml.specs.Reading.{Next, a_token}
use Rattle.nano_toml.specs.Number.{digits, IsInRange, integer_token}
use Rattle.nano_toml.specs.Scan.{any_digit, fitting, integer_from}

-- ---- digits

pub any_if_some : (run : List ℕ) → 0 < length (digits run) → any_digit run ≡ true
any_if_some [] h = absurd (omega (arith, h))
any_if_some (c ∷ cs) h = elim (is_digit c) as (λ (b : Bool). 0 < length (cond b (c ∷ digits cs) (digits cs)) → b || any_digit cs ≡ true) [ true ↦ λ g. refl | false ↦ λ g. any_if_some cs g ] h

pub some_if_any : (run : List ℕ) → any_digit run ≡ true → 0 < length (digits run)
some_if_any [] h = cc h
some_if_any (c ∷ cs) h = elim (is_digit c) as (λ (b : Bool). b || any_digit cs ≡ true → 0 < length (cond b (c ∷ digits cs) (digits cs))) [ true ↦ λ g. omega arith | false ↦ λ g. some_if_any cs g ] h

no_digits : (run : List ℕ) → any_digit run ≡ false → digits run ≡ []
no_digits [] h = refl
no_digits (c ∷ cs) h = elim (is_digit c) as (λ (b : Bool). b || any_digit cs ≡ false → cond b (c ∷ digits cs) (digits cs) ≡ []) [ true ↦ λ g. cc g | false ↦ λ g. no_digits cs g ] h

some_after : (a b : List ℕ) → any_digit a ≡ false → 0 < length (digits a ++ digits b) → 0 < length (digits b)
some_after a b e h = rw (no_digits a e) at h

pub both_any : (a b : List ℕ) → 0 < length (digits a ++ digits b) → any_digit a || any_digit b ≡ true
both_any a b h = elim (any_digit a) as (λ (x : Bool). any_digit a ≡ x → x || any_digit b ≡ true) [
  | true ↦ λ e. refl
  | false ↦ λ e. any_if_some b (some_after a b e h)
] refl

pub both_some : (a b : List ℕ) → any_digit a || any_digit b ≡ true → 0 < length (digits a ++ digits b)
both_some a b h = elim (any_digit a) as (λ (x : Bool). any_digit a ≡ x → x || any_digit b ≡ true → 0 < length (digits a ++ digits b)) [
  | true ↦ λ e g. omega (arith, some_if_any a e, length-append (digits a) (digits b))
  | false ↦ λ e g. omega (arith, some_if_any b g, length-append (digits a) (digits b))
] refl h

-- ---- integers

pub fits : (n : ℕ) → n < 2 ^ 64 → fitting n ≡ Some n
fits n h = grind (arith, nat_tests)

small : (n : ℕ) → n ≤ 2 ^ 63 → nat_le n (2 ^ 63) ≡ true
small n h = grind (arith, nat_tests)

pub integer_in_range : (minus : Bool) (n : ℕ) → IsInRange minus n → integer_from minus true (fitting n) ≡ Some (a_token (integer_token minus n))
integer_in_range true n h = rw (fits n (omega (arith, h)), small n h) refl
integer_in_range false n h = rw (fits n h) refl

-- what an integer is made from
pub record IntegerOf (minus any : Bool) (size : ℕ) (next : Next) : Type 0 where
  pub some : any ≡ true
  pub range : IsInRange minus size
  pub is : next ≡ a_token (integer_token minus size)

below : (n : ℕ) → nat_lt n (2 ^ 64) ≡ true → n < 2 ^ 64
below n h = grind (arith, nat_tests)

not_above : (n : ℕ) → nat_le n (2 ^ 63) ≡ true → n ≤ 2 ^ 63
not_above n h = grind (arith, nat_tests)

unsigned_of : (n : ℕ) (next : Next) (b : Bool) → nat_lt n (2 ^ 64) ≡ b → integer_from false true (cond b (Some n) None) ≡ Some next → IntegerOf false true n next
unsigned_of n next true e h = record { some = refl; range = below n e; is = cc h }
unsigned_of n next false e h = cc h

signed_of : (n : ℕ) (next : Next) (b d : Bool) → nat_le n (2 ^ 63) ≡ d → integer_from true true (cond b (Some n) None) ≡ Some next → IntegerOf true true n next
signed_of n next true true e h = let same : cond (nat_le n (2 ^ 63)) (Some (a_token (signed (neg_ℤ (pos n))))) None ≡ Some next = h in record { some = refl; range = not_above n e; is = cc (rw e at same) }
signed_of n next true false e h = let none : cond (nat_le n (2 ^ 63)) (Some (a_token (signed (neg_ℤ (pos n))))) None ≡ Some next = h in cc (rw e at none)
signed_of n next false d e h = cc h

pub integer_of : (minus any : Bool) (n : ℕ) (next : Next) → integer_from minus any (fitting n) ≡ Some next → IntegerOf minus any n next
integer_of minus false n next h = cc h
integer_of false true n next h = unsigned_of n next (nat_lt n (2 ^ 64)) refl h
integer_of true true n next h = signed_of n next (nat_lt n (2 ^ 64)) (nat_le n (2 ^ 63)) refl h
