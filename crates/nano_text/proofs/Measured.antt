-- A run that stands for itself in its line, measured sixteen bytes at a turn.
use Rattle.std.proofs.Common.{◌≡◌, ℕ, zero, suc, ◌+◌, ◌<◌, ◌≤◌, List, [], ◌∷◌, Bool, true, false}
use Rattle.std.proofs.Common.{drop, take, length, get_or, count_by, ap, ◌∙◌, arith, refl}
use Rattle.std.proofs.Math.Seq.{drop-cons}
use Rattle.std.proofs.lemmas.List.{length-drop, length-take-le, get_or-drop, drop-drop}
use Rattle.std.proofs.lemmas.List.Sums.{count_by-le-length}
use Rattle.nano_text.specs.Characters.{prefix}
use Rattle.nano_text.specs.Place.{begins_character}
use Rattle.nano_text.specs.String.{is_plain_in_line}
use Rattle.nano_text.proofs.Passing.{count_first}
use Rattle.nano_text.proofs.Prefixes.{prefix_past}

-- so many bytes are of the prefix, with so many characters
pub record IsMeasuredTo (bytes : List ℕ) (n columns : ℕ) : Type 0 where
  pub within : n ≤ length bytes
  pub len : length (prefix is_plain_in_line bytes) ≡ n + length (prefix is_plain_in_line (drop n bytes))
  pub counted : count_by begins_character (prefix is_plain_in_line bytes) ≡ columns + count_by begins_character (prefix is_plain_in_line (drop n bytes))
  pub few : columns ≤ n

pub measured_none : (bytes : List ℕ) → IsMeasuredTo bytes 0 0
measured_none bytes = record { within = omega arith; len = omega arith; counted = omega arith; few = omega arith }

-- characters begin in a prefix as in its first bytes and the others
prefix_counts : (test p : ℕ → Bool) (t : List ℕ) (n : ℕ) → n ≤ length t → ((k : ℕ) → k < n → p (get_or t k 0) ≡ true)
    → count_by test (prefix p t) ≡ count_by test (take n t) + count_by test (prefix p (drop n t))
prefix_counts test p t zero within all = omega arith
prefix_counts test p [] (suc n) within all = absurd (omega (arith, within))
prefix_counts test p (c ∷ cs) (suc n) within all =
    let more = prefix_counts test p cs n (omega (arith, within)) (λ k low. all (suc k) (omega (arith, low))) in
    rw (all 0 (omega arith)) (omega (arith, more, count_first test c (prefix p cs), count_first test c (take n cs)))

-- and some more
pub measured_by : (bytes : List ℕ) (n columns r : ℕ) → IsMeasuredTo bytes n columns → n + r ≤ length bytes
    → ((k : ℕ) → n ≤ k → k < n + r → is_plain_in_line (get_or bytes k 0) ≡ true)
    → IsMeasuredTo bytes (n + r) (columns + count_by begins_character (take r (drop n bytes)))
measured_by bytes n columns r h inside all =
    let rest = drop n bytes in
    let long : r ≤ length rest = omega (arith, length-drop n bytes) in
    let each : (k : ℕ) → k < r → is_plain_in_line (get_or rest k 0) ≡ true =
    λ k low. ap is_plain_in_line (get_or-drop n bytes k 0) ∙ all (n + k) (omega arith) (omega (arith, low)) in
    let past = prefix_past is_plain_in_line rest r long each in
    let counts = prefix_counts begins_character is_plain_in_line rest r long each in
    let after = drop-drop r n bytes in
    record {
      within = inside;
      len = omega (arith, h.len, past, ap (λ (l : List ℕ). length (prefix is_plain_in_line l)) after);
      counted = omega (arith, h.counted, counts, ap (λ (l : List ℕ). count_by begins_character (prefix is_plain_in_line l)) after);
      few = omega (arith, h.few, count_by-le-length begins_character (take r rest), length-take-le r rest long);
    }

-- where a byte does not stand for itself, the prefix ends
pub measured_all : (bytes : List ℕ) (n columns : ℕ) → IsMeasuredTo bytes n columns → n < length bytes
    → is_plain_in_line (get_or bytes n 0) ≡ false
    → (n ≡ length (prefix is_plain_in_line bytes)) × (columns ≡ count_by begins_character (prefix is_plain_in_line bytes))
measured_all bytes n columns h within stops =
    let none : prefix is_plain_in_line (drop n bytes) ≡ [] = ap (prefix is_plain_in_line) (drop-cons bytes n 0 within) ∙ rw stops refl in
    (omega (arith, h.len, ap length none), omega (arith, h.counted, ap (count_by begins_character) none))
