-- A text that begins as a string and ends before it can be gone on with to a string.
use Rattle.std.proofs.Common.{◌≡◌, ℕ, List, [], ◌∷◌, ◌++◌, Bool, true, false, ◌==◌, length, Option}
use Rattle.std.proofs.Common.{Some, None, encode_utf8, refl, sym, ◌∙◌}
use Rattle.nano_toml.specs.Scan.{Content, After, a_backslash, some_quotes, short_at, triple_at}
use Rattle.nano_toml.specs.Scan.{after_one_quote, after_two_quotes}

-- the scan goes on to a string that ends with the text
abbrev pub Completes : (List ℕ → Option Content) → List ℕ → Type 0
Completes scan text = (more bytes : List ℕ) × (scan (text ++ more) ≡ Some (record { bytes = bytes; rest = [] }))

completes_as : (f g : List ℕ → Option Content) (text other : List ℕ) → Completes g other → ((more : List ℕ) → f (text ++ more) ≡ g (other ++ more)) → Completes f text
completes_as f g text other on same = (on.0, on.1, same on.0 ∙ on.2)

pub short_completes : (bytes : List ℕ) (escaped : Bool) (text : List ℕ) → short_at bytes escaped text ≡ None → Completes (short_at bytes escaped) text
short_completes bytes true [] h = (120 ∷ 34 ∷ [], bytes ++ encode_utf8 120, refl)
short_completes bytes false [] h = (34 ∷ [], bytes, refl)
short_completes bytes true (c ∷ cs) h =
    completes_as (short_at bytes true) (short_at (bytes ++ encode_utf8 c) false) (c ∷ cs) cs (short_completes (bytes ++ encode_utf8 c) false cs h) (λ more. refl)
short_completes bytes false (c ∷ cs) h = elim (c == 34) as (λ (b : Bool). (c == 34) ≡ b → Completes (short_at bytes false) (c ∷ cs)) [
  | true ↦ λ e. cc (rw e at h)
  | false ↦ λ e. elim (c == 92) as (λ (d : Bool). (c == 92) ≡ d → Completes (short_at bytes false) (c ∷ cs)) [
    | true ↦ λ f. completes_as (short_at bytes false) (short_at bytes true) (c ∷ cs) cs (short_completes bytes true cs (rw (e, f) at h)) (λ more. rw (e, f) refl)
    | false ↦ λ f. completes_as (short_at bytes false) (short_at (bytes ++ encode_utf8 c) false) (c ∷ cs) cs (short_completes (bytes ++ encode_utf8 c) false cs (rw (e, f) at h)) (λ more. rw (e, f) refl)
  ] refl
] refl

pub triple_completes : (bytes : List ℕ) (state : After) (text : List ℕ) → triple_at bytes state text ≡ None → Completes (triple_at bytes state) text
triple_completes bytes a_backslash [] h = (120 ∷ 34 ∷ 34 ∷ 34 ∷ [], bytes ++ encode_utf8 120, refl)
triple_completes bytes (some_quotes run) [] h = elim (length run == 3) as (λ (b : Bool). (length run == 3) ≡ b → Completes (triple_at bytes (some_quotes run)) []) [
  | true ↦ λ e. cc (rw e at h)
  | false ↦ λ e. (120 ∷ 34 ∷ 34 ∷ 34 ∷ [], (bytes ++ run) ++ encode_utf8 120, rw e refl)
] refl
triple_completes bytes a_backslash (c ∷ cs) h =
    completes_as (triple_at bytes a_backslash) (triple_at (bytes ++ encode_utf8 c) (some_quotes [])) (c ∷ cs) cs (triple_completes (bytes ++ encode_utf8 c) (some_quotes []) cs h) (λ more. refl)
triple_completes bytes (some_quotes run) (c ∷ cs) h = elim (c == 34) as (λ (b : Bool). (c == 34) ≡ b → Completes (triple_at bytes (some_quotes run)) (c ∷ cs)) [
  | true ↦ λ e. completes_as (triple_at bytes (some_quotes run)) (triple_at bytes (some_quotes (run ++ c ∷ []))) (c ∷ cs) cs (triple_completes bytes (some_quotes (run ++ c ∷ [])) cs (rw e at h)) (λ more. rw e refl)
  | false ↦ λ e. elim (length run == 3) as (λ (t : Bool). (length run == 3) ≡ t → Completes (triple_at bytes (some_quotes run)) (c ∷ cs)) [
    | true ↦ λ g. cc (rw (e, g) at h)
    | false ↦ λ g. elim (c == 92) as (λ (d : Bool). (c == 92) ≡ d → Completes (triple_at bytes (some_quotes run)) (c ∷ cs)) [
      | true ↦ λ f. completes_as (triple_at bytes (some_quotes run)) (triple_at (bytes ++ run) a_backslash) (c ∷ cs) cs (triple_completes (bytes ++ run) a_backslash cs (rw (e, g, f) at h)) (λ more. rw (e, g, f) refl)
      | false ↦ λ f. completes_as (triple_at bytes (some_quotes run)) (triple_at ((bytes ++ run) ++ encode_utf8 c) (some_quotes [])) (c ∷ cs) cs (triple_completes ((bytes ++ run) ++ encode_utf8 c) (some_quotes []) cs (rw (e, g, f) at h)) (λ more. rw (e, g, f) refl)
    ] refl
  ] refl
] refl

two_completes : (text : List ℕ) → after_two_quotes text ≡ None → Completes after_two_quotes text
two_completes [] h = cc h
two_completes (c ∷ cs) h = elim (c == 34) as (λ (b : Bool). (c == 34) ≡ b → Completes after_two_quotes (c ∷ cs)) [
  | true ↦ λ e. completes_as after_two_quotes (triple_at [] (some_quotes [])) (c ∷ cs) cs (triple_completes [] (some_quotes []) cs (rw e at h)) (λ more. rw e refl)
  | false ↦ λ e. cc (rw e at h)
] refl

one_short : (c : ℕ) (cs : List ℕ) → (c == 34) ≡ false → after_one_quote (c ∷ cs) ≡ short_at [] false (c ∷ cs)
one_short c cs e = rw e refl

-- after the first quote
pub string_completes : (text : List ℕ) → after_one_quote text ≡ None → Completes after_one_quote text
string_completes [] h = (120 ∷ 34 ∷ [], [] ++ encode_utf8 120, refl)
string_completes (c ∷ cs) h = elim (c == 34) as (λ (b : Bool). (c == 34) ≡ b → Completes after_one_quote (c ∷ cs)) [
  | true ↦ λ e. completes_as after_one_quote after_two_quotes (c ∷ cs) cs (two_completes cs (rw e at h)) (λ more. rw e refl)
  | false ↦ λ e. completes_as after_one_quote (short_at [] false) (c ∷ cs) (c ∷ cs) (short_completes [] false (c ∷ cs) (sym (one_short c cs e) ∙ h)) (λ more. one_short c (cs ++ more) e)
] refl
