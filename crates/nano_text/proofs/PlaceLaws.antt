-- The laws of places: what is passed in parts is passed as a whole.
use Rattle.std.specs.Prelude.{◌≡◌, ℕ, ◌+◌, ◌-◌, ◌≤◌, List, [], ◌∷◌, ◌++◌, length, refl}
use Rattle.std.proofs.Common.{sym, ◌∙◌, ap, append_assoc, arith, length-append}
use Rattle.std.specs.declared.str.Chars.{Chars}
use Rattle.std.specs.Str.{chars}
use Rattle.std.specs.Str.Iter.{chars_rest}
use Rattle.nano_text.proofs.RemainingText.{same_remaining}
use Rattle.nano_text.specs.declared.place.Place.{Place}
use Rattle.nano_text.specs.Place.{held, tail, text_at, place_after, passed, Passes, Advances, Moves}
use Rattle.nano_text.specs.Place.{before_nul, beginning, StandsIn}

passed_append : (place : Place) (xs ys : List ℕ)
    → passed place (xs ++ ys) ≡ passed (passed place xs) ys
passed_append place [] ys = refl
passed_append place (x ∷ xs) ys = passed_append (place_after place (x ∷ [])) xs ys

-- the current character does not matter
pub passed_same : (p q : Place) (cs : List ℕ) → p.line ≡ q.line → p.col ≡ q.col
    → ((passed p cs).line ≡ (passed q cs).line) × ((passed p cs).col ≡ (passed q cs).col)
passed_same p q [] line col = (line, col)
passed_same p q (c ∷ cs) line col =
    let one : place_after p (c ∷ []) ≡ place_after q (c ∷ []) = rw (line, col) refl in
    (ap (λ (r : Place). (passed r cs).line) one, ap (λ (r : Place). (passed r cs).col) one)

-- nothing is taken
pub passes_none : (place : Place) (text : List ℕ) → Passes place text place text
passes_none place text = record { taken = []; split = refl; line = refl; col = refl }

-- one part after another
pub passes_append : {p q r : Place} {before between after : List ℕ}
    → Passes p before q between → Passes q between r after → Passes p before r after
passes_append {p} {q} {r} {before} {between} {after} h k =
    let same = passed_same q (passed p h.taken) k.taken h.line h.col in
    let whole = sym (passed_append p h.taken k.taken) in
    record {
      taken = h.taken ++ k.taken;
      split = h.split
          ∙ (ap (λ (l : List ℕ). h.taken ++ l) k.split ∙ sym (append_assoc h.taken k.taken after));
      line = k.line ∙ (same.0 ∙ ap (λ (s : Place). s.line) whole);
      col = k.col ∙ (same.1 ∙ ap (λ (s : Place). s.col) whole);
    }

-- one step of `Place::next`
pub passes_next : (p q : Place) (before after : List ℕ) → q ≡ place_after p before
    → after ≡ tail before → Passes p before q after
passes_next p q [] after place left =
    record {
      taken = [];
      split = sym left;
      line = ap (λ (s : Place). s.line) place;
      col = ap (λ (s : Place). s.col) place;
    }
passes_next p q (c ∷ cs) after place left =
    record {
      taken = c ∷ [];
      split = ap (λ (l : List ℕ). c ∷ l) (sym left);
      line = ap (λ (s : Place). s.line) place;
      col = ap (λ (s : Place). s.col) place;
    }

-- ---- how a reader advances

-- what was taken, counted by what the iterator held and holds
pub advances_by : (p q : Place) (i j : Chars) → Passes p (held i) q (held j)
    → length (held i) + length (text_at q j) ≤ length (text_at p i) + length (held j)
    → Advances p i q j
advances_by p q i j passes small =
    let split = ap length passes.split in
    record {
      passes = passes;
      within = omega (arith, split, length-append passes.taken (held j), small);
    }

-- and back
pub advances_within : {p q : Place} {i j : Chars} → Advances p i q j
    → length (held i) + length (text_at q j) ≤ length (text_at p i) + length (held j)
advances_within {p} {q} {i} {j} h =
    omega (arith, ap length h.passes.split, length-append h.passes.taken (held j), h.within)

-- nothing is taken
pub advances_none : (p : Place) (i : Chars) → Advances p i p i
advances_none p i = advances_by p p i i (passes_none p (held i)) (omega arith)

-- one part after another
pub advances_append : {p q r : Place} {i j k : Chars}
    → Advances p i q j → Advances q j r k → Advances p i r k
advances_append {p} {q} {r} {i} {j} {k} h g =
    advances_by p r i k (passes_append h.passes g.passes)
    (omega (arith, advances_within h, advances_within g))

-- a list is its first and what comes after it
pub tail_shorter : (cs : List ℕ) → length cs ≤ length (tail cs) + 1
tail_shorter [] = omega arith
tail_shorter (c ∷ cs) = omega arith

-- the text ends there, whatever the iterator still holds
pub advances_ended : {p q : Place} {i j : Chars} (r : Place) → Advances p i q j
    → r.line ≡ q.line → r.col ≡ q.col → text_at r j ≡ [] → Advances p i r j
advances_ended {p} {q} {i} {j} r h line col none =
    advances_by p r i j
    (record {
      taken = h.passes.taken;
      split = h.passes.split;
      line = line ∙ h.passes.line;
      col = col ∙ h.passes.col;
    })
    (omega (arith, advances_within h, ap length none))

-- ---- how a reader moves that does not give up

-- a list without its first
pub tail_len : (cs : List ℕ) → length (tail cs) ≡ length cs - 1
tail_len [] = omega arith
tail_len (c ∷ cs) = omega arith

-- nothing is taken
pub moves_none : (p : Place) (i : Chars) → Moves p i p i
moves_none p i =
    record { passes = passes_none p (held i); within = omega arith; exact = omega arith }

-- one part after another
pub moves_append : {p q r : Place} {i j k : Chars} → Moves p i q j → Moves q j r k → Moves p i r k
moves_append {p} {q} {r} {i} {j} {k} h g = record {
  passes = passes_append h.passes g.passes;
  within = omega (arith, h.within, g.within);
  exact = omega (arith, h.within, g.within, h.exact, g.exact);
}

-- one step of `Place::next`, at a character of the text
pub moves_next : (p q : Place) (i j : Chars) → Passes p (held i) q (held j)
    → held j ≡ tail (held i) → text_at p i ≡ p.cur ∷ text_at q j → Moves p i q j
moves_next p q i j passes left taken = record {
  passes = passes;
  within = omega (arith, ap length taken);
  exact = omega (arith, tail_len (held i), ap length left, ap length taken);
}

-- what moved went on
pub moves_advance : {p q : Place} {i j : Chars} → Moves p i q j → Advances p i q j
moves_advance {p} {q} {i} {j} h =
    let split = ap length h.passes.split in
    let parts = length-append h.passes.taken (held j) in
    record { passes = h.passes; within = omega (arith, split, parts, h.within, h.exact) }

-- ==== places in a text

-- a first step from before the first character, and then as far as a reader went
pub stands_in : {whole text : List ℕ} {start p q : Place} {i j : Chars} {line column : ℕ}
    → text ≡ whole → start.line ≡ 0 → start.col ≡ 0
    → Passes start text p (held i) → held i ≡ tail text → text_at p i ≡ before_nul text
    → Advances p i q j → line ≡ q.line → column ≡ q.col → StandsIn whole line column
stands_in {whole} {text} {start} {p} {q} {i} {j} same line column first left rest h lines columns =
    let all = passes_append first h.passes in
    let moved = passed_same beginning start all.taken (sym line) (sym column) in
    rw (sym same) (record {
      taken = all.taken;
      after = held j;
      split = all.split;
      lines = lines ∙ (all.line ∙ sym moved.0);
      columns = columns ∙ (all.col ∙ sym moved.1);
      within = omega (
        arith,
        length-append all.taken (held j),
        ap length all.split,
        tail_shorter text,
        ap length left,
        ap length rest,
        advances_within h,
      );
    })

-- whichever copy of the input is read
pub moves_from : (p q : Place) (i j k : Chars) → chars_rest i ≡ chars_rest j → Moves p i q k → Moves p j q k
moves_from p q i j k e h = record {
  passes = record {
    taken = h.passes.taken;
    split = sym (ap chars e) ∙ h.passes.split;
    line = h.passes.line;
    col = h.passes.col;
  };
  within = omega (arith, h.within, ap length (same_remaining p.cur i j e));
  exact = omega (arith, h.exact, ap (λ (bytes : List ℕ). length (chars bytes)) e, ap length (same_remaining p.cur i j e));
}
