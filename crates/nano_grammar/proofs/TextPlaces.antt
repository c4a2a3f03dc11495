-- Where errors stand in a text, from how far a reader went.
use Rattle.std.proofs.Common.{◌≡◌, ◌-◌, ℕ, List, [], ◌∷◌, length, length-append, refl, sym, ap, ◌∙◌, arith}
use Rattle.std.specs.declared.str.Chars.{Chars}
use Rattle.nano_text.specs.declared.place.Place.{Place}
use Rattle.nano_text.specs.Place.{held, tail, text_at, before_nul, beginning, Passes, Advances, Moves}
use Rattle.nano_text.proofs.PlaceLaws.{passed_same, passes_append, moves_advance, advances_append}
use Rattle.nano_text.proofs.PlaceLaws.{advances_within}
use Rattle.nano_grammar.specs.Outcomes.{StandsBefore}

tail_length : (cs : List ℕ) → length (tail cs) ≡ length cs - 1
tail_length [] = refl
tail_length (c ∷ cs) = omega arith

-- a first step from before the first character, and then exactly as far as a reader went
pub stands_before : {whole text left : List ℕ} {start p q : Place} {i j : Chars} {line column : ℕ}
    → text ≡ whole → start.line ≡ 0 → start.col ≡ 0
    → Passes start text p (held i) → held i ≡ tail text → text_at p i ≡ before_nul text
    → Moves p i q j → left ≡ text_at q j → line ≡ q.line → column ≡ q.col
    → StandsBefore whole left line column
stands_before {whole} {text} {left} {start} {p} {q} {i} {j} same line column first one rest h is lines columns =
    let all = passes_append first h.passes in
    let moved = passed_same beginning start all.taken (sym line) (sym column) in
    rw (sym same) (record {
      taken = all.taken;
      after = held j;
      split = all.split;
      lines = lines ∙ (all.line ∙ sym moved.0);
      columns = columns ∙ (all.col ∙ sym moved.1);
      exact = omega (
        arith,
        h.exact,
        h.within,
        ap length is,
        ap length one,
        tail_length text,
        ap length rest,
      );
    })
