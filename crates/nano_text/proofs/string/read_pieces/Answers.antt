use Rattle.std.proofs.Common.{◌≡◌, ◌≢◌, ◌∷◌, ◌++◌, ℕ, [], refl, sym, ◌∙◌, ap, arith, length}
use Rattle.std.proofs.Common.{length-append, string_bytes, encode_utf8, true, ne_eqb}
use Rattle.nano_text.specs.Place.{text_at}
use Rattle.nano_text.specs.String.{is_plain}
use Rattle.nano_text.proofs.RemainingText.{remaining_end, remaining-first}
use Rattle.nano_text.proofs.Strings.{piece_some, nothing_read, reads_piece, reads_plain, no_string}
use Rattle.nano_text.proofs.Strings.{written_le}
use Rattle.nano_text.proofs.Prefixes.{after_shorter, plain_cut}
use Rattle.nano_text.proofs.PlaceLaws.{moves_none, moves_append}
use Rattle.nano_text.specs.Breaks.{is_quote, no_quote}
use Rattle.nano_text.proofs.RemainingText.{remaining_stop}
use Rattle.nano_text.proofs.BreaksLaws.{string_ends, escape_breaks}
use Rattle.nano_text.proofs.string.read_pieces.Goals as goal

-- the opening quote comes off the text
quote_some : (cur : ℕ) → cur ≡ 34 → cur ≢ 0
quote_some cur e z = omega (arith, e, z)

pub returns-then-p-ne34-clause-malformed : goal.returns-then-p-ne34-clause-malformed
returns-then-p-ne34-clause-malformed c error characters rest string =
    c.if-p-ne34.true (remaining-first c.args.p.now.cur 34 c.args.i.now _ string.split)

pub returns-then-p-eq0-clause-malformed : goal.returns-then-p-eq0-clause-malformed
returns-then-p-eq0-clause-malformed c error characters rest string =
    let quote = c.next.ensures.taken (quote_some _ c.if-p-ne34.false) ∙ ap (λ (n : ℕ). n ∷ text_at c.next.new.self c.next.new.i) c.if-p-ne34.false in
    let at_end : text_at c.pieces.p c.pieces.i ≡ [] = rw c.if-p-eq0.true (remaining_end c.pieces.i) in
    no_string _ _ _ _ characters rest quote c.pieces.invariant.read (λ y e. let n : [] ≡ 34 ∷ y = sym at_end ∙ e in cc n) (λ p y good e. piece_some p y (sym at_end ∙ e)) string

pub pieces-preserved : goal.pieces-preserved
pieces-preserved c =
    let piece = c.in-Some.ensures.taken in
    record {
      read = reads_piece _ _ _ _ _ piece.0 c.pieces.invariant.read piece.1 piece.3 (c.in_ok-push.ensures.bytes ∙ ap (λ (n : ℕ). string_bytes c.pieces.strbuf ++ encode_utf8 n) piece.2);
      place = moves_append c.pieces.invariant.place c.in-Some.ensures.place;
      capacity = omega (arith, c.pieces.invariant.capacity, c.in_ok-push.ensures.capacity);
    }

pub returns-in_err-push-clause-memory : goal.returns-in_err-push-clause-memory
returns-in_err-push-clause-memory c error characters rest string =
    let quote = c.next.ensures.taken (quote_some _ c.if-p-ne34.false) ∙ ap (λ (n : ℕ). n ∷ text_at c.next.new.self c.next.new.i) c.if-p-ne34.false in
    let piece = c.in-Some.ensures.taken in
    let more = reads_piece _ _ _ (string_bytes c.pieces.strbuf ++ encode_utf8 c.in-Some.c) _ piece.0 c.pieces.invariant.read piece.1 piece.3 (ap (λ (n : ℕ). string_bytes c.pieces.strbuf ++ encode_utf8 n) piece.2) in
    omega (arith, written_le _ _ _ _ characters rest quote more string, c.pieces.invariant.capacity, c.in_err-push.ensures.full, c.pieces.strbuf.bytes.ok.0, length-append (string_bytes c.pieces.strbuf) (encode_utf8 c.in-Some.c))

pub returns-in_default-clause-malformed : goal.returns-in_default-clause-malformed
returns-in_default-clause-malformed c error characters rest string =
    let quote = c.next.ensures.taken (quote_some _ c.if-p-ne34.false) ∙ ap (λ (n : ℕ). n ∷ text_at c.next.new.self c.next.new.i) c.if-p-ne34.false in
    no_string _ _ _ _ characters rest quote c.pieces.invariant.read
    (λ y e. let n : c.pieces.p.cur ≡ 34 = remaining-first c.pieces.p.cur 34 c.pieces.i y e in omega (arith, n, c.if-p-ne92.false))
    (λ p y good e. c.in_default.ensures.none refl p y good e) string

pub pieces-smaller-then-p-ne92 : goal.pieces-smaller-then-p-ne92
pieces-smaller-then-p-ne92 c =
    let plain : is_plain c.pieces.p.cur ≡ true = rw (ne_eqb _ 34 c.pieces-test.true, ne_eqb _ 92 c.if-p-ne92.true, ne_eqb _ 0 c.if-p-eq0.false) refl in
    omega (arith, ap length c.in_ok-take_plain.ensures.rest, after_shorter is_plain refl plain_cut c.pieces.p.cur c.pieces.i plain)

pub pieces-preserved-then-p-ne92 : goal.pieces-preserved-then-p-ne92
pieces-preserved-then-p-ne92 c = record {
  read = reads_plain is_plain (λ x h. h) _ _ _ _ _ c.pieces.invariant.read c.in_ok-take_plain.ensures.rest c.in_ok-take_plain.ensures.taken;
  place = moves_append c.pieces.invariant.place c.in_ok-take_plain.ensures.place;
  capacity = omega (arith, c.pieces.invariant.capacity, c.in_ok-take_plain.ensures.capacity);
}

pub returns-in_err-take_plain-clause-memory : goal.returns-in_err-take_plain-clause-memory
returns-in_err-take_plain-clause-memory c error characters rest string =
    let quote = c.next.ensures.taken (quote_some _ c.if-p-ne34.false) ∙ ap (λ (n : ℕ). n ∷ text_at c.next.new.self c.next.new.i) c.if-p-ne34.false in
    let more = reads_plain is_plain (λ x h. h) _ _ _ _ _ c.pieces.invariant.read refl refl in
    omega (arith, written_le _ _ _ _ characters rest quote more string, c.pieces.invariant.capacity, c.in_err-take_plain.ensures.full)

pub returns-then-p-ne34-clause-place : goal.returns-then-p-ne34-clause-place
returns-then-p-ne34-clause-place c = moves_none c.args.p.now c.args.i.now

pub pieces-init : goal.pieces-init
pieces-init c = record {
  read = rw c.clear.ensures.bytes (nothing_read _);
  place = c.next.ensures.counts (quote_some _ c.if-p-ne34.false);
  capacity = omega (arith, c.clear.ensures.capacity);
}

pub returns-then-p-eq0-clause-place : goal.returns-then-p-eq0-clause-place
returns-then-p-eq0-clause-place c = c.pieces.invariant.place

pub returns-in_err-take_plain-clause-place : goal.returns-in_err-take_plain-clause-place
returns-in_err-take_plain-clause-place c = moves_append c.pieces.invariant.place c.in_err-take_plain.ensures.place

pub returns-in_default-clause-place : goal.returns-in_default-clause-place
returns-in_default-clause-place c = moves_append c.pieces.invariant.place c.in_default.ensures.place

pub returns-in_err-push-clause-place : goal.returns-in_err-push-clause-place
returns-in_err-push-clause-place c = moves_append c.pieces.invariant.place c.in-Some.ensures.place

pub returns-clause-place : goal.returns-clause-place
returns-clause-place c =
    moves_append c.pieces.invariant.place (c.next-2.ensures.counts (quote_some _ c.pieces-test.false))

pub returns-then-p-ne34-clause-breaks : goal.returns-then-p-ne34-clause-breaks
returns-then-p-ne34-clause-breaks c error =
    no_quote refl (remaining_stop is_quote c.args.p.now.cur c.args.i.now refl (ne_eqb _ 34 c.if-p-ne34.true))

pub returns-then-p-eq0-clause-breaks : goal.returns-then-p-eq0-clause-breaks
returns-then-p-eq0-clause-breaks c error =
    let quote = c.next.ensures.taken (quote_some _ c.if-p-ne34.false) ∙ ap (λ (n : ℕ). n ∷ text_at c.next.new.self c.next.new.i) c.if-p-ne34.false in
    let at_end : text_at c.pieces.p c.pieces.i ≡ [] = rw c.if-p-eq0.true (remaining_end c.pieces.i) in
    string_ends _ _ _ _ quote c.pieces.invariant.read at_end

pub returns-in_default-clause-breaks : goal.returns-in_default-clause-breaks
returns-in_default-clause-breaks c error =
    let quote = c.next.ensures.taken (quote_some _ c.if-p-ne34.false) ∙ ap (λ (n : ℕ). n ∷ text_at c.next.new.self c.next.new.i) c.if-p-ne34.false in
    let escape = c.in_default.ensures.breaks refl in
    escape_breaks _ _ _ _ escape.0 _ quote c.pieces.invariant.read escape.1 escape.2
