-- What several writes write, one after the other.
use Rattle.std.proofs.Common.{◌≡◌, ℕ, ◌+◌, ◌-◌, List, [], ◌∷◌, ◌++◌, Option, Result, Ok, Err, OnOk, map, take, drop, length}
use Rattle.std.proofs.Common.{encode_utf8, encode_utf8_all, refl, ap, sym, ◌∙◌, append_assoc, append-nil}
use Rattle.std.proofs.lemmas.List.{map-append}
use Rattle.std.proofs.lemmas.Str.{encodes-append}
use Rattle.std.proofs.KnownBytes.{Appends-trans}
use Rattle.std.specs.Io.KnownBytes.{Appends}
use Rattle.nano_text.specs.Characters.{line_feed}
use Rattle.nano_text_forms.specs.Shown.{blank, visible, dots, side, caret, start_of, ahead_of, excerpt}

pub itself : (xs : List ℕ) → map (λ x. x) xs ≡ xs
itself [] = refl
itself (x ∷ xs) = ap (λ l. x ∷ l) (itself xs)

-- one more character is written
pub more_written : (xs : List ℕ) (c v : ℕ) → v ≡ visible c
    → encode_utf8_all (map visible xs) ++ encode_utf8 v ≡ encode_utf8_all (map visible (xs ++ c ∷ []))
more_written xs c v is =
    let whole = ap encode_utf8_all (map-append visible xs (c ∷ [])) ∙ encodes-append (map visible xs) (visible c ∷ []) in
    ap (λ (x : ℕ). encode_utf8_all (map visible xs) ++ encode_utf8 x) is
    ∙ (ap (λ (l : List ℕ). encode_utf8_all (map visible xs) ++ l) (sym (append-nil (encode_utf8 (visible c)))) ∙ sym whole)

-- a write after what was written
pub then_writes : {T E : Type 0} (r : Result T E) (a b c : Option (List ℕ)) (xs ys : List ℕ) → Appends a b xs
    → OnOk r (Appends b c ys) → OnOk r (Appends a c (xs ++ ys))
then_writes (Ok x) a b c xs ys h k = Appends-trans a b c xs ys h k
then_writes (Err x) a b c xs ys h k = tt

-- the six writes of an excerpt, in turn
in_turn : (d p e l m b k : List ℕ) → d ++ (p ++ ((e ++ l) ++ (m ++ (b ++ k)))) ≡ (d ++ (p ++ (e ++ l))) ++ ((m ++ b) ++ k)
in_turn d p e l m b k = simp append_assoc

pub is_excerpt : (line : List ℕ) (before start left_out : ℕ) (d e m : List ℕ) → start ≡ before - 60
    → left_out ≡ length line - start - ((before - start) + 60) → d ≡ dots start → e ≡ dots left_out → m ≡ map blank (dots start)
    → d ++ (encode_utf8_all (map visible (take ((before - start) + 60) (drop start line))) ++ ((e ++ (line_feed ∷ []))
    ++ (m ++ (map blank (take (before - start) (drop start line)) ++ (caret ∷ line_feed ∷ []))))) ≡ excerpt line before
is_excerpt line before start left_out d e m is_start is_left is_d is_e is_m =
    rw (is_d, is_e, is_m, is_left, is_start)
    (in_turn (dots (before - 60)) _ (dots (length line - (before - 60) - ((before - (before - 60)) + 60))) (line_feed ∷ []) (map blank (dots (before - 60))) _ (caret ∷ line_feed ∷ [])
    ∙ ap (λ l. (dots (start_of before) ++ (encode_utf8_all (map visible (take (ahead_of before + side) (drop (start_of before) line)))
    ++ (dots (length line - start_of before - (ahead_of before + side)) ++ (line_feed ∷ [])))) ++ (l ++ (caret ∷ line_feed ∷ [])))
    (sym (map-append blank (dots (before - 60)) (take (before - (before - 60)) (drop (before - 60) line)))))
