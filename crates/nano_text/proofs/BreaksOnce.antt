-- Where a lexeme goes wrong, a reader goes to one place.
use Rattle.std.proofs.Common.{◌≡◌, ℕ, ◌<◌, ◌≤◌, List, [], ◌∷◌, ◌++◌, true, false, refl, sym, ap, ◌∙◌}
use Rattle.std.proofs.Common.{subst, arith, append_assoc, append-nil, flat_map, length, None, Some}
use Rattle.std.specs.Char.{is_ascii_digit, is_ascii_hexdigit}
use Rattle.std.specs.List.{AllByRecursion}
use Rattle.nano_text.specs.Breaks.{BreaksNumber, BreaksUnit, BreaksPair, BreaksUnicode, BreaksEscape}
use Rattle.nano_text.specs.Breaks.{BreaksString, IsTrailing, is_backslash, is_letter_u, is_quote}
use Rattle.nano_text.specs.Breaks.{no_backslash, no_letter, no_second, no_trailing, no_unit, trails}
use Rattle.nano_text.specs.Breaks.{no_pair, nothing, unicode, no_quote, ended, escape}
use Rattle.nano_text.specs.Characters.{first_is, prefix, following}
use Rattle.nano_text.specs.Number.{is_sign, run_text, IsGood, IsNumber}
use Rattle.nano_text.specs.declared.number.Number.{Number}
use Rattle.nano_text.specs.declared.number.Number.TheVariants.{Dec}
use Rattle.nano_text.specs.Scan.{after_run}
use Rattle.nano_text.specs.ScanLaws.{run_at}
use Rattle.nano_text.specs.String.{CodeUnit, IsHex, IsPiece, Piece, piece_text, unit_text, unit_value}
use Rattle.nano_text.specs.String.{IsString}
use Rattle.nano_text.proofs.Numbers.{number_good}
use Rattle.nano_text.proofs.Prefixes.{prefix_all}
use Rattle.nano_text.proofs.Runs.{signed_run_again}
use Rattle.nano_text.proofs.Strings.{same_after_first, same_unit, same_piece, unit_of_piece, paired}
use Rattle.nano_text.proofs.Strings.{piece_some, piece_longer, piece_no_quote}

-- ---- numbers

-- the run that goes wrong is the one that is taken
signed_run : (text rest : List ℕ) (h : BreaksNumber text rest) → h.parts.sign ≡ None → first_is is_sign (run_text h.parts ++ rest) ≡ false
signed_run text rest h n = sym (ap (first_is is_sign) h.split) ∙ h.signed n

number_after : (text rest : List ℕ) → BreaksNumber text rest → after_run text ≡ rest
number_after text rest h =
    ap after_run h.split ∙ (signed_run_again h.parts rest h.is_run (signed_run text rest h) h.minus h.ends).1

pub number_once : (text a b : List ℕ) → BreaksNumber text a → BreaksNumber text b → a ≡ b
number_once text a b h k = sym (number_after text a h) ∙ number_after text b k

-- ---- escapes

pub not_backslash : (text rest : List ℕ) → first_is is_backslash text ≡ false → text ≡ 92 ∷ rest → ⊥
not_backslash text rest none is =
    let x : first_is is_backslash (92 ∷ rest) ≡ false = subst (λ (l : List ℕ). first_is is_backslash l ≡ false) is none in cc x

not_letter_u : (text rest : List ℕ) → first_is is_letter_u text ≡ false → text ≡ 117 ∷ rest → ⊥
not_letter_u text rest none is =
    let x : first_is is_letter_u (117 ∷ rest) ≡ false = subst (λ (l : List ℕ). first_is is_letter_u l ≡ false) is none in cc x

not_quote : (text rest : List ℕ) → first_is is_quote text ≡ false → text ≡ 34 ∷ rest → ⊥
not_quote text rest none is =
    let x : first_is is_quote (34 ∷ rest) ≡ false = subst (λ (l : List ℕ). first_is is_quote l ≡ false) is none in cc x

after_two : (text xs ys : List ℕ) → text ≡ 92 ∷ (117 ∷ xs) → text ≡ 92 ∷ (117 ∷ ys) → xs ≡ ys
after_two text xs ys e f = cc (e, f)

-- the digits are as many as there are
unit_after : (text rest : List ℕ) → BreaksUnit text rest → following is_ascii_hexdigit text ≡ rest
unit_after text rest h =
    ap (following is_ascii_hexdigit) h.split ∙ (prefix_all is_ascii_hexdigit h.digits rest h.hex h.ends).1

pub unit_once : (text a b : List ℕ) → BreaksUnit text a → BreaksUnit text b → a ≡ b
unit_once text a b h k = sym (unit_after text a h) ∙ unit_after text b k

-- and no code unit begins with fewer than four
unit_whole : (text rest left : List ℕ) (unit : CodeUnit) → BreaksUnit text rest → IsHex unit → text ≡ unit_text unit ++ left → ⊥
unit_whole text rest left unit h hex is =
    let few = (prefix_all is_ascii_hexdigit h.digits rest h.hex h.ends).0 in
    let more = prefix is_ascii_hexdigit left in
    let four : prefix is_ascii_hexdigit (unit_text unit ++ left) ≡ unit_text unit ++ more = rw (hex.0, hex.1, hex.2, hex.3) refl in
    let same : h.digits ≡ unit_text unit ++ more = sym few ∙ (ap (prefix is_ascii_hexdigit) (sym h.split ∙ is) ∙ four) in
    omega (arith, ap length same, h.few)

pub pair_once : (text a b : List ℕ) → BreaksPair text a → BreaksPair text b → a ≡ b
pair_once text a b (no_backslash e n) (no_backslash f m) = sym e ∙ f
pair_once text a b (no_backslash e n) (no_letter f m) = absurd (not_backslash a b n (sym e ∙ f))
pair_once text a b (no_backslash e n) (no_second ds f u) = absurd (not_backslash a (117 ∷ ds) n (sym e ∙ f))
pair_once text a b (no_backslash e n) (no_trailing v hex t f) = absurd (not_backslash a (117 ∷ (unit_text v ++ b)) n (sym e ∙ f))
pair_once text a b (no_letter e n) (no_backslash f m) = absurd (not_backslash b a m (sym f ∙ e))
pair_once text a b (no_letter e n) (no_letter f m) = same_after_first 92 92 text a b e f
pair_once text a b (no_letter e n) (no_second ds f u) = absurd (not_letter_u a ds n (same_after_first 92 92 text a (117 ∷ ds) e f))
pair_once text a b (no_letter e n) (no_trailing v hex t f) =
    absurd (not_letter_u a (unit_text v ++ b) n (same_after_first 92 92 text a (117 ∷ (unit_text v ++ b)) e f))
pair_once text a b (no_second ds e u) (no_backslash f m) = absurd (not_backslash b (117 ∷ ds) m (sym f ∙ e))
pair_once text a b (no_second ds e u) (no_letter f m) = absurd (not_letter_u b ds m (same_after_first 92 92 text b (117 ∷ ds) f e))
pair_once text a b (no_second ds e u) (no_second es f v) =
    unit_once es a b (subst (λ (l : List ℕ). BreaksUnit l a) (after_two text ds es e f) u) v
pair_once text a b (no_second ds e u) (no_trailing v hex t f) =
    absurd (unit_whole ds a b v u hex (after_two text ds (unit_text v ++ b) e f))
pair_once text a b (no_trailing u hex t e) (no_backslash f m) = absurd (not_backslash b (117 ∷ (unit_text u ++ a)) m (sym f ∙ e))
pair_once text a b (no_trailing u hex t e) (no_letter f m) =
    absurd (not_letter_u b (unit_text u ++ a) m (same_after_first 92 92 text b (117 ∷ (unit_text u ++ a)) f e))
pair_once text a b (no_trailing u hex t e) (no_second es f v) =
    absurd (unit_whole es b a u v hex (after_two text es (unit_text u ++ a) f e))
pair_once text a b (no_trailing u hex t e) (no_trailing v six s f) =
    (same_unit u v a b (after_two text (unit_text u ++ a) (unit_text v ++ b) e f)).1

-- a surrogate that trails is none that leads
trails_not_leads : (u v : CodeUnit) → u ≡ v → 0xDC00 ≤ unit_value u → unit_value v < 0xDC00 → ⊥
trails_not_leads u v same low high = omega (arith, ap unit_value same)

pub unicode_once : (text a b : List ℕ) → BreaksUnicode text a → BreaksUnicode text b → a ≡ b
unicode_once text a b (no_unit h) (no_unit k) = unit_once text a b h k
unicode_once text a b (no_unit h) (trails v hex t f) = absurd (unit_whole text a b v h hex f)
unicode_once text a b (no_unit h) (no_pair v after hex l f p) = absurd (unit_whole text a after v h hex f)
unicode_once text a b (trails u hex t e) (no_unit k) = absurd (unit_whole text b a u k hex e)
unicode_once text a b (trails u hex t e) (trails v six s f) = (same_unit u v a b (sym e ∙ f)).1
unicode_once text a b (trails u hex t e) (no_pair v after six l f p) =
    absurd (trails_not_leads u v (same_unit u v a after (sym e ∙ f)).0 t.0 l.1)
unicode_once text a b (no_pair u after hex l e p) (no_unit k) = absurd (unit_whole text b after u k hex e)
unicode_once text a b (no_pair u after hex l e p) (trails v six t f) =
    absurd (trails_not_leads v u (same_unit v u b after (sym f ∙ e)).0 t.0 l.1)
unicode_once text a b (no_pair u after hex l e p) (no_pair v other six m f q) =
    let same = (same_unit u v after other (sym e ∙ f)).1 in
    pair_once other a b (subst (λ (t : List ℕ). BreaksPair t a) same p) q

pub escape_once : (text a b : List ℕ) → BreaksEscape text a → BreaksEscape text b → a ≡ b
escape_once text a b (nothing e r) (nothing f s) = r ∙ sym s
escape_once text a b (nothing e r) (unicode ds f u) = let x : [] ≡ 117 ∷ ds = sym e ∙ f in cc x
escape_once text a b (unicode ds e u) (nothing f s) = let x : [] ≡ 117 ∷ ds = sym f ∙ e in cc x
escape_once text a b (unicode ds e u) (unicode es f v) =
    let same = same_after_first 117 117 text ds es e f in
    unicode_once es a b (subst (λ (t : List ℕ). BreaksUnicode t a) same u) v

-- ---- no piece begins where an escape goes wrong

pair_stuck : (text rest left : List ℕ) (unit : CodeUnit) → BreaksPair text rest → IsHex unit → IsTrailing unit
    → text ≡ 92 ∷ (117 ∷ (unit_text unit ++ left)) → ⊥
pair_stuck text rest left unit (no_backslash e n) hex t is = not_backslash rest (117 ∷ (unit_text unit ++ left)) n (sym e ∙ is)
pair_stuck text rest left unit (no_letter e n) hex t is =
    not_letter_u rest (unit_text unit ++ left) n (same_after_first 92 92 text rest (117 ∷ (unit_text unit ++ left)) e is)
pair_stuck text rest left unit (no_second ds e u) hex t is =
    unit_whole ds rest left unit u hex (after_two text ds (unit_text unit ++ left) e is)
pair_stuck text rest left unit (no_trailing v six s e) hex t is =
    s (subst IsTrailing (same_unit unit v left rest (after_two text (unit_text unit ++ left) (unit_text v ++ rest) is e)).0 t)

unicode_stuck : (text rest left : List ℕ) (piece : Piece) → BreaksUnicode text rest → IsPiece piece
    → 92 ∷ (117 ∷ text) ≡ piece_text piece ++ left → ⊥
unicode_stuck text rest left piece (no_unit h) good is =
    let r = unit_of_piece piece text left good is in
    unit_whole text rest r.2 r.0 h r.1 r.3
unicode_stuck text rest left piece (trails v hex t e) good is =
    let q = paired piece v text rest left good is e (omega (arith, t.0)) t.1 in
    omega (arith, q.leads, t.0)
unicode_stuck text rest left piece (no_pair v after hex l e p) good is =
    let q = paired piece v text after left good is e l.0 (omega (arith, l.1)) in
    pair_stuck after rest left q.trail p q.trail_hex (q.trail_low, q.trail_high) q.split

escape_stuck : (after rest left : List ℕ) (piece : Piece) → BreaksEscape after rest → IsPiece piece
    → 92 ∷ after ≡ piece_text piece ++ left → ⊥
escape_stuck after rest left piece (nothing e r) good is =
    piece_longer piece left good (ap (λ (l : List ℕ). 92 ∷ l) (sym e) ∙ is)
escape_stuck after rest left piece (unicode ds e u) good is =
    unicode_stuck ds rest left piece u good (ap (λ (l : List ℕ). 92 ∷ l) (sym e) ∙ is)

-- ---- strings

-- no piece begins this text
Stuck : List ℕ → Type 0
Stuck text = (piece : Piece) (left : List ℕ) → IsPiece piece → text ≡ piece_text piece ++ left → ⊥

-- two lists of pieces that begin one text, and are as long as they go, leave one rest
stuck_once : (ps qs : List Piece) (x y : List ℕ) → AllByRecursion IsPiece ps → AllByRecursion IsPiece qs → Stuck x → Stuck y
    → flat_map piece_text ps ++ x ≡ flat_map piece_text qs ++ y → x ≡ y
unfolding Stuck
stuck_once [] [] x y h k s t e = e
stuck_once [] (q ∷ qs) x y h k s t e =
    absurd (s q (flat_map piece_text qs ++ y) k.0 (e ∙ append_assoc (piece_text q) (flat_map piece_text qs) y))
stuck_once (p ∷ ps) [] x y h k s t e =
    absurd (t p (flat_map piece_text ps ++ x) h.0 (sym e ∙ append_assoc (piece_text p) (flat_map piece_text ps) x))
stuck_once (p ∷ ps) (q ∷ qs) x y h k s t e =
    let rest_p = flat_map piece_text ps ++ x in
    let rest_q = flat_map piece_text qs ++ y in
    let same : piece_text p ++ rest_p ≡ piece_text q ++ rest_q =
    sym (append_assoc (piece_text p) (flat_map piece_text ps) x) ∙ (e ∙ append_assoc (piece_text q) (flat_map piece_text qs) y) in
    stuck_once ps qs x y h.1 k.1 s t (same_piece p q rest_p rest_q h.0 k.0 same).1

at_end : Stuck []
unfolding Stuck
at_end piece left good is = piece_some piece left is

at_escape : (after rest : List ℕ) → BreaksEscape after rest → Stuck (92 ∷ after)
unfolding Stuck
at_escape after rest breaks piece left good is = escape_stuck after rest left piece breaks good is

-- a string that ends too early has no escape that goes wrong
ended_no_escape : (text after rest : List ℕ) (ps qs : List Piece) → AllByRecursion IsPiece ps → AllByRecursion IsPiece qs
    → text ≡ 34 ∷ flat_map piece_text ps → text ≡ 34 ∷ (flat_map piece_text qs ++ 92 ∷ after) → BreaksEscape after rest → ⊥
ended_no_escape text after rest ps qs h k e f breaks =
    let inside = same_after_first 34 34 text (flat_map piece_text ps) (flat_map piece_text qs ++ 92 ∷ after) e f in
    let x : [] ≡ 92 ∷ after =
    stuck_once ps qs [] (92 ∷ after) h k at_end (at_escape after rest breaks) (append-nil (flat_map piece_text ps) ∙ inside) in
    cc x

pub string_once : (text a b : List ℕ) → BreaksString text a → BreaksString text b → a ≡ b
string_once text a b (no_quote e n) (no_quote f m) = sym e ∙ f
string_once text a b (no_quote e n) (ended qs k f s) = absurd (not_quote a (flat_map piece_text qs) n (sym e ∙ f))
string_once text a b (no_quote e n) (escape qs after k f x) =
    absurd (not_quote a (flat_map piece_text qs ++ 92 ∷ after) n (sym e ∙ f))
string_once text a b (ended ps h e r) (no_quote f m) = absurd (not_quote b (flat_map piece_text ps) m (sym f ∙ e))
string_once text a b (ended ps h e r) (ended qs k f s) = r ∙ sym s
string_once text a b (ended ps h e r) (escape qs after k f x) = absurd (ended_no_escape text after b ps qs h k e f x)
string_once text a b (escape ps after h e x) (no_quote f m) =
    absurd (not_quote b (flat_map piece_text ps ++ 92 ∷ after) m (sym f ∙ e))
string_once text a b (escape ps after h e x) (ended qs k f s) = absurd (ended_no_escape text after a qs ps k h f e x)
string_once text a b (escape ps after h e x) (escape qs other k f y) =
    let inside = same_after_first 34 34 text (flat_map piece_text ps ++ 92 ∷ after) (flat_map piece_text qs ++ 92 ∷ other) e f in
    let both : 92 ∷ after ≡ 92 ∷ other =
    stuck_once ps qs (92 ∷ after) (92 ∷ other) h k (at_escape after a x) (at_escape other b y) inside in
    let same : after ≡ other = cc both in
    escape_once other a b (subst (λ (t : List ℕ). BreaksEscape t a) same x) y

-- ---- no lexeme stands where one goes wrong

pub number_apart : (text rest left run : List ℕ) (n : Number) → BreaksNumber text rest → IsNumber text n run left → ⊥
number_apart text rest left run n h is =
    h.bad (subst IsGood (ap run_at h.split ∙ (signed_run_again h.parts rest h.is_run (signed_run text rest h) h.minus h.ends).0)
    (number_good text left run n is))

at_quote : (rest : List ℕ) → Stuck (34 ∷ rest)
unfolding Stuck
at_quote rest piece left good is = piece_no_quote piece left rest good (sym is)

pub string_apart : (text rest left characters : List ℕ) → BreaksString text rest → IsString text characters left → ⊥
string_apart text rest left characters (no_quote e n) is =
    not_quote rest (flat_map piece_text is.pieces ++ 34 ∷ left) n (sym e ∙ is.split)
string_apart text rest left characters (ended ps h e r) is =
    let inside = same_after_first 34 34 text (flat_map piece_text ps) (flat_map piece_text is.pieces ++ 34 ∷ left) e is.split in
    let x : [] ≡ 34 ∷ left =
    stuck_once ps is.pieces [] (34 ∷ left) h is.good at_end (at_quote left) (append-nil (flat_map piece_text ps) ∙ inside) in
    cc x
string_apart text rest left characters (escape ps after h e breaks) is =
    let inside =
    same_after_first 34 34 text (flat_map piece_text ps ++ 92 ∷ after) (flat_map piece_text is.pieces ++ 34 ∷ left) e is.split in
    let x : 92 ∷ after ≡ 34 ∷ left =
    stuck_once ps is.pieces (92 ∷ after) (34 ∷ left) h is.good (at_escape after rest breaks) (at_quote left) inside in
    let head : ◌≡◌ {A = ℕ} 92 34 = cc x in
    absurd (omega (arith, head))

-- ---- a decimal begins with any character that starts a number

pub signed_decimal : (c : ℕ) → is_sign c ≡ true → IsNumber (c ∷ 48 ∷ 46 ∷ []) Dec (c ∷ 48 ∷ 46 ∷ []) []
signed_decimal c h = record {
  parts = record { sign = Some c; whole = 48 ∷ []; fraction = Some []; exponent = None };
  is_run = record { sign = h; whole = refl; fraction = refl; letter = tt; digits = tt };
  good = omega arith;
  number_is = refl;
  run_is = refl;
  split = refl;
  ends = refl;
}

pub digit_decimal : (c : ℕ) → is_ascii_digit c ≡ true → IsNumber (c ∷ 46 ∷ []) Dec (c ∷ 46 ∷ []) []
digit_decimal c h = record {
  parts = record { sign = None; whole = c ∷ []; fraction = Some []; exponent = None };
  is_run = record { sign = tt; whole = rw h refl; fraction = refl; letter = tt; digits = tt };
  good = omega arith;
  number_is = refl;
  run_is = refl;
  split = refl;
  ends = refl;
}

pub point_decimal : (c : ℕ) → c ≡ 46 → IsNumber (c ∷ 48 ∷ []) Dec (c ∷ 48 ∷ []) []
point_decimal c h = record {
  parts = record { sign = None; whole = []; fraction = Some (48 ∷ []); exponent = None };
  is_run = record { sign = tt; whole = refl; fraction = refl; letter = tt; digits = tt };
  good = omega arith;
  number_is = refl;
  run_is = ap (λ (x : ℕ). x ∷ 48 ∷ []) h;
  split = refl;
  ends = refl;
}
