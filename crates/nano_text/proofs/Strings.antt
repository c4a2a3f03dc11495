-- String lexemes: a text begins with at most one, and what holds while one is read.
use Rattle.std.proofs.Common.{◌≡◌, ◌≢◌, ℕ, ◌<◌, ◌≤◌, inl, inr, List, [], ◌∷◌, ◌++◌, true, Option}
use Rattle.std.proofs.Common.{Some, None, IfSome, SomeIff, ap, sym, ◌∙◌, subst, arith, Bool, false}
use Rattle.std.proofs.Common.{cond, refl, flat_map, map, append_assoc, append-nil, length}
use Rattle.std.proofs.Common.{length-append, encode_utf8, encode_utf8_all}
use Rattle.std.specs.Char.{digit_value, is_ascii_hexdigit}
use Rattle.std.proofs.lemmas.Bool.Decides.{nat_tests}
use Rattle.std.specs.List.{AllByRecursion}
use Rattle.std.proofs.lemmas.Grind.{flat_map-append}
use Rattle.std.proofs.lemmas.List.{map-append}
use Rattle.std.proofs.lemmas.Str.{encodes-append}
use Rattle.nano_text.specs.String.{CodeUnit, Piece, plain, escaped, scalar, pair, unit_text}
use Rattle.nano_text.specs.String.{unit_value, piece_text, IsHex, IsPiece, piece_char, is_plain}
use Rattle.nano_text.specs.String.{IsString}
use Rattle.nano_text.specs.Characters.{prefix, following}
use Rattle.nano_text.proofs.Utf8Prefixes.{prefix-append-following}
use Rattle.nano_text.proofs.LaneMasks.{all_append}

-- ==== escapes

pub hex_value : (c : ℕ) → is_ascii_hexdigit c ≡ true → digit_value c < 16
hex_value c h = grind (arith, nat_tests)

pub value_some : (c : ℕ) → digit_value c < 16 → c ≢ 0
value_some c h e = let x : digit_value 0 < 16 = subst (λ (n : ℕ). digit_value n < 16) e h in grind (arith, nat_tests)

-- two ways to take the first character off a text leave the same
pub same_after_first : (c d : ℕ) (text xs ys : List ℕ) → text ≡ c ∷ xs → text ≡ d ∷ ys → xs ≡ ys
same_after_first c d text xs ys p q = cc

pub IfSome-from_SomeIff : (r : Option ℕ) (P : Type 0) (v : ℕ) (Q : ℕ → Type 0) → SomeIff r P v → Q v → IfSome r Q
IfSome-from_SomeIff None P v Q h q = tt
IfSome-from_SomeIff (Some x) P v Q h q = subst Q (sym h.1) q

unit_same : (u v : CodeUnit) → u.a ≡ v.a → u.b ≡ v.b → u.c ≡ v.c → u.d ≡ v.d → u ≡ v
unit_same u v a b c d =
    ap (λ (x : ℕ). record { a = x; b = u.b; c = u.c; d = u.d }) a ∙ (ap (λ (x : ℕ). record { a = v.a; b = x; c = u.c; d = u.d }) b
    ∙ (ap (λ (x : ℕ). record { a = v.a; b = v.b; c = x; d = u.d }) c ∙ ap (λ (x : ℕ). record { a = v.a; b = v.b; c = v.c; d = x }) d))

-- a text begins with one code unit, at most
pub same_unit : (u v : CodeUnit) (x y : List ℕ) → unit_text u ++ x ≡ unit_text v ++ y → (u ≡ v) × (x ≡ y)
same_unit u v x y e =
    let a : u.a ≡ v.a = cc e in
    let b : u.b ≡ v.b = cc e in
    let c : u.c ≡ v.c = cc e in
    let d : u.d ≡ v.d = cc e in
    let rest : x ≡ y = cc e in
    (unit_same u v a b c d, rest)

-- a surrogate, and what comes after it
pub record IsPaired (unit : CodeUnit) (text rest : List ℕ) : Type 0 where
  pub leads : unit_value unit < 0xDC00
  pub trail : CodeUnit
  pub trail_hex : IsHex trail
  pub trail_low : 0xDC00 ≤ unit_value trail
  pub trail_high : unit_value trail < 0xE000
  pub split : text ≡ 92 ∷ (117 ∷ (unit_text trail ++ rest))

-- a piece after \u begins with a code unit
pub unit_of_piece : (piece : Piece) (text rest : List ℕ) → IsPiece piece → 92 ∷ (117 ∷ text) ≡ piece_text piece ++ rest → (unit : CodeUnit) × IsHex unit × (left : List ℕ) × (text ≡ unit_text unit ++ left)
unit_of_piece (plain c) text rest h e = let is : c ≡ 92 = cc e in absurd (h.1 is)
unit_of_piece (escaped c) text rest h e = let is : c ≡ 117 = cc e in absurd (h.0 is)
unit_of_piece (scalar u) text rest h e = (u, h.0, rest, cc e)
unit_of_piece (pair u v) text rest h e = (u, h.0, 92 ∷ (117 ∷ (unit_text v ++ rest)), cc e)

-- and if that is a surrogate, it is the leading one of two
pub paired : (piece : Piece) (unit : CodeUnit) (text left rest : List ℕ) → IsPiece piece → 92 ∷ (117 ∷ text) ≡ piece_text piece ++ rest → text ≡ unit_text unit ++ left → 0xD800 ≤ unit_value unit → unit_value unit < 0xE000 → IsPaired unit left rest
paired (plain c) unit text left rest h e s low high = let is : c ≡ 92 = cc e in absurd (h.1 is)
paired (escaped c) unit text left rest h e s low high = let is : c ≡ 117 = cc e in absurd (h.0 is)
paired (scalar u) unit text left rest h e s low high =
    let is : text ≡ unit_text u ++ rest = cc e in
    let same = same_unit unit u left rest (sym s ∙ is) in
    absurd (elim h.1 [ inl below ↦ omega (arith, ap unit_value same.0) | inr above ↦ omega (arith, ap unit_value same.0) ])
paired (pair u v) unit text left rest h e s low high =
    let is : text ≡ unit_text u ++ (92 ∷ (117 ∷ (unit_text v ++ rest))) = cc e in
    let same = same_unit unit u left (92 ∷ (117 ∷ (unit_text v ++ rest))) (sym s ∙ is) in
    record {
      leads = omega (arith, ap unit_value same.0, h.3);
      trail = v;
      trail_hex = h.1;
      trail_low = h.4;
      trail_high = h.5;
      split = same.1;
    }

-- a piece is no empty text
pub piece_some : (piece : Piece) (rest : List ℕ) → [] ≡ piece_text piece ++ rest → ⊥
piece_some (plain c) rest e = cc e
piece_some (escaped c) rest e = cc e
piece_some (scalar u) rest e = cc e
piece_some (pair u v) rest e = cc e

-- none ends after its backslash
pub piece_longer : (piece : Piece) (rest : List ℕ) → IsPiece piece → 92 ∷ [] ≡ piece_text piece ++ rest → ⊥
piece_longer (plain c) rest h e = let is : c ≡ 92 = cc e in h.1 is
piece_longer (escaped c) rest h e = cc e
piece_longer (scalar u) rest h e = cc e
piece_longer (pair u v) rest h e = cc e

-- ==== strings

head_same : (c d : ℕ) (xs ys : List ℕ) → c ∷ xs ≡ d ∷ ys → c ≡ d
head_same c d xs ys e = cc e

-- two pieces that begin one text are one
pub same_piece : (p q : Piece) (x y : List ℕ) → IsPiece p → IsPiece q → piece_text p ++ x ≡ piece_text q ++ y → (p ≡ q) × (x ≡ y)
same_piece (plain c) (plain d) x y h k e = let a : c ≡ d = cc e in let b : x ≡ y = cc e in (ap plain a, b)
same_piece (plain c) (escaped d) x y h k e = let a : c ≡ 92 = cc e in absurd (h.1 a)
same_piece (plain c) (scalar u) x y h k e = let a : c ≡ 92 = cc e in absurd (h.1 a)
same_piece (plain c) (pair u v) x y h k e = let a : c ≡ 92 = cc e in absurd (h.1 a)
same_piece (escaped c) (plain d) x y h k e = let a : d ≡ 92 = cc e in absurd (k.1 a)
same_piece (escaped c) (escaped d) x y h k e = let a : c ≡ d = cc e in let b : x ≡ y = cc e in (ap escaped a, b)
same_piece (escaped c) (scalar u) x y h k e = let a : c ≡ 117 = cc e in absurd (h.0 a)
same_piece (escaped c) (pair u v) x y h k e = let a : c ≡ 117 = cc e in absurd (h.0 a)
same_piece (scalar u) (plain d) x y h k e = let a : d ≡ 92 = cc e in absurd (k.1 a)
same_piece (scalar u) (escaped d) x y h k e = let a : d ≡ 117 = cc e in absurd (k.0 a)
same_piece (scalar u) (scalar v) x y h k e =
    let inside : unit_text u ++ x ≡ unit_text v ++ y = cc e in
    let s = same_unit u v x y inside in (ap scalar s.0, s.1)
same_piece (scalar u) (pair v w) x y h k e =
    let inside : unit_text u ++ x ≡ unit_text v ++ (92 ∷ (117 ∷ (unit_text w ++ y))) = cc e in
    let s = same_unit u v x (92 ∷ (117 ∷ (unit_text w ++ y))) inside in
    absurd (elim h.1 [ inl l ↦ omega (arith, ap unit_value s.0, l, k.2) | inr g ↦ omega (arith, ap unit_value s.0, g, k.3) ])
same_piece (pair u w) (plain d) x y h k e = let a : d ≡ 92 = cc e in absurd (k.1 a)
same_piece (pair u w) (escaped d) x y h k e = let a : d ≡ 117 = cc e in absurd (k.0 a)
same_piece (pair u w) (scalar v) x y h k e =
    let inside : unit_text u ++ (92 ∷ (117 ∷ (unit_text w ++ x))) ≡ unit_text v ++ y = cc e in
    let s = same_unit u v (92 ∷ (117 ∷ (unit_text w ++ x))) y inside in
    absurd (elim k.1 [ inl l ↦ omega (arith, ap unit_value s.0, l, h.2) | inr g ↦ omega (arith, ap unit_value s.0, g, h.3) ])
same_piece (pair u w) (pair v z) x y h k e =
    let inside : unit_text u ++ (92 ∷ (117 ∷ (unit_text w ++ x))) ≡ unit_text v ++ (92 ∷ (117 ∷ (unit_text z ++ y))) = cc e in
    let s = same_unit u v (92 ∷ (117 ∷ (unit_text w ++ x))) (92 ∷ (117 ∷ (unit_text z ++ y))) inside in
    let following : unit_text w ++ x ≡ unit_text z ++ y = cc s.1 in
    let t = same_unit w z x y following in
    (cc (s.0, t.0), t.1)

-- no piece begins with the closing quote
pub piece_no_quote : (p : Piece) (x y : List ℕ) → IsPiece p → piece_text p ++ x ≡ 34 ∷ y → ⊥
piece_no_quote (plain c) x y h e = h.0 (head_same c 34 x y e)
piece_no_quote (escaped c) x y h e = let a = head_same 92 34 (c ∷ x) y e in absurd (omega (arith, a))
piece_no_quote (scalar u) x y h e = let a = head_same 92 34 (117 ∷ (unit_text u ++ x)) y e in absurd (omega (arith, a))
piece_no_quote (pair u v) x y h e = let a = head_same 92 34 (117 ∷ ((unit_text u ++ (92 ∷ (117 ∷ unit_text v))) ++ x)) y e in absurd (omega (arith, a))

-- of two lists of pieces that begin one text, where the closing quote follows the second, the
-- second goes on where the first ends
pub pieces_after : (ps qs : List Piece) (x y : List ℕ) → AllByRecursion IsPiece ps → AllByRecursion IsPiece qs → flat_map piece_text ps ++ x ≡ flat_map piece_text qs ++ 34 ∷ y
    → (rs : List Piece) × AllByRecursion IsPiece rs × (qs ≡ ps ++ rs) × (x ≡ flat_map piece_text rs ++ 34 ∷ y)
pieces_after [] qs x y h k e = (qs, k, refl, e)
pieces_after (p ∷ ps) [] x y h k e = absurd (piece_no_quote p (flat_map piece_text ps ++ x) y h.0 (sym (append_assoc (piece_text p) (flat_map piece_text ps) x) ∙ e))
pieces_after (p ∷ ps) (q ∷ qs) x y h k e =
    let s = same_piece p q (flat_map piece_text ps ++ x) (flat_map piece_text qs ++ 34 ∷ y) h.0 k.0 (sym (append_assoc (piece_text p) (flat_map piece_text ps) x) ∙ (e ∙ append_assoc (piece_text q) (flat_map piece_text qs) (34 ∷ y))) in
    let r = pieces_after ps qs x y h.1 k.1 s.1 in
    (r.0, r.1, cc (s.0, r.2), r.3)

-- where the closing quote follows the first too, they are one
same_pieces : (ps qs : List Piece) (x y : List ℕ) → AllByRecursion IsPiece ps → AllByRecursion IsPiece qs → flat_map piece_text ps ++ 34 ∷ x ≡ flat_map piece_text qs ++ 34 ∷ y → (ps ≡ qs) × (x ≡ y)
same_pieces ps qs x y h k e =
    let r = pieces_after ps qs (34 ∷ x) y h k e in
    at_quote r.0 r.1 r.2 r.3 where
      at_quote : (rs : List Piece) → AllByRecursion IsPiece rs → qs ≡ ps ++ rs → 34 ∷ x ≡ flat_map piece_text rs ++ 34 ∷ y → (ps ≡ qs) × (x ≡ y)
      at_quote [] good is text = let rest : x ≡ y = cc text in (sym (is ∙ append-nil ps), rest)
      at_quote (r ∷ rs) good is text = absurd (piece_no_quote r (flat_map piece_text rs ++ 34 ∷ y) x good.0 (sym (text ∙ append_assoc (piece_text r) (flat_map piece_text rs) (34 ∷ y))))

-- a text begins with one string lexeme, at most
pub IsString-unique : (text cs ds rest left : List ℕ) → IsString text cs rest → IsString text ds left → (cs ≡ ds) × (rest ≡ left)
IsString-unique text cs ds rest left h k =
    let x = sym h.split ∙ k.split in
    let inside : flat_map piece_text h.pieces ++ 34 ∷ rest ≡ flat_map piece_text k.pieces ++ 34 ∷ left = cc x in
    let s = same_pieces h.pieces k.pieces rest left h.good k.good inside in
    (h.characters_are ∙ (ap (map piece_char) s.0 ∙ sym k.characters_are), s.1)

-- ---- while a string is read

-- the pieces that were taken since the opening quote, what they stand for, and what is left
pub record HasRead (text written left : List ℕ) : Type 0 where
  pub pieces : List Piece
  pub good : AllByRecursion IsPiece pieces
  pub split : text ≡ flat_map piece_text pieces ++ left
  pub are : written ≡ encode_utf8_all (map piece_char pieces)

pub nothing_read : (text : List ℕ) → HasRead text [] text
nothing_read text = record { pieces = []; good = tt; split = refl; are = refl }

-- more pieces
pub reads_more : (text written left more rest : List ℕ) (ps : List Piece) → HasRead text written left → AllByRecursion IsPiece ps → left ≡ flat_map piece_text ps ++ rest → more ≡ written ++ encode_utf8_all (map piece_char ps) → HasRead text more rest
reads_more text written left more rest ps h good split is = record {
  pieces = h.pieces ++ ps;
  good = all_append IsPiece h.pieces ps h.good good;
  split = h.split ∙ rw (split, flat_map-append piece_text h.pieces ps, append_assoc) refl;
  are = is ∙ rw (h.are, map-append piece_char h.pieces ps, encodes-append (map piece_char h.pieces) (map piece_char ps)) refl;
}

-- one more piece
pub reads_piece : (text written left more rest : List ℕ) (p : Piece) → HasRead text written left → IsPiece p → left ≡ piece_text p ++ rest → more ≡ written ++ encode_utf8 (piece_char p) → HasRead text more rest
reads_piece text written left more rest p h good split is =
    reads_more text written left more rest (p ∷ []) h (good, tt) (split ∙ ap (λ (l : List ℕ). l ++ rest) (sym (append-nil (piece_text p)))) (is ∙ ap (λ (l : List ℕ). written ++ l) (sym (append-nil (encode_utf8 (piece_char p)))))

plain_is_piece : (c : ℕ) → is_plain c ≡ true → IsPiece (plain c)
plain_is_piece c h = (
  λ e. let x : is_plain 34 ≡ true = subst (λ (n : ℕ). is_plain n ≡ true) e h in cc x,
  λ e. let x : is_plain 92 ≡ true = subst (λ (n : ℕ). is_plain n ≡ true) e h in cc x,
  λ e. let x : is_plain 0 ≡ true = subst (λ (n : ℕ). is_plain n ≡ true) e h in cc x,
)

-- a prefix whose characters all stand for themselves
module _ (test : ℕ → Bool) (plain_only : (c : ℕ) → test c ≡ true → is_plain c ≡ true) where
  -- as pieces
  plain_pieces : (text : List ℕ) → AllByRecursion IsPiece (map plain (prefix test text)) × (flat_map piece_text (map plain (prefix test text)) ≡ prefix test text) × (map piece_char (map plain (prefix test text)) ≡ prefix test text)
  plain_pieces [] = (tt, refl, refl)
  plain_pieces (c ∷ cs) =
      let r = plain_pieces cs in
      elim (test c) as (λ (b : Bool). test c ≡ b → AllByRecursion IsPiece (map plain (cond b (c ∷ prefix test cs) [])) × (flat_map piece_text (map plain (cond b (c ∷ prefix test cs) [])) ≡ cond b (c ∷ prefix test cs) []) × (map piece_char (map plain (cond b (c ∷ prefix test cs) [])) ≡ cond b (c ∷ prefix test cs) [])) [
        | true ↦ λ e. ((plain_is_piece c (plain_only c e), r.0), ap (λ (l : List ℕ). c ∷ l) r.1, ap (λ (l : List ℕ). c ∷ l) r.2)
        | false ↦ λ e. (tt, refl, refl)
      ] refl

  pub reads_plain : (text written left more rest : List ℕ) → HasRead text written left → rest ≡ following test left → more ≡ written ++ encode_utf8_all (prefix test left) → HasRead text more rest
  reads_plain text written left more rest h after_is is =
      let plain_prefix = plain_pieces left in
      let split : left ≡ flat_map piece_text (map plain (prefix test left)) ++ rest = rw (plain_prefix.1, after_is, prefix-append-following test left) refl in
      reads_more text written left more rest (map plain (prefix test left)) h plain_prefix.0 split (is ∙ rw plain_prefix.2 refl)

-- what was read begins whatever string stands there
pub record GoesOn (written left characters rest : List ℕ) : Type 0 where
  pub pieces : List Piece
  pub good : AllByRecursion IsPiece pieces
  pub split : left ≡ flat_map piece_text pieces ++ 34 ∷ rest
  pub begins : encode_utf8_all characters ≡ written ++ encode_utf8_all (map piece_char pieces)

pub goes_on : (whole text written left characters rest : List ℕ) → whole ≡ 34 ∷ text → HasRead text written left → IsString whole characters rest → GoesOn written left characters rest
goes_on whole text written left characters rest quote h string =
    let inside : flat_map piece_text h.pieces ++ left ≡ flat_map piece_text string.pieces ++ 34 ∷ rest = let both = sym quote ∙ string.split in let same : text ≡ flat_map piece_text string.pieces ++ 34 ∷ rest = cc both in sym h.split ∙ same in
    let r = pieces_after h.pieces string.pieces left rest h.good string.good inside in
    record {
      pieces = r.0;
      good = r.1;
      split = r.3;
      begins = ap encode_utf8_all (string.characters_are ∙ (ap (map piece_char) r.2 ∙ map-append piece_char h.pieces r.0))
          ∙ (encodes-append (map piece_char h.pieces) (map piece_char r.0) ∙ ap (λ (l : List ℕ). l ++ encode_utf8_all (map piece_char r.0)) (sym h.are));
    }

-- so it has space for what was read
pub written_le : (whole text written left characters rest : List ℕ) → whole ≡ 34 ∷ text → HasRead text written left → IsString whole characters rest → length written ≤ length (encode_utf8_all characters)
written_le whole text written left characters rest quote h string =
    let on = goes_on whole text written left characters rest quote h string in
    omega (arith, ap length on.begins, length-append written (encode_utf8_all (map piece_char on.pieces)))

-- at the closing quote the string is read
pub string_read : (whole text written left rest : List ℕ) → whole ≡ 34 ∷ text → HasRead text written left → left ≡ 34 ∷ rest → (characters : List ℕ) × IsString whole characters rest × (written ≡ encode_utf8_all characters)
string_read whole text written left rest quote h end = (
  map piece_char h.pieces,
  record { pieces = h.pieces; good = h.good; split = quote ∙ ap (λ (l : List ℕ). 34 ∷ l) (h.split ∙ ap (λ (l : List ℕ). flat_map piece_text h.pieces ++ l) end); characters_are = refl },
  h.are,
)

-- where no piece and no quote follows, no string stands there
pub no_string : (whole text written left characters rest : List ℕ) → whole ≡ 34 ∷ text → HasRead text written left → ((y : List ℕ) → left ≡ 34 ∷ y → ⊥) → ((p : Piece) (y : List ℕ) → IsPiece p → left ≡ piece_text p ++ y → ⊥) → IsString whole characters rest → ⊥
no_string whole text written left characters rest quote h no_quote no_piece string =
    let on = goes_on whole text written left characters rest quote h string in
    stuck on.pieces on.good on.split where
      stuck : (ps : List Piece) → AllByRecursion IsPiece ps → left ≡ flat_map piece_text ps ++ 34 ∷ rest → ⊥
      stuck [] good split = no_quote rest split
      stuck (p ∷ ps) good split = no_piece p (flat_map piece_text ps ++ 34 ∷ rest) good.0 (split ∙ append_assoc (piece_text p) (flat_map piece_text ps) (34 ∷ rest))
