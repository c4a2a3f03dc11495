-- A token that is cut from a text of characters that a text may hold is cut again from what is
-- written of it.
use Rattle.std.proofs.Common.{◌≡◌, ◌≢◌, ℕ, zero, suc, ◌+◌, ◌-◌, ◌<◌, ◌≤◌, ◌^◌, ◌⊎◌, inl, inr}
use Rattle.std.proofs.Common.{Bool, true, false, not, cond, ◌==◌, List, [], ◌∷◌, ◌++◌, map, Option}
use Rattle.std.proofs.Common.{Some}
use Rattle.std.proofs.Common.{None, IfSome, refl, sym, ap, subst, ◌∙◌, arith, IsUtf8}
use Rattle.std.proofs.Common.{encode_utf8_all}
use Rattle.std.proofs.Common.{ℤ, pos, neg_ℤ, append_assoc, chars}
use Rattle.std.specs.Prelude.{codes, decimal, unsigned_abs}
use Rattle.std.specs.Char.{is_ascii_digit}
use Rattle.std.specs.List.{AllByRecursion, flat_map}
use Rattle.std.specs.Str.{all_ascii_digits}
use Rattle.std.specs.Str.Parse.{digits_value}
use Rattle.std.proofs.Math.Utf8.{scalar, scalars, low_scalar}
use Rattle.std.proofs.lemmas.Bool.Decides.{nat_tests}
use Rattle.std.proofs.lemmas.Bool.{and_parts, and_from}
use Rattle.std.proofs.lemmas.Str.{encode_ascii, chars-encodes}
use Rattle.nano_text.specs.Number.{AreGoodParts, number_from_parts, IsNumber, Run, IsRun, Exponent}
use Rattle.nano_text.specs.Number.{is_sign}
use Rattle.nano_text.specs.Characters.{first_is}
use Rattle.nano_text.specs.Number.{is_letter_e, sign_text, fraction_text, exponent_text, run_text}
use Rattle.nano_text.specs.declared.number.Number.TheVariants.{U64, I64, Dec}
use Rattle.nano_text.specs.String.{CodeUnit, Piece, IsPiece, IsHex, piece_text, piece_char}
use Rattle.nano_text.specs.String.{IsString, plain}
use Rattle.nano_text.specs.String.{escaped, pair, escaped_char, unit_value}
use Rattle.nano_text.specs.String.{scalar as unit}
use Rattle.nano_text.proofs.LaneMasks.{all_split}
use Rattle.nano_text.proofs.Strings.{hex_value}
use Rattle.nano_grammar.specs.Tokens.{is_textual, AllTextual, IsCutInto}
use Rattle.nano_grammar.proofs.EncodingLaws.{textual_scalars}
use Rattle.nano_json_tokens.specs.Token.{Token, str, u64, i64, f64, bool, null, colon, comma}
use Rattle.nano_json_tokens.specs.Token.{block_open, block_close, curly_open, curly_close, end}
use Rattle.nano_json_tokens.specs.Cut.{Cut, IsLexeme, punctuator, word, number, quoted, nothing}
use Rattle.nano_json_tokens.specs.Cut.{IsPunctuator, IsWord, IsRunOf, IsQuoted, IsEnd}
use Rattle.nano_json_tokens.specs.Cut.{starts_number}
use Rattle.nano_json_tokens.specs.Written.{MayFollow}
use Rattle.nano_json_tokens.proofs.CutAgainLaws.{punctuator_is_cut, truth_is_cut, null_is_cut}
use Rattle.nano_json_tokens.proofs.CutAgainLaws.{unsigned_is_cut, minus_is_cut, decimal_is_cut}
use Rattle.nano_json_tokens.proofs.WrittenTextLaws.{utf8_is_cut}
use Rattle.nano_json_indent.specs.Layout.{token_text}

-- ---- a token takes the first characters of a text

-- the text ends in that
abbrev EndsIn : List ℕ → List ℕ → Type 0
EndsIn rest text = (first : List ℕ) × (text ≡ first ++ rest)

punctuator_ends : (t : Token) (text rest : List ℕ) → IsPunctuator t text rest → EndsIn rest text
punctuator_ends colon text rest h = (codes ":", h)
punctuator_ends comma text rest h = (codes ",", h)
punctuator_ends block_open text rest h = (codes "[", h)
punctuator_ends block_close text rest h = (codes "]", h)
punctuator_ends curly_open text rest h = (codes "{", h)
punctuator_ends curly_close text rest h = (codes "}", h)
punctuator_ends _ text rest h = absurd h

word_ends : (t : Token) (text rest : List ℕ) → IsWord t text rest → EndsIn rest text
word_ends (bool true) text rest h = (codes "true", h.0)
word_ends (bool false) text rest h = (codes "false", h.0)
word_ends null text rest h = (codes "null", h.0)
word_ends _ text rest h = absurd h

run_ends : (t : Token) (text rest : List ℕ) → IsRunOf t text rest → EndsIn rest text
run_ends (u64 n) text rest h = (h.0, h.1.split)
run_ends (i64 z) text rest h = (h.0, h.1.split)
run_ends (f64 run) text rest h = (run, h.split)
run_ends _ text rest h = absurd h

quoted_ends : (t : Token) (text rest : List ℕ) → IsQuoted t text rest → EndsIn rest text
quoted_ends (str bytes) text rest h =
    let characters = flat_map piece_text h.1.pieces in
    (34 ∷ (characters ++ 34 ∷ []), h.1.split ∙ ap (λ (l : List ℕ). 34 ∷ l) (sym (append_assoc characters (34 ∷ []) rest)))
quoted_ends _ text rest h = absurd h

end_ends : (t : Token) (text rest : List ℕ) → IsEnd t text rest → EndsIn rest text
end_ends end text rest h = ([], h.0 ∙ sym h.1)
end_ends _ text rest h = absurd h

lexeme_ends : (t : Token) (text rest : List ℕ) → IsLexeme t text rest → EndsIn rest text
lexeme_ends t text rest (punctuator h) = punctuator_ends t text rest h
lexeme_ends t text rest (word h) = word_ends t text rest h
lexeme_ends t text rest (number starts h) = run_ends t text rest h
lexeme_ends t text rest (quoted h) = quoted_ends t text rest h
lexeme_ends t text rest (nothing h) = end_ends t text rest h

-- what is left holds characters that a text may hold, too, and so does the lexeme
pub left_textual : (text rest : List ℕ) → EndsIn rest text → AllTextual text → AllTextual rest
left_textual text rest ends h =
    (all_split (λ c. is_textual c ≡ true) ends.0 rest (subst AllTextual ends.1 h)).1

body_textual : (text rest : List ℕ) (t : Token) (c : Cut text t rest) → AllTextual text → AllTextual c.body
body_textual text rest t c h = left_textual text c.body (c.space, c.split) h

pub cut_left_textual : (text rest : List ℕ) (t : Token) → Cut text t rest → AllTextual text → AllTextual rest
cut_left_textual text rest t c h =
    left_textual c.body rest (lexeme_ends t c.body rest c.lexeme) (body_textual text rest t c h)

-- ---- the characters of a string are scalar values

either_way : {A : Type 0} (P : A → Type 0) (b : Bool) (x y : A) → P x → P y → P (cond b x y)
either_way P true x y p q = p
either_way P false x y p q = q

abbrev IsScalar : ℕ → Type 0
IsScalar c = scalar c ≡ true

escaped_scalar : (c : ℕ) → IsScalar c → IsScalar (escaped_char c)
escaped_scalar c h =
    either_way IsScalar (c == 110) _ _ refl
    (either_way IsScalar (c == 114) _ _ refl
    (either_way IsScalar (c == 116) _ _ refl
    (either_way IsScalar (c == 98) _ _ refl
    (either_way IsScalar (c == 102) _ _ refl
    (either_way IsScalar (c == 48) _ _ refl h)))))

unit_small : (u : CodeUnit) → IsHex u → unit_value u < 0x10000
unit_small u h =
    omega (arith, hex_value u.a h.0, hex_value u.b h.1, hex_value u.c h.2, hex_value u.d h.3)

in_range : (c : ℕ) → (c < 0xD800) ⊎ (0xE000 ≤ c) → c < 0x110000 → IsScalar c
in_range c (inl low) small = low_scalar c low
in_range c (inr high) small = grind (arith, nat_tests)

piece_scalar : (p : Piece) → IsPiece p → AllTextual (piece_text p) → IsScalar (piece_char p)
piece_scalar (plain c) good h = (and_parts (scalar c) (not (c == 0)) h.0).0
piece_scalar (escaped c) good h = escaped_scalar c (and_parts (scalar c) (not (c == 0)) h.1.0).0
piece_scalar (unit u) good h =
    in_range (unit_value u) good.1 (omega (arith, unit_small u good.0))
piece_scalar (pair u v) good h =
    in_range (piece_char (pair u v)) (inr (omega (arith, good.2, good.3, good.4, good.5)))
    (omega (arith, good.2, good.3, good.4, good.5))

pieces_scalar : (ps : List Piece) → AllByRecursion IsPiece ps → AllTextual (flat_map piece_text ps)
    → scalars (map piece_char ps) ≡ true
pieces_scalar [] good h = refl
pieces_scalar (p ∷ ps) good h =
    let both = all_split (λ c. is_textual c ≡ true) (piece_text p) (flat_map piece_text ps) h in
    and_from (scalar (piece_char p)) (scalars (map piece_char ps)) (piece_scalar p good.0 both.0)
    (pieces_scalar ps good.1 both.1)

string_utf8 : (bytes text characters rest : List ℕ) → IsString text characters rest → AllTextual text
    → bytes ≡ encode_utf8_all characters → IsUtf8 bytes
string_utf8 bytes text characters rest s h is =
    let inner = (subst AllTextual s.split h).1 in
    let content = (all_split (λ c. is_textual c ≡ true) (flat_map piece_text s.pieces) (34 ∷ rest) inner).0 in
    (characters, (ap scalars s.characters_are ∙ pieces_scalar s.pieces s.good content, sym is))

-- ---- numbers

u64_small : (n : ℕ) (minus : Bool) (whole : List ℕ) (fraction : Option (List ℕ)) (exponent : Option Exponent)
    → AreGoodParts minus whole fraction exponent → U64 n ≡ number_from_parts minus whole fraction exponent
    → n < 2 ^ 64
u64_small n true whole None None good is = absurd (cc is)
u64_small n false whole None None good is =
    let same : n ≡ digits_value 10 whole = cc is in subst (λ m. m < 2 ^ 64) (sym same) good.1
u64_small n minus whole (Some ds) None good is = absurd (cc is)
u64_small n minus whole None (Some e) good is = absurd (cc is)
u64_small n minus whole (Some ds) (Some e) good is = absurd (cc is)

i64_negated : (z : ℤ) (minus : Bool) (whole : List ℕ) (fraction : Option (List ℕ)) (exponent : Option Exponent)
    → AreGoodParts minus whole fraction exponent → I64 z ≡ number_from_parts minus whole fraction exponent
    → (n : ℕ) × (n ≤ 2 ^ 63) × (z ≡ neg_ℤ (pos n))
i64_negated z true whole None None good is = (digits_value 10 whole, good.1, cc is)
i64_negated z false whole None None good is = absurd (cc is)
i64_negated z minus whole (Some ds) None good is = absurd (cc is)
i64_negated z minus whole None (Some e) good is = absurd (cc is)
i64_negated z minus whole (Some ds) (Some e) good is = absurd (cc is)

magnitude : (n : ℕ) → unsigned_abs (neg_ℤ (pos n)) ≡ n
magnitude zero = refl
magnitude (suc n) = refl

-- the characters of a run are ASCII
abbrev AllLow : List ℕ → Type 0
AllLow = AllByRecursion (λ c. c < 128)

append_low : (xs ys : List ℕ) → AllLow xs → AllLow ys → AllLow (xs ++ ys)
append_low [] ys h k = k
append_low (x ∷ xs) ys h k = (h.0, append_low xs ys h.1 k)

digits_low : (ds : List ℕ) → all_ascii_digits ds ≡ true → AllLow ds
digits_low [] h = tt
digits_low (d ∷ ds) h =
    let parts = and_parts (is_ascii_digit d) (all_ascii_digits ds) h in
    (one d parts.0, digits_low ds parts.1)
  where
    one : (c : ℕ) → is_ascii_digit c ≡ true → c < 128
    one c e = grind (arith, nat_tests)

sign_low : (sign : Option ℕ) → IfSome sign (λ c. is_sign c ≡ true) → AllLow (sign_text sign)
sign_low None h = tt
sign_low (Some c) h = (grind (arith, nat_tests), tt)

fraction_low : (f : Option (List ℕ)) → IfSome f (λ ds. all_ascii_digits ds ≡ true) → AllLow (fraction_text f)
fraction_low None h = tt
fraction_low (Some ds) h = (omega arith, digits_low ds h)

minus_low : (minus : Bool) → AllLow (cond minus (45 ∷ []) [])
minus_low true = (omega arith, tt)
minus_low false = tt

exponent_low : (e : Option Exponent) → IfSome e (λ x. is_letter_e x.letter ≡ true)
    → IfSome e (λ x. all_ascii_digits x.digits ≡ true) → AllLow (exponent_text e)
exponent_low None h k = tt
exponent_low (Some x) h k =
    (letter_low x.letter h, append_low (cond x.minus (45 ∷ []) []) x.digits (minus_low x.minus) (digits_low x.digits k))
  where
    letter_low : (c : ℕ) → is_letter_e c ≡ true → c < 128
    letter_low c e = grind (arith, nat_tests)

run_low : (r : Run) → IsRun r → AllLow (run_text r)
run_low r is =
    append_low (sign_text r.sign) _ (sign_low r.sign is.sign)
    (append_low r.whole _ (digits_low r.whole is.whole)
    (append_low (fraction_text r.fraction) _ (fraction_low r.fraction is.fraction)
    (exponent_low r.exponent is.letter is.digits)))

encodes_low : (cs : List ℕ) → AllLow cs → encode_utf8_all cs ≡ cs
encodes_low [] h = refl
encodes_low (c ∷ cs) h = rw (encode_ascii c h.0) (ap (λ (l : List ℕ). c ∷ l) (encodes_low cs h.1))

run_chars : (text run rest : List ℕ) → IsNumber text Dec run rest → AllTextual run → chars run ≡ run
run_chars text run rest n textual =
    let low = subst AllLow (sym n.run_is) (run_low n.parts n.is_run) in
    ap chars (sym (encodes_low run low)) ∙ chars-encodes run (textual_scalars run textual)

-- ---- each token

abbrev pub IsCutAgain : Token → Type 0
IsCutAgain t = IsCutInto Cut MayFollow (t ∷ []) (token_text t)

by_punctuator : (c : ℕ) (t : Token) → ((rest : List ℕ) → IsPunctuator t (c ∷ rest) rest)
    → IsCutInto Cut MayFollow (t ∷ []) (c ∷ [])
by_punctuator c t h rest follows = (rest, punctuator_is_cut c t h rest, refl)

punctuator_again : (t : Token) (text rest : List ℕ) → IsPunctuator t text rest → IsCutAgain t
punctuator_again colon text rest h = by_punctuator 58 colon (λ r. refl)
punctuator_again comma text rest h = by_punctuator 44 comma (λ r. refl)
punctuator_again block_open text rest h = by_punctuator 91 block_open (λ r. refl)
punctuator_again block_close text rest h = by_punctuator 93 block_close (λ r. refl)
punctuator_again curly_open text rest h = by_punctuator 123 curly_open (λ r. refl)
punctuator_again curly_close text rest h = by_punctuator 125 curly_close (λ r. refl)
punctuator_again _ text rest h = absurd h

word_again : (t : Token) (text rest : List ℕ) → IsWord t text rest → IsCutAgain t
word_again (bool b) text rest h = truth_is_cut b
word_again null text rest h = null_is_cut
word_again _ text rest h = absurd h

run_again : (t : Token) (text rest : List ℕ) → first_is starts_number text ≡ true → IsRunOf t text rest
    → AllTextual text → IsCutAgain t
run_again (u64 n) text rest starts h textual =
    let k = h.1 in
    unsigned_is_cut n (u64_small n _ _ k.parts.fraction k.parts.exponent k.good k.number_is)
run_again (i64 z) text rest starts h textual =
    let k = h.1 in
    let of = i64_negated z _ _ k.parts.fraction k.parts.exponent k.good k.number_is in
    subst IsCutAgain (ap i64 (sym of.2))
    (subst (λ m. IsCutInto Cut MayFollow (i64 (neg_ℤ (pos of.0)) ∷ []) (45 ∷ decimal m)) (sym (magnitude of.0))
    (minus_is_cut of.0 of.1))
run_again (f64 run) text rest starts h textual =
    let run_textual = (all_split (λ c. is_textual c ≡ true) run rest (subst AllTextual h.split textual)).0 in
    subst (IsCutInto Cut MayFollow (f64 run ∷ [])) (sym (run_chars text run rest h run_textual))
    (decimal_is_cut text run rest starts h)
run_again _ text rest starts h textual = absurd h

quoted_again : (t : Token) (text rest : List ℕ) → IsQuoted t text rest → AllTextual text → IsCutAgain t
quoted_again (str bytes) text rest h textual =
    utf8_is_cut bytes (string_utf8 bytes text h.0 rest h.1 textual h.2)
quoted_again _ text rest h textual = absurd h

nothing_again : (t : Token) (text rest : List ℕ) → IsEnd t text rest → t ≢ end → IsCutAgain t
nothing_again end text rest h other = absurd (other refl)
nothing_again _ text rest h other = absurd h

lexeme_again : (t : Token) (text rest : List ℕ) → IsLexeme t text rest → AllTextual text → t ≢ end → IsCutAgain t
lexeme_again t text rest (punctuator h) textual other = punctuator_again t text rest h
lexeme_again t text rest (word h) textual other = word_again t text rest h
lexeme_again t text rest (number starts h) textual other = run_again t text rest starts h textual
lexeme_again t text rest (quoted h) textual other = quoted_again t text rest h textual
lexeme_again t text rest (nothing h) textual other = nothing_again t text rest h other

pub token_again : (text rest : List ℕ) (t : Token) → Cut text t rest → AllTextual text → t ≢ end → IsCutAgain t
token_again text rest t c h other = lexeme_again t c.body rest c.lexeme (body_textual text rest t c h) other
