-- What is written of a text is cut into its token.
use Rattle.std.specs.Prelude.{◌≡◌, ◌≢◌, ℕ, ◌==◌, not, Bool, true, false, cond, List, [], ◌∷◌, ◌++◌}
use Rattle.std.specs.Prelude.{map, chars, refl, ℤ, pos, negsuc}
use Rattle.std.specs.List.{AllByRecursion, flat_map}
use Rattle.std.proofs.Common.{sym, ◌∙◌, ap, append_assoc, eqb-true, ne_eqb, arith}
use Rattle.std.proofs.Math.Utf8.{scalar, scalars}
use Rattle.std.proofs.lemmas.Bool.{eqb-false, and_parts}
use Rattle.std.proofs.lemmas.Str.{encodes-chars, scalars-chars}
use Rattle.nano_value.specs.Meaning.{IsText}
use Rattle.nano_text.specs.String.{Piece, escaped, IsPiece, IsString, piece_text, piece_char}
use Rattle.nano_grammar.specs.Tokens.{is_textual, AllTextual, IsCutInto}
use Rattle.nano_grammar.proofs.TokensLaws.{textual_append}
use Rattle.nano_ron_tokens.specs.Token.{str, Token, u64, i64}
pub use Rattle.nano_ron_tokens.specs.Scan.{is_end}
use Rattle.nano_ron_tokens.specs.Cut.{quoted, Cut}
use Rattle.nano_ron_tokens.proofs.RonLaws.{cut_at_once}
use Rattle.nano_ron_tokens.specs.Written.{MayFollow, written_piece, written_characters}
use Rattle.nano_ron_tokens.specs.Written.{written_text}

-- the piece stands for the character, and is written in characters that a text may hold
record StandsFor (c : ℕ) (p : Piece) : Type 0 where
  pub good : IsPiece p
  pub character : piece_char p ≡ c
  pub textual : AllTextual (piece_text p)

either_way : {A : Type 0} (P : A → Type 0) (b : Bool) (x y : A)
    → (b ≡ true → P x) → (b ≡ false → P y) → P (cond b x y)
either_way P true x y p q = p refl
either_way P false x y p q = q refl

-- an escape of one character for the character that it stands for
one_escape : (c k e : ℕ) → c == k ≡ true → IsPiece (escaped e) → piece_char (escaped e) ≡ k
    → is_textual e ≡ true → StandsFor c (escaped e)
one_escape c k e is good stands textual = record {
  good = good;
  character = stands ∙ sym (eqb-true c k is);
  textual = (refl, (textual, tt));
}

piece_stands : (c : ℕ) → scalar c ≡ true → StandsFor c (written_piece c)
piece_stands c h =
    either_way (StandsFor c) (c == 10) _ _
    (λ e. one_escape c 10 110 e (λ x. omega (arith, x), λ x. omega (arith, x)) refl refl) (λ e10.
    either_way (StandsFor c) (c == 13) _ _
    (λ e. one_escape c 13 114 e (λ x. omega (arith, x), λ x. omega (arith, x)) refl refl) (λ e13.
    either_way (StandsFor c) (c == 9) _ _
    (λ e. one_escape c 9 116 e (λ x. omega (arith, x), λ x. omega (arith, x)) refl refl) (λ e9.
    either_way (StandsFor c) (c == 0) _ _
    (λ e. one_escape c 0 48 e (λ x. omega (arith, x), λ x. omega (arith, x)) refl refl) (λ e0.
    either_way (StandsFor c) (c == 92) _ _
    (λ e. one_escape c 92 92 e (λ x. omega (arith, x), λ x. omega (arith, x)) refl refl) (λ e92.
    either_way (StandsFor c) (c == 34) _ _
    (λ e. one_escape c 34 34 e (λ x. omega (arith, x), λ x. omega (arith, x)) refl refl) (λ e34.
    let some : c ≢ 0 = eqb-false c 0 e0 in
    record {
      good = (eqb-false c 34 e34, eqb-false c 92 e92, some);
      character = refl;
      textual = (rw h (ap not (ne_eqb c 0 some)), tt);
    }))))))

-- the pieces of a written text
pieces_stand : (cs : List ℕ) → scalars cs ≡ true → AllByRecursion IsPiece (map written_piece cs)
    × (map piece_char (map written_piece cs) ≡ cs)
    × (flat_map piece_text (map written_piece cs) ≡ written_characters cs)
    × AllTextual (written_characters cs)
pieces_stand [] h = (tt, refl, refl, tt)
pieces_stand (c ∷ cs) h =
    let parts = and_parts (scalar c) (scalars cs) h in
    let first = piece_stands c parts.0 in
    let others = pieces_stand cs parts.1 in (
      (first.good, others.0),
      (λ i. first.character i ∷ others.1 i),
      ap (λ l. piece_text (written_piece c) ++ l) others.2,
      textual_append (piece_text (written_piece c)) _ first.textual others.3,
    )

pub text_is_cut : (bytes : List ℕ) → IsText bytes
    → IsCutInto Cut MayFollow (str bytes ∷ []) (written_text bytes)
text_is_cut bytes is rest h =
    let cs = chars bytes in
    let stand = pieces_stand cs (scalars-chars bytes is.utf8) in
    let content = flat_map (λ c. piece_text (written_piece c)) cs in
    let string : IsString (written_text bytes ++ rest) cs rest = record {
      pieces = map written_piece cs;
      good = stand.0;
      split = ap (λ l. 34 ∷ l)
          (append_assoc content (34 ∷ []) rest ∙ ap (λ l. l ++ 34 ∷ rest) (sym stand.2));
      characters_are = sym stand.1;
    } in
    let lexeme = quoted (cs, string, sym (encodes-chars bytes is.utf8)) in
    (rest, cut_at_once (written_text bytes ++ rest) rest (str bytes) lexeme, refl)

pub text_textual : (bytes : List ℕ) → IsText bytes → AllTextual (written_text bytes)
text_textual bytes is =
    let content = (pieces_stand (chars bytes) (scalars-chars bytes is.utf8)).3 in
    (refl, textual_append _ (34 ∷ []) content (refl, tt))

-- ==== signed numbers

-- ---- scalars

-- a number is one token, with a minus sign or without
abbrev pub signed_token : ℤ → Token
signed_token (pos n) = u64 n
signed_token (negsuc n) = i64 (negsuc n)
