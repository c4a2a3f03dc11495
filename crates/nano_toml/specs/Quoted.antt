-- Strings: the empty one, those in one quote on either side, and those in three.
use Rattle.std.specs.Prelude.{◌≡◌, ◌≢◌, ℕ, ◌<◌, false, List, [], ◌∷◌, ◌++◌, length, flat_map}
use Rattle.std.specs.List.{AllByRecursion}
use Rattle.nano_toml.specs.Characters.{is_quote, Each}
use Rattle.nano_toml.specs.Token.{begins}

-- the pieces that stand between the quotes
pub data Piece : Type 0 where
  -- a character itself, a line end too
  plain : ℕ → Piece
  -- a backslash, and the character that it gives
  escaped : ℕ → Piece
  -- in triple quotes: a run of quotes, which doesn't end the string
  quotes : List ℕ → Piece

-- how a piece is written
abbrev pub piece_text : Piece → List ℕ
piece_text (plain c) = c ∷ []
piece_text (escaped c) = 92 ∷ (c ∷ [])
piece_text (quotes run) = run

-- the characters that a piece gives
abbrev pub piece_chars : Piece → List ℕ
piece_chars (plain c) = c ∷ []
piece_chars (escaped c) = c ∷ []
piece_chars (quotes run) = run

abbrev pub pieces_text : List Piece → List ℕ
pieces_text pieces = flat_map piece_text pieces

abbrev pub pieces_chars : List Piece → List ℕ
pieces_chars pieces = flat_map piece_chars pieces

-- a piece between single quotes
abbrev pub IsShortPiece : Piece → Type 0
IsShortPiece (plain c) = (c ≢ 34) × (c ≢ 92)
IsShortPiece (escaped c) = Unit {0}
IsShortPiece (quotes run) = ⊥

abbrev pub AreShortPieces : List Piece → Type 0
AreShortPieces pieces = AllByRecursion IsShortPiece pieces

-- a next piece stands there, and is no run of quotes
abbrev pub StopsQuotes : List Piece → Type 0
StopsQuotes [] = ⊥
StopsQuotes (plain c ∷ more) = Unit {0}
StopsQuotes (escaped c ∷ more) = Unit {0}
StopsQuotes (quotes run ∷ more) = ⊥

-- the pieces between triple quotes: a run of quotes is a longest one, and not of three
abbrev pub AreTriplePieces : List Piece → Type 0
AreTriplePieces [] = Unit {0}
AreTriplePieces (plain c ∷ more) = (c ≢ 34) × (c ≢ 92) × AreTriplePieces more
AreTriplePieces (escaped c ∷ more) = AreTriplePieces more
AreTriplePieces (quotes run ∷ more) =
    Each is_quote run × (0 < length run) × (length run ≢ 3)
    × StopsQuotes more × AreTriplePieces more

-- the text begins with a string of these characters, and rest comes after it
pub data IsString (text chars rest : List ℕ) : Type 0 where
  empty : text ≡ 34 ∷ (34 ∷ rest) → begins is_quote rest ≡ false → chars ≡ []
      → IsString text chars rest
  short : (pieces : List Piece) → 0 < length pieces → AreShortPieces pieces
      → text ≡ 34 ∷ (pieces_text pieces ++ 34 ∷ rest) → chars ≡ pieces_chars pieces
      → IsString text chars rest
  triple : (pieces : List Piece) → AreTriplePieces pieces
      → text ≡ 34 ∷ (34 ∷ (34 ∷ (pieces_text pieces ++ 34 ∷ (34 ∷ (34 ∷ rest)))))
      → begins is_quote rest ≡ false → chars ≡ pieces_chars pieces → IsString text chars rest
