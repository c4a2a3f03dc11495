-- What a reader's state and its characters stand for.
use Rattle.std.specs.Prelude.{◌≡◌, ℕ, List, [], string_bytes, ℤ, ◌++◌, codes, decimal}
use Rattle.std.specs.declared.str.Chars.{Chars}
use Rattle.std.specs.Fmt.{signed_decimal}
use Rattle.nano_text.specs.Place.{remaining, saturating_next}
use Rattle.nano_grammar.specs.Tokens.{At}
use Rattle.nano_text.specs.declared.place.Place.{Place}
use Rattle.nano_ron_tokens.specs.declared.token.DeRonTok.{DeRonTok}
use Rattle.nano_ron_tokens.specs.declared.token.DeRonTok.TheVariants.{Ident, Str, U64, I64, F64}
use Rattle.nano_ron_tokens.specs.declared.token.DeRonTok.TheVariants.{Bool, Char, Colon, CurlyOpen}
use Rattle.nano_ron_tokens.specs.declared.token.DeRonTok.TheVariants.{CurlyClose, ParenOpen}
use Rattle.nano_ron_tokens.specs.declared.token.DeRonTok.TheVariants.{ParenClose, BlockOpen}
use Rattle.nano_ron_tokens.specs.declared.token.DeRonTok.TheVariants.{BlockClose, Comma, Bof, Eof}
use Rattle.nano_ron_tokens.specs.declared.state.DeRonState.{DeRonState}
use Rattle.nano_ron_tokens.specs.Token.{Token, ident, str, u64, i64, f64, bool, character, colon}
use Rattle.nano_ron_tokens.specs.Token.{curly_open, curly_close, paren_open, paren_close}
use Rattle.nano_ron_tokens.specs.Token.{block_open, block_close, comma, bof, end, IsStr, IsNumeric}
use Rattle.nano_ron_tokens.specs.Token.{IsLiteral}
use Rattle.nano_ron_tokens.specs.declared.error.DeRonErr.{DeRonErr}

-- the token, with the text that it has in a buffer
abbrev pub token_of : DeRonTok → List ℕ → List ℕ → List ℕ → Token
token_of Ident strbuf numbuf identbuf = ident identbuf
token_of Str strbuf numbuf identbuf = str strbuf
token_of (U64 n) strbuf numbuf identbuf = u64 n
token_of (I64 n) strbuf numbuf identbuf = i64 n
token_of F64 strbuf numbuf identbuf = f64 numbuf
token_of (Bool b) strbuf numbuf identbuf = bool b
token_of (Char c) strbuf numbuf identbuf = character c
token_of Colon strbuf numbuf identbuf = colon
token_of CurlyOpen strbuf numbuf identbuf = curly_open
token_of CurlyClose strbuf numbuf identbuf = curly_close
token_of ParenOpen strbuf numbuf identbuf = paren_open
token_of ParenClose strbuf numbuf identbuf = paren_close
token_of BlockOpen strbuf numbuf identbuf = block_open
token_of BlockClose strbuf numbuf identbuf = block_close
token_of Comma strbuf numbuf identbuf = comma
token_of Bof strbuf numbuf identbuf = bof
token_of Eof strbuf numbuf identbuf = end

-- the pending token
abbrev pub pending : DeRonState → Token
pending s =
    token_of s.tok (string_bytes s.strbuf) (string_bytes s.numbuf) (string_bytes s.identbuf)

-- the pending token, and the remaining input
abbrev pub at : DeRonState → Chars → At Token
at s i = record { token = pending s; text = remaining s.cur i }

-- at the end of the text
abbrev pub ended : At Token
ended = record { token = end; text = [] }

-- where the state stands in the text
abbrev pub place_of : DeRonState → Place
place_of s = record { cur = s.cur; line = s.line; col = s.col }

-- a buffer has changed only if the token that is pending now has its text there
pub record KeepsOtherBuffers (old new : DeRonState) : Type 0 where
  pub strbuf : ¬ IsStr (pending new) → string_bytes new.strbuf ≡ string_bytes old.strbuf
  pub numbuf : ¬ IsNumeric (pending new) → string_bytes new.numbuf ≡ string_bytes old.numbuf
  pub identbuf : ¬ IsLiteral (pending new) → string_bytes new.identbuf ≡ string_bytes old.identbuf

-- a state before the first character
pub record IsFresh (s : DeRonState) : Type 0 where
  pub cur : s.cur ≡ 0
  pub tok : s.tok ≡ Bof
  pub strbuf : string_bytes s.strbuf ≡ []
  pub numbuf : string_bytes s.numbuf ≡ []
  pub identbuf : string_bytes s.identbuf ≡ []
  pub line : s.line ≡ 0
  pub col : s.col ≡ 0

-- ==== the texts of errors

-- a value and the bound that it is beyond, with a sign between
abbrev pub out_of_range : List ℕ → List ℕ → List ℕ → List ℕ
out_of_range value sign bound =
    codes "Value out of range " ++ (value ++ (sign ++ (bound ++ codes " ")))

abbrev pub below_range : ℤ → ℤ → List ℕ
below_range value least = out_of_range (signed_decimal value) (codes "<") (signed_decimal least)

abbrev pub above_range : ℤ → ℤ → List ℕ
above_range value greatest =
    out_of_range (signed_decimal value) (codes ">") (signed_decimal greatest)

-- what an error prints: lines and columns are counted from 1 there
abbrev pub error_text : DeRonErr → List ℕ
error_text e =
    let place = decimal (saturating_next e.line)
    ++ (codes " col:" ++ decimal (saturating_next e.col)) in
    codes "Ron Deserialize error: " ++ (string_bytes e.msg ++ (codes ", line:" ++ place))

-- the same message, place and memory flag
pub record IsSameError (a b : DeRonErr) : Type 0 where
  pub msg : string_bytes b.msg ≡ string_bytes a.msg
  pub line : b.line ≡ a.line
  pub col : b.col ≡ a.col
  pub memory : b.memory ≡ a.memory
