-- What a reader's state and its characters stand for.
use Rattle.std.specs.Prelude.{◌≡◌, ℕ, List, [], string_bytes, ℤ, ◌++◌, codes, decimal}
use Rattle.std.specs.declared.str.Chars.{Chars}
use Rattle.std.specs.Fmt.{signed_decimal}
use Rattle.nano_text.specs.Place.{remaining, saturating_next}
use Rattle.nano_grammar.specs.Tokens.{At}
use Rattle.nano_text.specs.declared.place.Place.{Place}
use Rattle.nano_json_tokens.specs.declared.token.DeJsonTok.{DeJsonTok}
use Rattle.nano_json_tokens.specs.declared.token.DeJsonTok.TheVariants.{Str, Char, U64, I64, F64}
use Rattle.nano_json_tokens.specs.declared.token.DeJsonTok.TheVariants.{Bool, BareIdent, Null}
use Rattle.nano_json_tokens.specs.declared.token.DeJsonTok.TheVariants.{Colon, CurlyOpen}
use Rattle.nano_json_tokens.specs.declared.token.DeJsonTok.TheVariants.{CurlyClose, BlockOpen}
use Rattle.nano_json_tokens.specs.declared.token.DeJsonTok.TheVariants.{BlockClose, Comma, Bof, Eof}
use Rattle.nano_json_tokens.specs.declared.state.DeJsonState.{DeJsonState}
use Rattle.nano_json_tokens.specs.Token.{Token, str, character, u64, i64, f64, bool, bare_ident}
use Rattle.nano_json_tokens.specs.Token.{null, colon, curly_open, curly_close, block_open}
use Rattle.nano_json_tokens.specs.Token.{block_close, comma, bof, end, IsStr, IsNumeric, IsLiteral}
use Rattle.nano_json_tokens.specs.declared.error.DeJsonErr.{DeJsonErr}

-- the token, with the text that it has in a buffer
abbrev pub token_of : DeJsonTok → List ℕ → List ℕ → Token
token_of Str strbuf numbuf = str strbuf
token_of (Char c) strbuf numbuf = character c
token_of (U64 n) strbuf numbuf = u64 n
token_of (I64 n) strbuf numbuf = i64 n
token_of F64 strbuf numbuf = f64 numbuf
token_of (Bool b) strbuf numbuf = bool b
token_of BareIdent strbuf numbuf = bare_ident
token_of Null strbuf numbuf = null
token_of Colon strbuf numbuf = colon
token_of CurlyOpen strbuf numbuf = curly_open
token_of CurlyClose strbuf numbuf = curly_close
token_of BlockOpen strbuf numbuf = block_open
token_of BlockClose strbuf numbuf = block_close
token_of Comma strbuf numbuf = comma
token_of Bof strbuf numbuf = bof
token_of Eof strbuf numbuf = end

-- the pending token
abbrev pub pending : DeJsonState → Token
pending s = token_of s.tok (string_bytes s.strbuf) (string_bytes s.numbuf)

-- the pending token, and the remaining input
abbrev pub at : DeJsonState → Chars → At Token
at s i = record { token = pending s; text = remaining s.cur i }

-- at the end of the text
abbrev pub ended : At Token
ended = record { token = end; text = [] }

-- where the state stands in the text
abbrev pub place_of : DeJsonState → Place
place_of s = record { cur = s.cur; line = s.line; col = s.col }

-- a buffer has changed only if the token that is pending now has its text there
pub record KeepsOtherBuffers (old new : DeJsonState) : Type 0 where
  pub strbuf : ¬ IsStr (pending new) → string_bytes new.strbuf ≡ string_bytes old.strbuf
  pub numbuf : ¬ IsNumeric (pending new) → string_bytes new.numbuf ≡ string_bytes old.numbuf
  pub identbuf : ¬ IsLiteral (pending new) → string_bytes new.identbuf ≡ string_bytes old.identbuf

-- no buffer has changed
pub record KeepsBuffers (old new : DeJsonState) : Type 0 where
  pub strbuf : new.strbuf ≡ old.strbuf
  pub numbuf : new.numbuf ≡ old.numbuf
  pub identbuf : new.identbuf ≡ old.identbuf

-- a state before the first character
pub record IsFresh (s : DeJsonState) : Type 0 where
  pub cur : s.cur ≡ 0
  pub tok : s.tok ≡ Bof
  pub strbuf : string_bytes s.strbuf ≡ []
  pub numbuf : string_bytes s.numbuf ≡ []
  pub identbuf : string_bytes s.identbuf ≡ []
  pub line : s.line ≡ 0
  pub col : s.col ≡ 0

-- ==== the texts of errors

-- a value and the bound that it is beyond, with a sign between
abbrev pub out_of_range : List ℕ → List ℕ → List ℕ → List ℕ
out_of_range value sign bound =
    codes "Value out of range " ++ (value ++ (sign ++ (bound ++ codes " ")))

abbrev pub below_range : ℤ → ℤ → List ℕ
below_range value least = out_of_range (signed_decimal value) (codes "<") (signed_decimal least)

abbrev pub above_range : ℤ → ℤ → List ℕ
above_range value greatest =
    out_of_range (signed_decimal value) (codes ">") (signed_decimal greatest)

-- what an error prints: lines and columns are counted from 1 there
abbrev pub error_text : DeJsonErr → List ℕ
error_text e =
    let place = decimal (saturating_next e.line)
    ++ (codes " col:" ++ decimal (saturating_next e.col)) in
    codes "Json Deserialize error: " ++ (string_bytes e.msg ++ (codes ", line:" ++ place))

-- the same message, place and memory flag
pub record IsSameError (a b : DeJsonErr) : Type 0 where
  pub msg : string_bytes b.msg ≡ string_bytes a.msg
  pub line : b.line ≡ a.line
  pub col : b.col ≡ a.col
  pub memory : b.memory ≡ a.memory
