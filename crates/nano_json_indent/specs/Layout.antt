-- A list of tokens as a text with indentation: after an opening bracket and after a comma begins a
-- line, and before a closing bracket, two spaces to a level; a space stands after a colon.
use Rattle.std.specs.Prelude.{◌≢◌, ℕ, ◌-◌, codes, decimal, chars, List, []}
use Rattle.std.specs.Prelude.{◌∷◌, ◌++◌, unsigned_abs}
use Rattle.std.specs.List.{AllByRecursion}
use Rattle.nano_text.specs.Place.{remaining_text, saturating_next}
use Rattle.nano_grammar.specs.Tokens.{Cuts}
use Rattle.nano_json_tokens.specs.Token.{Token, str, u64, i64, f64, bool, null, colon, comma}
use Rattle.nano_json_tokens.specs.Token.{block_open, block_close, curly_open, curly_close, end}
use Rattle.nano_json_tokens.specs.Cut.{Cut}
use Rattle.nano_json_tokens.specs.Written.{written_text, written_truth}
use Rattle.nano_document.specs.Indented.{line}
use Rattle.nano_json_indent.specs.declared.kind.Kind.{Kind}
use Rattle.nano_json_indent.specs.declared.kind.Kind.TheVariants.{Start, Opening, Closing, Comma}
use Rattle.nano_json_indent.specs.declared.kind.Kind.TheVariants.{Colon, Scalar}

-- what a token is for those beside it
abbrev pub kind : Token → Kind
kind block_open = Opening
kind curly_open = Opening
kind block_close = Closing
kind curly_close = Closing
kind comma = Comma
kind colon = Colon
kind _ = Scalar

-- the level after a token, from that before it
abbrev pub level_after : ℕ → Kind → ℕ
level_after d Opening = saturating_next d
level_after d Closing = d - 1
level_after d _ = d

-- what stands before a token that is neither a closing bracket nor a comma nor a colon
abbrev pub gap_after : ℕ → Kind → List ℕ
gap_after d Start = []
gap_after d Opening = line d
gap_after d Comma = line d
gap_after d _ = 32 ∷ []

-- what stands before a closing bracket
abbrev pub gap_before_closing : ℕ → Kind → List ℕ
gap_before_closing d Start = []
gap_before_closing d Opening = []
gap_before_closing d _ = line (d - 1)

-- what stands between two tokens, from the level after the first
abbrev pub gap : ℕ → Kind → Kind → List ℕ
gap d before Comma = []
gap d before Colon = []
gap d before Closing = gap_before_closing d before
gap d before _ = gap_after d before

-- how a token is written
abbrev pub token_text : Token → List ℕ
token_text (str bytes) = written_text bytes
token_text (u64 n) = decimal n
token_text (i64 z) = 45 ∷ decimal (unsigned_abs z)
token_text (f64 run) = chars run
token_text (bool b) = written_truth b
token_text null = codes "null"
token_text colon = codes ":"
token_text comma = codes ","
token_text block_open = codes "["
token_text block_close = codes "]"
token_text curly_open = codes "{"
token_text curly_close = codes "}"
token_text _ = []

-- the tokens, from a level and a token before them on
abbrev pub laid_out : ℕ → Kind → List Token → List ℕ
laid_out d before [] = []
laid_out d before (t ∷ ts) =
    gap d before (kind t) ++ (token_text t ++ laid_out (level_after d (kind t)) (kind t) ts)

abbrev pub indented : List Token → List ℕ
indented ts = laid_out 0 Start ts

-- the text, up to its first NUL, is cut into these tokens and no others
pub record AreTokensOf (text : List ℕ) (ts : List Token) : Type 0 where
  pub cut : Cuts Cut ts (remaining_text text) []
  pub no_end : AllByRecursion (λ t. t ≢ end) ts
