-- What a line is read as.
use Rattle.std.specs.Prelude.{◌≡◌, false, ℕ, List, String, string_bytes}
use Rattle.std.specs.Global.{Global}
use Rattle.std.specs.Str.{IsUtf8}
use Rattle.nano_value.specs.Meaning.{Meaning}
use Rattle.nano_grammar.specs.Outcomes.{ReadsNoWhole}
use Rattle.nano_json_tokens.specs.Breaks.{Breaks}
use Rattle.nano_json_tokens.specs.Cut.{Cut}
use Rattle.nano_json_tokens.specs.Outcomes.{report}
use Rattle.nano_json_tokens.specs.Token.{Token, end}
use Rattle.nano_json_tokens.specs.declared.error.DeJsonErr.{DeJsonErr}
use Rattle.nano_lines.specs.declared.line.Line.{Line}
use Rattle.nano_lines.specs.declared.line.Line.TheVariants.{Blank, Value, Bad, NotUtf8}
use Rattle.nano_lines.specs.Lines.{IsBlank, HoldsValue}

-- the error of a line, with the line's number
pub record IsRejected (error : DeJsonErr) (number : ℕ) (result : DeJsonErr) : Type 0 where
  pub not_memory : error.memory ≡ false
  pub same : result ≡ record error { line = number }

-- the error of reading the line as a whole input, with the line's number and its text: it holds
-- no value
pub record RejectsLine (encodes : List Token → Meaning → Type 0) (line : List ℕ) (number : ℕ)
    (result : DeJsonErr) (text : String Global) : Type 0 where
  pub some : IsBlank line → ⊥
  pub utf8 : IsUtf8 line
  pub error : DeJsonErr
  pub rejects : ReadsNoWhole Cut Breaks encodes line end (report error)
  pub rejected : IsRejected error number result
  pub text_is : string_bytes text ≡ line

-- a line is no text
pub record IsNoText (line : List ℕ) : Type 0 where
  pub some : IsBlank line → ⊥
  pub not_utf8 : IsUtf8 line → ⊥

-- the line of this number holds this
abbrev pub IsRead : {T : Type 0} → (List Token → Meaning → Type 0) → (T → Meaning) → List ℕ → ℕ
    → Line T → Type 0
IsRead encodes means line number Blank = IsBlank line
IsRead encodes means line number (Value v) = HoldsValue encodes line (means v)
IsRead encodes means line number (Bad error text) = RejectsLine encodes line number error text
IsRead encodes means line number NotUtf8 = IsNoText line
