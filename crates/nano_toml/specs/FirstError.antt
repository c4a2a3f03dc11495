-- The first error of a text, and its place. A text is a list of characters.
use Rattle.std.specs.Prelude.{◌≡◌, ℕ, ◌+◌, false, List, [], ◌∷◌, ◌++◌, length, take}
use Rattle.nano_toml.specs.Cut.{Lexeme, Cut, CutEnd, CutsNothing, Gap, AreGaps, begins_gap}
use Rattle.nano_toml.specs.Cut.{gaps_text}
use Rattle.nano_toml.specs.Place.{Begins, before_nul, line_of, column_of, nothing}
use Rattle.nano_toml.specs.Token.{begins, Token}
use Rattle.nano_toml.specs.Statements.{Statement, element, IsClosed, IsStatement, AreStatements}
use Rattle.nano_toml.specs.StatementTable.{IsLawful}
use Rattle.nano_toml.specs.declared.fault.Fault.TheVariants as fault

-- with more characters after them, the characters are one lexeme
abbrev pub CanBeginLexeme : List ℕ → Type 0
CanBeginLexeme prefix = (more : List ℕ) × (token : Token) × Lexeme (prefix ++ more) token []

-- after what is skipped stands no lexeme, and not the end: the prefix can begin a lexeme, and with
-- the next character it can't, or the text ends after it
pub record IsMalformed (text remaining : List ℕ) : Type 0 where
  pub gaps : List Gap
  pub prefix : List ℕ
  pub are_gaps : AreGaps gaps
  pub split : text ≡ gaps_text gaps ++ (prefix ++ remaining)
  pub no_gap : begins begins_gap (prefix ++ remaining) ≡ false
  pub can_begin : CanBeginLexeme prefix
  pub breaks : (c : ℕ) (cs : List ℕ) → remaining ≡ c ∷ cs → CanBeginLexeme (prefix ++ c ∷ []) → ⊥
  pub nothing : CutsNothing text

-- with more tokens after them, the tokens are statements
abbrev pub CanBeginStatements : List Token → Type 0
CanBeginStatements tokens =
    (more : List Token) × (ss : List Statement) × AreStatements (tokens ++ more) ss

-- with at least one more token after them, the tokens are one closed statement
abbrev pub CanBeginStatement : List Token → Type 0
CanBeginStatement tokens =
    (t : Token) × (more : List Token) × (s : Statement)
    × IsStatement IsClosed (tokens ++ t ∷ more) s

-- after these tokens, what stands next in the text is rejected; what remains stands after it
pub data IsRejected (tokens : List Token) (text remaining : List ℕ) : Type 0 where
  lexeme : IsMalformed text remaining → IsRejected tokens text remaining
  token : (t : Token) → Cut text t remaining → (CanBeginStatements (tokens ++ t ∷ []) → ⊥)
      → IsRejected tokens text remaining
  end : CutEnd text → remaining ≡ [] → ((ss : List Statement) → AreStatements tokens ss → ⊥)
      → IsRejected tokens text remaining

-- the tokens of closed statements, in order
abbrev pub AreClosedStatements : List Token → List Statement → Type 0
AreClosedStatements ts [] = ts ≡ []
AreClosedStatements ts (s ∷ ss) =
    (here more : List Token) × IsStatement IsClosed here s × AreClosedStatements more ss
    × (ts ≡ here ++ more)

-- the first error of the text: after lawful statements and the beginning of one more something is
-- rejected, or after lawful statements stands a header `[[key]]` that makes them unlawful
pub data IsFirstError (text remaining : List ℕ) : Type 0 where
  in_tokens : (before here : List Token) (ss : List Statement) (after : List ℕ)
      → Begins (before ++ here) text after → AreClosedStatements before ss → IsLawful ss
      → CanBeginStatement here → IsRejected (before ++ here) after remaining
      → IsFirstError text remaining
  in_header : (tokens : List Token) (ss : List Statement) (key : List ℕ)
      → Begins tokens text remaining → AreClosedStatements tokens (ss ++ element key ∷ [])
      → IsLawful ss → (IsLawful (ss ++ element key ∷ []) → ⊥)
      → IsFirstError text remaining

-- line and column are those of what was taken up to the first error: of all that stands before what
-- remains, and of the character that stands next, if there is one. The text ends before its first
-- NUL, which counts as a character that stands next
pub record IsErrorAt (characters : List ℕ) (line column : ℕ) : Type 0 where
  pub prefix : List ℕ
  pub remaining : List ℕ
  pub split : before_nul characters ≡ prefix ++ remaining
  pub error : IsFirstError (before_nul characters) remaining
  pub is_line : line ≡ line_of (take (length prefix + 1) characters)
  pub is_column : column ≡ column_of (take (length prefix + 1) characters)

-- a text has one first error at most
abbrev pub HasOneFirstError : List ℕ → Type 0
HasOneFirstError text =
    (one two : List ℕ) → IsFirstError text one → IsFirstError text two → one ≡ two
