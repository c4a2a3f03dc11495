-- What the calls of the tokenizer and of the reader return. Out of memory says nothing about a
-- text.
use Rattle.std.specs.Prelude.{◌≡◌, ◌≢◌, ℕ, List, ◌++◌, Option, Some, Result, IfOk, IfErr, String}
use Rattle.std.specs.Prelude.{string_bytes, ◌+◌, codes, min}
use Rattle.std.specs.declared.alloc.Global.{Global}
use Rattle.std.below.core.specs.declared.int.usize.TheConstants.{MAX}
use Rattle.std.specs.Fmt.{decimal}
use Rattle.nano_toml.specs.Data.{Data, view}
use Rattle.nano_toml.specs.Place.{Prefix, Parses}
use Rattle.nano_toml.specs.Reading.{statement_view, token_of}
use Rattle.nano_toml.specs.Scan.{Content, Taken}
use Rattle.nano_toml.specs.Statements.{Statement as Stated}
use Rattle.nano_toml.specs.Token.{Token}
use Rattle.nano_toml.specs.declared.fault.Fault.{Fault}
use Rattle.nano_toml.specs.declared.fault.Fault.TheVariants.{Memory, Malformed}
use Rattle.nano_toml.specs.declared.fault.Lexeme.{Lexeme}
use Rattle.nano_toml.specs.declared.statements.Statement.{Statement}
use Rattle.nano_toml.specs.declared.token.TomlTok.{TomlTok}
use Rattle.nano_toml.specs.declared.value.Toml.{Toml}
use Rattle.nano_toml.specs.declared.fault.Lexeme.TheVariants as lexeme
use Rattle.nano_toml.specs.declared.fault.Fault.TheVariants as fault

-- what holds where the call reports a fault of the text
abbrev pub OnFault : {A : Type 0} → Result A Fault → Type 0 → Type 0
OnFault result holds = IfErr result (λ e. e ≢ Memory → holds)

-- the fault of the text that the call reports
abbrev pub FaultIs : {A : Type 0} → Result A Fault → Fault → Type 0
FaultIs result fault = IfErr result (λ e. e ≢ Memory → e ≡ fault)

-- the fault of the text that the call tells is that of a lexeme
abbrev pub ReportsLexeme : {A : Type 0} → Result A Fault → Type 0
ReportsLexeme result = IfErr result (λ e. e ≢ Memory → (lexeme : Lexeme) × (e ≡ Malformed lexeme))

-- the call appends more to the text
abbrev pub Appends : String Global → String Global → List ℕ → Type 0
Appends old new more = string_bytes new ≡ string_bytes old ++ more

-- a string that was found, and what is left after it
abbrev pub content : String Global → List ℕ → Option Content
content text left = Some (record { bytes = string_bytes text; rest = left })

-- the call returns the token that the scan finds, and left is left after it
abbrev pub Takes : {E : Type 0} → Result TomlTok E → Option Taken → List ℕ → Type 0
Takes result scan left = IfOk result (λ t. scan ≡ Some (record { next = token_of t; rest = left }))

-- the call returns the value that is the prefix of the text, and left is left after it
abbrev pub ParsesValue : Result Toml Fault → (List Token → Prefix Data) → List ℕ → List ℕ → Type 0
ParsesValue result prefix text left = IfOk result (λ value. Parses prefix text (view value) left)

-- the same of a statement
abbrev pub ParsesStatement :
    Result Statement Fault → (List Token → Prefix Stated) → List ℕ → List ℕ → Type 0
ParsesStatement result prefix text left = IfOk result
    (λ s. Parses prefix text (statement_view s) left)

-- ==== what an error reports, and the line that it prints

-- the word for characters that begin no token
abbrev pub word_of : Lexeme → List ℕ
word_of lexeme.Number = codes "number"
word_of lexeme.Nan = codes "nan"
word_of lexeme.Infinity = codes "inf"
word_of lexeme.Quoted = codes "string"
word_of lexeme.Character = codes "tokenizer"

-- the text is the message of the fault; a token is shown in some form, and out of memory has
-- no message
abbrev pub Reports : Fault → List ℕ → Type 0
Reports fault.Memory text = ⊥
Reports (fault.Malformed lexeme) text =
    text ≡ codes "Cannot parse toml " ++ (word_of lexeme ++ codes " ")
Reports (fault.Unexpected token) text =
    (shown : List ℕ) × (text ≡ codes "Unexpected token " ++ (shown ++ codes " "))
Reports (fault.OtherKind key) text =
    text ≡ codes "Array header on another kind " ++ (string_bytes key ++ codes " ")

-- the fault of a header `[[key]]` on a key that a pair gave
abbrev pub IsOtherKind : Fault → List ℕ → Type 0
IsOtherKind (fault.OtherKind text) key = string_bytes text ≡ key
IsOtherKind e key = ⊥

-- the text is the message of a fault
abbrev pub IsMessage : List ℕ → Type 0
IsMessage text = (fault : Fault) × Reports fault text

-- counted from 1 in place of 0; the count saturates at the greatest number
abbrev pub from_one : ℕ → ℕ
from_one n = min (n + 1) MAX

-- the message, and where the fault stands
abbrev pub error_text : List ℕ → ℕ → ℕ → List ℕ
error_text message line column =
    codes "Toml error: " ++ message ++ codes ", line:" ++ decimal (from_one line)
    ++ codes " col:" ++ decimal (from_one column)
