-- What the tokenizer and the reader of statements give.
use Rattle.std.specs.Prelude.{◌≡◌, ℕ, List, [], string_bytes, ◌∷◌, Option, Some, None, Vec}
use Rattle.std.specs.declared.alloc.Global.{Global}
use Rattle.nano_toml.specs.Token.{Token, ident, string, unsigned, signed, decimal, boolean, nan}
use Rattle.nano_toml.specs.Token.{infinity, date, equals, open_bracket, close_bracket, comma}
use Rattle.nano_toml.specs.Cut.{Cut, CutEnd}
use Rattle.nano_toml.specs.declared.token.TomlTok.{TomlTok}
use Rattle.nano_toml.specs.declared.token.TomlTok.TheVariants as tok
use Rattle.nano_toml.specs.Data.{Data, Values, view, values_view}
use Rattle.nano_toml.specs.Statements.{Statement, scope, element, pair, Encodes, scalar_of}
use Rattle.nano_toml.specs.declared.statements.Name.{Name}
use Rattle.nano_toml.specs.declared.statements.Name.TheVariants as name
use Rattle.nano_toml.specs.declared.statements.Statement.{Statement as Read}
use Rattle.nano_toml.specs.declared.statements.Statement.TheVariants as read
use Rattle.nano_toml.specs.declared.value.Toml.{Toml}

-- ==== what the tokenizer gives

-- a token, the end of the text, or what stands before anything was cut
pub data Next : Type 0 where
  a_token : Token → Next
  the_end : Next
  nothing_yet : Next

abbrev pub token_of : TomlTok → Next
token_of (tok.Ident name) = a_token (ident (string_bytes name))
token_of (tok.Str text) = a_token (string (string_bytes text))
token_of (tok.U64 number) = a_token (unsigned number)
token_of (tok.I64 number) = a_token (signed number)
token_of (tok.F64 text) = a_token (decimal (string_bytes text))
token_of (tok.Bool value) = a_token (boolean value)
token_of (tok.Nan minus) = a_token (nan minus)
token_of (tok.Inf minus) = a_token (infinity minus)
token_of (tok.Date text) = a_token (date (string_bytes text))
token_of tok.Equals = a_token equals
token_of tok.BlockOpen = a_token open_bracket
token_of tok.BlockClose = a_token close_bracket
token_of tok.Comma = a_token comma
token_of tok.Bof = nothing_yet
token_of tok.Eof = the_end

-- this was cut from the text, and leaves rest
abbrev pub Took : List ℕ → Next → List ℕ → Type 0
Took text (a_token token) rest = Cut text token rest
Took text the_end rest = CutEnd text × (rest ≡ [])
Took text nothing_yet rest = ⊥

-- ==== what the reader of statements gives

-- the characters of a name
abbrev pub name_view : Name → List ℕ
name_view (name.Word word) = word.now
name_view (name.Quoted text) = string_bytes text

-- what a statement that was read means
abbrev pub statement_view : Read → Statement
statement_view (read.Scope named) = scope (name_view named)
statement_view (read.Element key) = element key.now
statement_view (read.Pair named value) = pair (name_view named) (view value)

-- the value that is one token
abbrev pub scalar_at : Next → Option Data
scalar_at (a_token t) = scalar_of t
scalar_at the_end = None
scalar_at nothing_yet = None

-- arrays around each other, the outermost first, as their values, the innermost first
abbrev pub arrays_view : List (Vec Toml Global) → List Values → List Values
arrays_view [] inner = inner
arrays_view (array ∷ arrays) inner = arrays_view arrays (values_view array.items ∷ inner)

-- what comes next in the text: no statement and nothing else, or this statement and then what
-- rest encodes
abbrev pub IsNext : List ℕ → Option Statement → List ℕ → Type 0
IsNext text None rest = Encodes text [] × ((ss : List Statement) → Encodes text ss → ss ≡ [])
IsNext text (Some s) rest =
    ((more : List Statement) → Encodes rest more → Encodes text (s ∷ more))
    × ((ss : List Statement) → Encodes text ss
    → (more : List Statement) × (ss ≡ s ∷ more) × Encodes rest more)

-- the text encodes no statements
abbrev pub EncodesNothing : List ℕ → Type 0
EncodesNothing text = (ss : List Statement) → Encodes text ss → ⊥
