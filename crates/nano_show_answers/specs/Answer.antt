-- What the program answers to its words and its input.
use Rattle.std.specs.Prelude.{◌≡◌, ℕ, List, ◌++◌, Option, Some, IfSome, IsUtf8, Result, MatchResult}
use Rattle.std.specs.Prelude.{Vec, codes, string_bytes, [], ◌∷◌}
use Rattle.std.specs.Global.{Global}
use Rattle.std.specs.Io.KnownBytes.{Appends, IsAtEnd}
use Rattle.nano_bin.specs.Scalars.{little_endian}
use Rattle.nano_bin.specs.Containers.{written_list, written_option, written_text}
use Rattle.nano_toml.specs.Place.{remaining_text}
use Rattle.nano_toml.specs.StatementTable.{Pairs, EncodesTable}
use Rattle.nano_toml.specs.Data.{table_view, Table, no_pairs, more_pairs, view}
use Rattle.nano_show_answers.specs.declared.words.Form.{Form}
use Rattle.nano_show_answers.specs.declared.words.Form.TheVariants.{Json, Ron, Bin, JsonWhole}
use Rattle.nano_show_answers.specs.declared.words.Form.TheVariants.{RonWhole, BinWhole}
use Rattle.nano_show_answers.specs.declared.words.Kind.{Kind}
use Rattle.nano_show_answers.specs.declared.fault.ShowFault.{ShowFault}
use Rattle.nano_show_answers.specs.declared.fault.ShowFault.TheVariants.{Refused, Usage, Memory}
use Rattle.nano_show_answers.specs.declared.fault.ShowFault.TheVariants.{Stream}
use Rattle.nano_show_answers.specs.Requests.{Request, code_of_u16s, code_of_text, normal_of_input}
use Rattle.nano_show_answers.specs.Requests.{listing_of_input, AskFor, AskForNoInput}
use Rattle.nano_show_answers.specs.Listing.{listing, hex_pairs, line}
use Rattle.nano_show_answers.specs.Shown.{Shown, IsNormal}

-- the normal form that the input has, with a line feed after it: where the input is a text,
-- that text is shown as it is, and bytes are shown in pairs
pub record IsTextLine (normal : List ℕ → List ℕ → Type 0) (input answer : List ℕ)
    : Type 0 where
  pub utf8 : IsUtf8 input
  pub text : List ℕ
  pub is_normal : normal input text
  pub is : answer ≡ line text

pub record IsBytesLine (normal : List ℕ → List ℕ → Type 0) (input answer : List ℕ)
    : Type 0 where
  pub bytes : List ℕ
  pub is_normal : normal input bytes
  pub is : answer ≡ line (hex_pairs bytes)

abbrev pub IsNormalLine : Form → Shown → List ℕ → List ℕ → Type 0
IsNormalLine Json type input answer = IsTextLine (IsNormal Json type) input answer
IsNormalLine Ron type input answer = IsTextLine (IsNormal Ron type) input answer
IsNormalLine Bin type input answer = IsBytesLine (IsNormal Bin type) input answer
IsNormalLine JsonWhole type input answer = IsTextLine (IsNormal JsonWhole type) input answer
IsNormalLine RonWhole type input answer = IsTextLine (IsNormal RonWhole type) input answer
IsNormalLine BinWhole type input answer = IsBytesLine (IsNormal BinWhole type) input answer

-- the listing of the table that the input encodes, where the input is a text; a table is what
-- the pairs of some map mean, and a text ends before its first NUL
pub record IsListing (input answer : List ℕ) : Type 0 where
  pub utf8 : IsUtf8 input
  pub pairs : Pairs
  pub is_encoded : EncodesTable (remaining_text input) (table_view pairs)
  pub is : answer ≡ listing (table_view pairs)

-- a fault of an answer: only what has no answer is rejected, and the words are known
abbrev pub IsFaultOf : Type 0 → ShowFault → Type 0
IsFaultOf has_none (Refused reason) = has_none
IsFaultOf has_none Usage = ⊥
IsFaultOf has_none Memory = Unit {0}
IsFaultOf has_none Stream = Unit {0}

-- what is answered is an answer to the input, and only what has none is rejected
abbrev pub AnswersInput : (List ℕ → List ℕ → Type 0) → List ℕ → Result (Vec ℕ Global) ShowFault
    → Type 0
AnswersInput is_answer input result =
    MatchResult result (λ answer. is_answer input answer.items)
    (IsFaultOf ((answer : List ℕ) → is_answer input answer → ⊥))

-- by the types that the names stand for
module _ (types : Kind → Shown) where
  -- what is written for a request and the bytes of the input: for a code, its pairs on a line,
  -- whatever the input
  abbrev pub Answers : Request → List ℕ → List ℕ → Type 0
  Answers (code_of_u16s numbers) input answer =
      answer ≡ line (hex_pairs (written_list (little_endian 2) numbers))
  Answers (code_of_text text) input answer =
      answer ≡ line (hex_pairs (written_option written_text text))
  Answers (normal_of_input form kind) input answer = IsNormalLine form (types kind) input answer
  Answers listing_of_input input answer = IsListing input answer

  -- the answer to a request, by the bytes of the input: those that are known, or any where none are
  pub record IsAnswerTo (request : Request) (known : Option (List ℕ)) (answer : List ℕ)
      : Type 0 where
    pub input : List ℕ
    pub given : IfSome known (λ bytes. input ≡ bytes)
    pub answers : Answers request input answer

  -- the input gives a request no answer
  pub record HasNoAnswerTo (request : Request) (known : Option (List ℕ)) : Type 0 where
    pub input : List ℕ
    pub given : IfSome known (λ bytes. input ≡ bytes)
    pub nothing : (answer : List ℕ) → Answers request input answer → ⊥

  -- the words ask for something, and this is the answer to it
  pub record IsAnswer (words : List (List ℕ)) (known : Option (List ℕ)) (answer : List ℕ)
      : Type 0 where
    pub request : Request
    pub asked : AskFor words request
    pub is : IsAnswerTo request known answer

  -- the words ask for something, and the input gives it no answer
  pub record HasNoAnswer (words : List (List ℕ)) (known : Option (List ℕ)) : Type 0 where
    pub request : Request
    pub asked : AskFor words request
    pub is : HasNoAnswerTo request known

  -- a writer got the answer, and nothing else
  pub record WritesAnswer (words : List (List ℕ)) (known old new : Option (List ℕ))
      : Type 0 where
    pub answer : List ℕ
    pub is : IsAnswer words known answer
    pub written : Appends old new answer

-- a writer got the bytes up to a rest, and nothing else
pub record WritesUpTo (rest : List ℕ) (old new : Option (List ℕ)) (bytes : List ℕ)
    : Type 0 where
  pub prefix : List ℕ
  pub whole : bytes ≡ prefix ++ rest
  pub written : Appends old new prefix

module _ (types : Kind → Shown) where
  -- a writer got a beginning of the answer, and nothing else; what was asked of the input, with
  -- these bytes left, was read to its end
  pub record WritesBeginning (words : List (List ℕ)) (known left old new : Option (List ℕ))
      : Type 0 where
    pub answer : List ℕ
    pub is : IsAnswer types words known answer
    pub rest : List ℕ
    pub written : WritesUpTo rest old new answer
    pub ended : (AskForNoInput words → ⊥) → IsAtEnd left

  -- words and the bytes of an input have at most one answer
  abbrev pub OneAnswer : Type 0
  OneAnswer =
      (words : List (List ℕ)) (input first second : List ℕ)
      → IsAnswer types words (Some input) first → IsAnswer types words (Some input) second
      → first ≡ second

  -- and where they have one, they are not rejected
  abbrev pub AnswerOrRejection : Type 0
  AnswerOrRejection =
      (words : List (List ℕ)) (input answer : List ℕ) → IsAnswer types words (Some input) answer
      → HasNoAnswer types words (Some input) → ⊥

-- ==== how the program ends at a fault

-- the exit status
abbrev pub status_of : ShowFault → ℕ
status_of (Refused reason) = 1
status_of Usage = 2
status_of Memory = 3
status_of Stream = 3

-- the line on standard error, without its line feed
abbrev pub message_of : ShowFault → List ℕ
message_of (Refused reason) = string_bytes reason
message_of Usage =
    codes "usage: nano_show code u16s N.. | code text [WORD] | json TYPE | ron TYPE | bin TYPE"
    ++ codes " | toml | json-whole TYPE | ron-whole TYPE | bin-whole TYPE"
message_of Memory = codes "no memory"
message_of Stream = codes "stream fault"

-- ==== calls in a row

abbrev pub chain : Pairs → Table
chain [] = no_pairs
chain (e ∷ es) = more_pairs (string_bytes e.0) (view e.1) (chain es)
