-- What the words of a command line ask for.
use Rattle.std.specs.Prelude.{◌≡◌, ℕ, ◌<◌, ◌^◌, List, [], ◌∷◌, map, All, codes, Option}
use Rattle.std.specs.Prelude.{option_to_list, String, string_bytes, option_map}
use Rattle.std.specs.Str.Parse.{IsNumeral, digits_value}
use Rattle.nano_show_answers.specs.declared.words.Form.{Form}
use Rattle.nano_show_answers.specs.declared.words.Form.TheVariants.{Json, Ron, Bin, JsonWhole}
use Rattle.nano_show_answers.specs.declared.words.Form.TheVariants.{RonWhole, BinWhole}
use Rattle.nano_show_answers.specs.declared.words.Kind.{Kind}
use Rattle.nano_show_answers.specs.declared.words.Kind.TheVariants.{U8, U32, U64, I32, I64, Bool}
use Rattle.nano_show_answers.specs.declared.words.Kind.TheVariants.{Text, Bytes, Set, Map, Tree}
use Rattle.nano_show_answers.specs.declared.words.Kind.TheVariants.{Item, Choice}
use Rattle.nano_show_answers.specs.declared.words.Command.{Command}
use Rattle.nano_show_answers.specs.declared.words.Command.TheVariants.{CodeU16s, CodeText, Normal}
use Rattle.nano_show_answers.specs.declared.words.Command.TheVariants.{Listing}
use Rattle.nanoserde.specs.Meaning.{Meaning}
use Rattle.nanoserde.specs.BinCodec.{Codec as BinCodec}
use Rattle.nanoserde.specs.JsonCodec.{Codec as JsonCodec}
use Rattle.nanoserde.specs.RonCodec.{Codec as RonCodec}
use Rattle.nanoserde.specs.Normal.{NormalForm, text_bytes}
use Rattle.nano_json.specs.Cut.{Cut as JsonCut}
use Rattle.nano_json.specs.Token.{end as json_end}
use Rattle.nano_grammar.specs.Outcomes.{WholeDecodesTo}
use Rattle.nano_ron.specs.Cut.{Cut as RonCut}
use Rattle.nano_ron.specs.Token.{end as ron_end}

-- the bytes of each word
abbrev pub texts : {Z : Type 0} → List (String Z) → List (List ℕ)
texts words = map (λ word. string_bytes word) words

-- what can be asked for: the code of a list of numbers, or of a text that may be absent, the
-- normal form of the input, and the listing of the table that it encodes
pub data Request : Type 0 where
  code_of_u16s : List ℕ → Request
  code_of_text : Option (List ℕ) → Request
  normal_of_input : Form → Kind → Request
  listing_of_input : Request

-- the word for each format, and for one that the whole input is to stand in
abbrev pub form_name : Form → List ℕ
form_name Json = codes "json"
form_name Ron = codes "ron"
form_name Bin = codes "bin"
form_name JsonWhole = codes "json-whole"
form_name RonWhole = codes "ron-whole"
form_name BinWhole = codes "bin-whole"

-- the word for each type
abbrev pub kind_name : Kind → List ℕ
kind_name U8 = codes "u8"
kind_name U32 = codes "u32"
kind_name U64 = codes "u64"
kind_name I32 = codes "i32"
kind_name I64 = codes "i64"
kind_name Bool = codes "bool"
kind_name Text = codes "string"
kind_name Bytes = codes "bytes"
kind_name Set = codes "set"
kind_name Map = codes "map"
kind_name Tree = codes "tree"
kind_name Item = codes "item"
kind_name Choice = codes "choice"

-- one decimal digit or more, and nothing else, of a value that a `u16` has
pub record IsU16 (word : List ℕ) : Type 0 where
  pub digits : IsNumeral 10 word
  pub fits : digits_value 10 word < 2 ^ 16

-- `code u16s`, and the numerals of the numbers
pub record AskForU16s (words : List (List ℕ)) (numbers : List ℕ) : Type 0 where
  pub numerals : List (List ℕ)
  pub are : words ≡ codes "code" ∷ codes "u16s" ∷ numerals
  pub each : All IsU16 numerals
  pub values : numbers ≡ map (digits_value 10) numerals

-- `code text`, and the text where there is one
abbrev pub AskForText : List (List ℕ) → Option (List ℕ) → Type 0
AskForText words text = words ≡ codes "code" ∷ codes "text" ∷ option_to_list text

-- what the words ask for
abbrev pub AskFor : List (List ℕ) → Request → Type 0
AskFor words (code_of_u16s numbers) = AskForU16s words numbers
AskFor words (code_of_text text) = AskForText words text
AskFor words (normal_of_input form kind) = words ≡ form_name form ∷ kind_name kind ∷ []
AskFor words listing_of_input = words ≡ codes "toml" ∷ []

-- the words are none that the program knows
abbrev pub AskForNothing : List (List ℕ) → Type 0
AskForNothing words = (request : Request) → AskFor words request → ⊥

-- it depends on the input
abbrev pub DependsOnInput : Request → Type 0
DependsOnInput (code_of_u16s numbers) = ⊥
DependsOnInput (code_of_text text) = ⊥
DependsOnInput (normal_of_input form kind) = Unit {0}
DependsOnInput listing_of_input = Unit {0}

-- the words ask for nothing that depends on the input
abbrev pub AskForNoInput : List (List ℕ) → Type 0
AskForNoInput words = (request : Request) → AskFor words request → DependsOnInput request → ⊥

-- ==== words that were understood, as the program holds them

-- what is asked for
abbrev pub request_of : Command → Request
request_of (CodeU16s numerals) = code_of_u16s (map (digits_value 10) (texts numerals.now))
request_of (CodeText text) = code_of_text (option_map (λ word. word.now) text)
request_of (Normal form kind) = normal_of_input form kind
request_of Listing = listing_of_input

-- its numerals are numerals
abbrev pub IsSound : Command → Type 0
IsSound (CodeU16s numerals) = All IsU16 (texts numerals.now)
IsSound (CodeText text) = Unit {0}
IsSound (Normal form kind) = Unit {0}
IsSound Listing = Unit {0}

-- it takes no input
abbrev pub TakesNoInput : Command → Type 0
TakesNoInput (CodeU16s numerals) = Unit {0}
TakesNoInput (CodeText text) = Unit {0}
TakesNoInput (Normal form kind) = ⊥
TakesNoInput Listing = ⊥

-- ==== whole inputs

-- a value that the whole input encodes
abbrev pub IsBytes : {A : Type 0} → BinCodec A → List ℕ → Meaning → Type 0
IsBytes codec input m = codec.encoding.encodes input m

abbrev pub IsJson : {A : Type 0} → JsonCodec A → List ℕ → Meaning → Type 0
IsJson codec input m = WholeDecodesTo JsonCut codec.encoding.encodes json_end input m

abbrev pub IsRon : {A : Type 0} → RonCodec A → List ℕ → Meaning → Type 0
IsRon codec input m = WholeDecodesTo RonCut codec.encoding.encodes ron_end input m

-- its normal form
abbrev pub WholeBytes : {A : Type 0} → (A → Meaning) → BinCodec A → List ℕ → List ℕ → Type 0
WholeBytes means codec input bytes =
    NormalForm means (IsBytes codec input) codec.canonical.written bytes

abbrev pub WholeJson : {A : Type 0} → (A → Meaning) → JsonCodec A → List ℕ → List ℕ → Type 0
WholeJson means codec input text =
    NormalForm means (IsJson codec input) (text_bytes codec) text

abbrev pub WholeRon : {A : Type 0} → (A → Meaning) → RonCodec A → List ℕ → List ℕ → Type 0
WholeRon means codec input text =
    NormalForm means (IsRon codec input) (text_bytes codec) text
