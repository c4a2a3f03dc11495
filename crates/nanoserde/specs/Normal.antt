-- The normal form of an input: what is written of the value that it begins with.
use Rattle.std.specs.Prelude.{◌≡◌, ℕ, List, encode_utf8_all, true, [], string_bytes}
use Rattle.nano_value.specs.Meaning.{Meaning}
use Rattle.nano_text.specs.Place.{remaining_text}
use Rattle.nano_bin.specs.Codec.{Codec as BinCodec}
use Rattle.nano_bin_bytes.specs.Reading.{DecodesTo}
use Rattle.nano_grammar.specs.Tokens.{Cutting, TextDecodesTo}
use Rattle.nano_grammar.specs.Codec.{Codec as TextCodec, Grammar}
use Rattle.nano_json.specs.Codec.{Codec as JsonCodec}
use Rattle.nano_ron.specs.Codec.{Codec as RonCodec}
use Rattle.nano_json_tokens.specs.declared.error.DeJsonErr.{DeJsonErr}
use Rattle.nano_ron_tokens.specs.declared.error.DeRonErr.{DeRonErr}

-- these bytes are the canonical encoding of a value that is decoded
pub record NormalForm {A : Type 0} (means : A → Meaning) (fits : Meaning → Type 0)
    (written : A → List ℕ) (bytes : List ℕ) : Type 0 where
  pub value : A
  pub fitting : fits (means value)
  pub is : bytes ≡ written value

-- a value that the bytes begin with
abbrev pub BeginsBytes : {A : Type 0} → BinCodec A → List ℕ → Meaning → Type 0
BeginsBytes codec input m = DecodesTo codec.encoding.encodes input m

-- a value that the text begins with, which ends before its first NUL
abbrev pub BeginsText : {T : Type 0} {c : Cutting T} {g : Grammar T} {A : Type 0}
    → TextCodec c g A → List ℕ → Meaning → Type 0
BeginsText {c = c} codec input m = TextDecodesTo c.cut codec.encoding.encodes (remaining_text input)
    m

-- the text of a value at level 0, as bytes of UTF-8
abbrev pub text_bytes : {T : Type 0} {c : Cutting T} {g : Grammar T} {A : Type 0}
    → TextCodec c g A → A → List ℕ
text_bytes codec x = encode_utf8_all (codec.canonical.text 0 x)

-- the normal form of bytes
abbrev pub NormalBytes : {A : Type 0} → (A → Meaning) → BinCodec A → List ℕ → List ℕ → Type 0
NormalBytes means codec input bytes =
    NormalForm means (BeginsBytes codec input) codec.canonical.written bytes

-- the normal form of a text
abbrev pub NormalText : {T : Type 0} {c : Cutting T} {g : Grammar T} {A : Type 0}
    → (A → Meaning) → TextCodec c g A → List ℕ → List ℕ → Type 0
NormalText means codec input text =
    NormalForm means (BeginsText codec input) (text_bytes codec) text

abbrev pub NormalJson : {A : Type 0} → (A → Meaning) → JsonCodec A → List ℕ → List ℕ → Type 0
NormalJson means codec input text = NormalText means codec input text

abbrev pub NormalRon : {A : Type 0} → (A → Meaning) → RonCodec A → List ℕ → List ℕ → Type 0
NormalRon means codec input text = NormalText means codec input text

-- the bytes of the value that a text begins with
abbrev pub TextAsBytes : {T : Type 0} {c : Cutting T} {g : Grammar T} {A : Type 0}
    → (A → Meaning) → TextCodec c g A → BinCodec A → List ℕ → List ℕ → Type 0
TextAsBytes means codec binary input bytes =
    NormalForm means (BeginsText codec input) binary.canonical.written bytes

abbrev pub JsonAsBytes : {A : Type 0} → (A → Meaning) → JsonCodec A → BinCodec A → List ℕ
    → List ℕ → Type 0
JsonAsBytes means codec binary input bytes = TextAsBytes means codec binary input bytes

abbrev pub RonAsBytes : {A : Type 0} → (A → Meaning) → RonCodec A → BinCodec A → List ℕ
    → List ℕ → Type 0
RonAsBytes means codec binary input bytes = TextAsBytes means codec binary input bytes

-- ==== what is written

pub record IsJsonMemory (error : DeJsonErr) : Type 0 where
  pub memory : error.memory ≡ true
  pub words : string_bytes error.msg ≡ []
  pub line : error.line ≡ 0
  pub col : error.col ≡ 0

pub record IsRonMemory (error : DeRonErr) : Type 0 where
  pub memory : error.memory ≡ true
  pub words : string_bytes error.msg ≡ []
  pub line : error.line ≡ 0
  pub col : error.col ≡ 0
