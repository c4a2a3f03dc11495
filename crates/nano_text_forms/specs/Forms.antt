-- What a text of either form is, and what is written in it.
use Rattle.std.specs.Prelude.{◌≢◌, ℕ, List, Option, Some, None, cond, codes, eqb, encode_utf8_all}
use Rattle.std.specs.Prelude.{◌≡◌, Bool, true, false, String, string_bytes}
use Rattle.std.specs.List.{ends_with}
use Rattle.std.specs.Global.{Global}
use Rattle.nano_value.specs.Meaning.{Meaning}
use Rattle.nano_grammar.specs.Outcomes.{WholeDecodesTo, Report, ReadsNoWhole}
use Rattle.nano_json_tokens.specs.Breaks.{Breaks as JsonBreaks}
use Rattle.nano_json_tokens.specs.Cut.{Cut as JsonCut}
use Rattle.nano_json_tokens.specs.Token.{end as json_end}
use Rattle.nano_ron_tokens.specs.Breaks.{Breaks as RonBreaks}
use Rattle.nano_ron_tokens.specs.Cut.{Cut as RonCut}
use Rattle.nano_ron_tokens.specs.Token.{end as ron_end}
use Rattle.nano_json.specs.Codec.{Encoding as JsonEncoding, Canonical as JsonCanonical}
use Rattle.nano_ron.specs.Codec.{Encoding as RonEncoding, Canonical as RonCanonical}
use Rattle.nano_text_forms.specs.declared.form.Form.{Form}
use Rattle.nano_text_forms.specs.declared.form.Form.TheVariants.{Json, Ron}
use Rattle.nano_text_forms.specs.declared.rejection.Rejection.{Rejection}
use Rattle.nano_text_forms.specs.declared.rejection.Rejection.TheVariants.{Memory, Text}

-- the form that the end of a name selects
abbrev pub form_of : List ℕ → Option Form
form_of name =
    cond (ends_with eqb name (codes ".json")) (Some Json)
    (cond (ends_with eqb name (codes ".ron")) (Some Ron) None)

-- the whole text, in its form, encodes this meaning
abbrev pub IsWhole : Form → JsonEncoding → RonEncoding → List ℕ → Meaning → Type 0
IsWhole Json json ron bytes m = WholeDecodesTo JsonCut json.encodes json_end bytes m
IsWhole Ron json ron bytes m = WholeDecodesTo RonCut ron.encodes ron_end bytes m

-- the normal form of a value
abbrev pub written : {A : Type 0} → Form → JsonCanonical A → RonCanonical A → A → List ℕ
written Json json ron x = encode_utf8_all (json.text 0 x)
written Ron json ron x = encode_utf8_all (ron.text 0 x)

-- the text was rejected, and memory did not run out
abbrev pub NotOfMemory : Rejection → Type 0
NotOfMemory rejection = rejection ≢ Memory

-- ==== errors

-- the rejection for an error with these parts
pub record IsOf (failed : Bool) (words : String Global) (line column : ℕ) (rejection : Rejection)
    : Type 0 where
  pub memory : failed ≡ true → rejection ≡ Memory
  pub text : failed ≡ false
      → rejection ≡ Text (record { words = words; line = line; column = column })

-- the rejection has the words and the place of an error of which the fact holds, or it is out of
-- memory
abbrev pub Reports : (Report → Type 0) → Rejection → Type 0
Reports fact (Text fault) = fact (record {
  memory = false;
  message = string_bytes fault.words;
  line = fault.line;
  col = fault.column;
})
Reports fact Memory = Unit {0}

-- the error is the reader's: the whole text, in its form, encodes no value
abbrev pub RejectsWhole : Form → JsonEncoding → RonEncoding → List ℕ → Rejection → Type 0
RejectsWhole Json json ron bytes = Reports (ReadsNoWhole JsonCut JsonBreaks json.encodes bytes json_end)
RejectsWhole Ron json ron bytes = Reports (ReadsNoWhole RonCut RonBreaks ron.encodes bytes ron_end)
