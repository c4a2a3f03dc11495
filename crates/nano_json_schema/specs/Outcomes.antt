-- What the calls of JSON's readers of user-defined types come to.
use Rattle.std.specs.Prelude.{◌≡◌, ℕ, Bool, List, [], Result, MatchResult, true, false, cond, ◌∷◌}
use Rattle.std.specs.Prelude.{◌++◌}
use Rattle.nano_value.specs.Meaning.{Meaning}
use Rattle.nano_grammar.specs.Outcomes.{Position, Took, ReadsNone, ReadsNoneAndEnds}
use Rattle.nano_json_tokens.specs.Breaks.{Breaks}
use Rattle.nano_json_tokens.specs.Cut.{Cut}
use Rattle.nano_json_tokens.specs.Outcomes.{report, Says}
use Rattle.nano_json_tokens.specs.State.{ended, place_of}
use Rattle.nano_json_tokens.specs.Token.{Token, str}
use Rattle.nano_json_tokens.specs.declared.error.DeJsonErr.{DeJsonErr}
use Rattle.nano_json_tokens.specs.declared.state.DeJsonState.{DeJsonState}
use Rattle.nano_grammar.specs.Fields.{HasEncoding, unknown_message}
use Rattle.nano_grammar.specs.UserOutcomes.{FieldTokens, ReadField, ReadsField as ReadsFieldBy}
use Rattle.nano_grammar.specs.UserOutcomes.{GivesValues as GivesValuesBy, Misses}
use Rattle.nano_grammar.specs.UserOutcomes.{HoldsFields as HoldsFieldsBy}
use Rattle.nano_grammar.specs.UserOutcomes.{ReadsChoice as ReadsChoiceBy, ReadsEnum as ReadsEnumBy}
use Rattle.nano_json_schema.specs.Variants.{is_alone, bytes_of}
use Rattle.nano_json_schema.specs.Reading.{Field, Shape, Allowed, EncodesFieldsWith, Encodings}
use Rattle.std.specs.Prelude.{Option, IfSome}
use Rattle.std.specs.declared.str.Chars.{Chars}
use Rattle.nano_text.specs.Place.{text_at, Moves}
use Rattle.nano_text.specs.declared.place.Place.{Place}
use Rattle.nano_grammar.specs.Plain.{TookPlainly, LooksUpPlainly}
use Rattle.nano_json_schema.specs.FieldCodecs.{AfterUnknown, fields_with}
use Rattle.nano_json_schema.specs.VariantCodecs.{json_variants}
use Rattle.nano_json_schema.specs.declared.variants.VariantName.{VariantName}
use Rattle.nano_grammar.specs.Promises.{LastFieldCounts as Counts, MissingNameHasNoField as Missing}
use Rattle.nano_grammar.specs.Promises.{OtherNamesAreSeen as Seen}
use Rattle.nano_grammar.specs.Promises.{LastOfBothNamesCounts as BothNames}
use Rattle.nano_json_tokens.specs.declared.token.DeJsonTok.TheVariants.{Eof}

-- ---- tokens

-- a call takes these tokens; an error says that no such tokens stand here
abbrev pub TakesTokens : {A V : Type 0} → (A → List Token) → (List Token → V → Type 0)
    → Position Token → Position Token → Result A DeJsonErr → Type 0
TakesTokens tokens encodes start end result = MatchResult result
    (λ x. Took Cut (Unit {0}) start end (tokens x)) (λ e. ReadsNone Cut Breaks encodes start end (report e))

-- the same, and an error leaves the state at the end of the text
abbrev pub TakesTokensOrEnds : {A V : Type 0} → (A → List Token) → (List Token → V → Type 0)
    → Position Token → Position Token → Result A DeJsonErr → Type 0
TakesTokensOrEnds tokens encodes start end result = MatchResult result
    (λ x. Took Cut (Unit {0}) start end (tokens x))
    (λ e. ReadsNoneAndEnds Cut Breaks encodes start end ended (report e))

-- ---- fields

module _ (name : List ℕ) (shape : Shape) (before after : List Field → Type 0) where
  -- a call reads the value of the field with this name, if one has it, and else leaves all the same
  abbrev pub ReadsField : Type 0 → Position Token → Position Token → Result Bool DeJsonErr → Type 0
  ReadsField same start end result =
      ReadsFieldBy Cut Breaks [] name shape before after same start end report result

  -- a call reads the value after this name, or takes what may come there where no field has the name
  abbrev pub TakesValue : {A : Type 0} → AfterUnknown → Position Token → Position Token
      → Result A DeJsonErr → Type 0
  TakesValue unknown start end result = MatchResult result
      (λ _. ReadField Cut [] name (Allowed unknown shape) before after start end)
      (λ e. ReadsNone Cut Breaks (FieldTokens [] name (Allowed unknown shape)) start end (report e))

-- a call takes what may come after a name that is not known, or none of it stands here
abbrev pub TakesUnknown : {A : Type 0} → AfterUnknown → Position Token → Position Token
    → Result A DeJsonErr → Type 0
TakesUnknown unknown start end result = MatchResult result
    (λ _. (us : List Token) × unknown.Value us × Took Cut (Unit {0}) start end us)
    (λ e. ReadsNone Cut Breaks (λ us (x : Unit {0}). unknown.Value us) start end (report e))

module _ (shape : Shape) (holds : List Field → Type 0) where
  -- a call gives values which mean what the fields do that are held
  abbrev pub GivesValues : {A : Type 0} → (A → Meaning) → DeJsonState → Result A DeJsonErr → Type 0
  GivesValues means s result = GivesValuesBy shape holds report means (place_of s) result

  -- a call takes fields between braces
  abbrev pub HoldsFields : {A : Type 0} → AfterUnknown → Position Token → Position Token
      → Result A DeJsonErr → Type 0
  HoldsFields unknown start end result =
      HoldsFieldsBy (fields_with unknown) shape holds start end report result

-- ---- fields that are taken with no token pending

-- a call takes the value of the field with this name, if one has it, and else leaves all the same
abbrev pub TakesFieldPlainly : List ℕ → Shape → (List Field → Type 0) → (List Field → Type 0) → Type 0
    → Place → Chars → Place → Chars → Option Bool → Type 0
TakesFieldPlainly name shape before after same p i q j result = IfSome result
    (λ known. LooksUpPlainly Cut name shape before after same (text_at p i) (text_at q j) known
    × Moves p i q j)

module _ (shape : Shape) (holds : List Field → Type 0) where
  -- a call takes fields between braces: what they mean is encoded there
  abbrev pub HoldsPlainly : {A : Type 0} → AfterUnknown → Place → Chars → Place → Chars → Option A
      → Type 0
  HoldsPlainly unknown p i q j result = IfSome result (λ _.
      ((m : Meaning) → ((fs : List Field) → holds fs → shape.means fs m)
      → TookPlainly Cut (EncodesFieldsWith unknown shape) (text_at p i) (text_at q j) m)
      × Moves p i q j)

  -- a call gives values which mean what the fields do that are held, or none
  abbrev pub GivesWhole : {A : Type 0} → (A → Meaning) → Option A → Type 0
  GivesWhole means result =
      IfSome result (λ values. (fs : List Field) → holds fs → shape.means fs (means values))

-- the meaning is the default, and is encoded
abbrev pub IsDefault : (List Token → Meaning → Type 0) → Meaning → Meaning → Type 0
IsDefault encodes m default = (m ≡ default) × HasEncoding encodes m

-- a call makes the default; it fails for want of memory alone
abbrev pub GivesDefault : {A : Type 0} → (List Token → Meaning → Type 0) → (A → Meaning) → Meaning
    → DeJsonState → Result A DeJsonErr → Type 0
GivesDefault encodes means default s result = MatchResult result
    (λ value. IsDefault encodes (means value) default)
    (λ e. Misses ⊥ (place_of s) (report e))

-- ---- variants

-- a call reads the content of the variant whose name was taken in this way
abbrev pub ReadsChoice : {A : Type 0} → Encodings → VariantName → (ℕ → A → Meaning)
    → Position Token → Position Token → Result A DeJsonErr → Type 0
ReadsChoice variants name means start end result =
    ReadsChoiceBy json_variants variants (is_alone name) (bytes_of name) start end report means
    ended result

-- a call reads the name of a variant, and its content
abbrev pub ReadsEnum : {A : Type 0} → Encodings → (A → Meaning) → Position Token → Position Token
    → Result A DeJsonErr → Type 0
ReadsEnum variants means start end result =
    ReadsEnumBy json_variants variants start end report means ended result

-- ==== laws of the definitions, over JSON's tokens

-- of the fields with one name, the last counts
abbrev pub LastFieldCounts : Type 0
LastFieldCounts = Counts Token

-- of the fields with a name or its alias, the last counts, as of one name
abbrev pub LastOfBothNamesCounts : Type 0
LastOfBothNamesCounts = BothNames Token

-- a name is missing where no field has it
abbrev pub MissingNameHasNoField : Type 0
MissingNameHasNoField = Missing Token

-- of a name that the first fields do not know, the second see the last field of all
abbrev pub OtherNamesAreSeen : Type 0
OtherNamesAreSeen = Seen Token

-- ==== tests of the pending token

abbrev pub is_str : Token → Bool
is_str (str bytes) = true
is_str _ = false

-- ==== fields one after the other, as they are written

-- after a comma, unless it is the first
abbrev pub after_comma : Bool → List ℕ → List ℕ
after_comma first text = cond first text (44 ∷ text)

-- items one after the other: each after a comma, unless it is the first of all
abbrev pub in_a_row : {A : Type 0} → Bool → (A → List ℕ) → List A → List ℕ
in_a_row first W [] = []
in_a_row first W (x ∷ xs) = after_comma first (W x) ++ in_a_row false W xs

-- whether none stands before the next one, where that was so before these
abbrev pub none_yet : {A : Type 0} → Bool → List A → Bool
none_yet first [] = first
none_yet first (x ∷ xs) = false

-- ==== the error for a name that no variant of an enum has

-- the error for this name stands where the state stood, and has this message unless it is out of
-- memory. The state is at the end of the text
pub record GivesUnknown (old new : DeJsonState) (name : List ℕ) (e : DeJsonErr) : Type 0 where
  pub says : Says old (unknown_message name) e
  pub state : new ≡ record old { tok = Eof; cur = 0 }
