-- What the calls of RON's readers of user-defined types come to.
use Rattle.std.specs.Prelude.{◌≡◌, ℕ, Bool, List, Result, MatchResult, String, string_bytes, true}
use Rattle.std.specs.Prelude.{false, [], ◌∷◌, ◌++◌}
use Rattle.std.specs.List.{flat_map}
use Rattle.nano_value.specs.Meaning.{Meaning}
use Rattle.nano_grammar.specs.Outcomes.{Position, Moved, Took, ReadsNone, ReadsNoneAndEnds}
use Rattle.nano_grammar.specs.Tokens.{Leaves}
use Rattle.nano_ron_tokens.specs.Breaks.{Breaks}
use Rattle.nano_ron_tokens.specs.Cut.{Cut}
use Rattle.nano_ron_tokens.specs.Outcomes.{report, Says}
use Rattle.nano_ron_tokens.specs.State.{ended, pending, place_of}
use Rattle.nano_ron_tokens.specs.Token.{Token, ident, IsIdent}
use Rattle.nano_ron_tokens.specs.declared.error.DeRonErr.{DeRonErr}
use Rattle.nano_ron_tokens.specs.declared.state.DeRonState.{DeRonState}
use Rattle.nano_grammar.specs.Fields.{HasEncoding, unknown_message}
use Rattle.nano_grammar.specs.UserOutcomes.{ReadsField as ReadsFieldBy}
use Rattle.nano_grammar.specs.UserOutcomes.{GivesValues as GivesValuesBy}
use Rattle.nano_grammar.specs.UserOutcomes.{HoldsFields as HoldsFieldsBy}
use Rattle.nano_grammar.specs.UserOutcomes.{ReadsChoice as ReadsChoiceBy, ReadsEnum as ReadsEnumBy}
use Rattle.nano_grammar.specs.UserOutcomes.{Misses, FieldTokens, ReadField}
use Rattle.nano_ron_schema.specs.Reading.{Field, Shape, Allowed, head, Encodings, EncodesNamed}
use Rattle.nano_ron_schema.specs.Reading.{Divided}
use Rattle.nano_ron_schema.specs.FieldCodecs.{AfterUnknown, fields_with, ron_fields}
use Rattle.nano_ron_schema.specs.VariantCodecs.{ron_variants}
use Rattle.nano_grammar.specs.Promises.{LastFieldCounts as Counts, MissingNameHasNoField as Missing}
use Rattle.nano_grammar.specs.Promises.{OtherNamesAreSeen as Seen}
use Rattle.nano_grammar.specs.Promises.{LastOfBothNamesCounts as BothNames}
use Rattle.nano_text.specs.Characters.{line_feed}
use Rattle.nano_grammar.specs.FieldCodec.{WrittenField, field_text as field_text_of}
use Rattle.nano_grammar.specs.FieldCodec.{fields_text as fields_text_of}
use Rattle.nano_ron_tokens.specs.Written.{indent}
use Rattle.nano_ron_tokens.specs.declared.token.DeRonTok.TheVariants.{Eof}

-- ---- tokens

-- a call takes these tokens; an error says that no such tokens stand here
abbrev pub TakesTokens : {A V : Type 0} → (A → List Token) → (List Token → V → Type 0)
    → Position Token → Position Token → Result A DeRonErr → Type 0
TakesTokens tokens encodes start end result = MatchResult result
    (λ x. Took Cut (Unit {0}) start end (tokens x)) (λ e. ReadsNone Cut Breaks encodes start end (report e))

-- the same, and an error leaves the state at the end of the text
abbrev pub TakesTokensOrEnds : {A V : Type 0} → (A → List Token) → (List Token → V → Type 0)
    → Position Token → Position Token → Result A DeRonErr → Type 0
TakesTokensOrEnds tokens encodes start end result = MatchResult result
    (λ x. Took Cut (Unit {0}) start end (tokens x))
    (λ e. ReadsNoneAndEnds Cut Breaks encodes start end ended (report e))

-- a call gives the pending word
abbrev pub GivesWord : {Y : Type 0} → DeRonState → Result (String Y) DeRonErr → Type 0
GivesWord s result = MatchResult result (λ name. pending s ≡ ident (string_bytes name))
    (λ e. Misses (IsIdent (pending s) → ⊥) (place_of s) (report e))

-- ---- fields

module _ (name : List ℕ) (shape : Shape) (before after : List Field → Type 0) where
  -- a call reads the field of this name, which is pending, if one has it, and else leaves all the
  -- same
  abbrev pub ReadsField : Type 0 → Position Token → Position Token → Result Bool DeRonErr
      → Type 0
  ReadsField same start end result =
      ReadsFieldBy Cut Breaks (head name) name shape before after same start end report result

  -- the field of this name was read, or was one that may be skipped, and no longer value may
  -- stand there
  pub record TookField (unknown : AfterUnknown) (start end : Position Token) : Type 0 where
    pub read : ReadField Cut (head name) name (Allowed unknown shape) before after start end
    pub whole : (more : List Token) → Allowed unknown shape name (read.value ++ end.at.token ∷ more)
        → ⊥

  -- a call reads the field of this name, which is pending, or takes what may come after it where
  -- the name is not known. An error says that no such field stands here, with what divides a list
  -- after it
  abbrev pub TakesField : {A : Type 0} → AfterUnknown → Position Token → Position Token
      → Result A DeRonErr → Type 0
  TakesField unknown start end result = MatchResult result
      (λ _. TookField unknown start end)
      (λ e. ReadsNone Cut Breaks (Divided (FieldTokens (head name) name (Allowed unknown shape))) start end
      (report e))

-- this name was taken with a colon and what may come after a name that is not known, and no longer
-- one may
pub record TookUnknown (name : List ℕ) (unknown : AfterUnknown) (start end : Position Token) : Type 0
  where
    pub value : List Token
    pub allowed : unknown.Value value
    pub taken : Leaves Cut (head name ++ value) start.at end.at
    pub whole : (more : List Token) → unknown.Value (value ++ end.at.token ∷ more) → ⊥
    pub place : Moved start end

-- this name, a colon, and what may come after a name that is not known
abbrev pub OtherField : List ℕ → AfterUnknown → List Token → Unit {0} → Type 0
OtherField name unknown = EncodesNamed name (λ us x. unknown.Value us)

-- a call takes them
abbrev pub TakesUnknown : {A : Type 0} → List ℕ → AfterUnknown → Position Token → Position Token
    → Result A DeRonErr → Type 0
TakesUnknown name unknown start end result = MatchResult result
    (λ _. TookUnknown name unknown start end)
    (λ e. ReadsNone Cut Breaks (Divided (OtherField name unknown)) start end (report e))

-- a call reads the field of the one name, while the other is pending in its place
abbrev pub ReadsUnder : {A : Type 0} → List ℕ → List ℕ → Shape → (List Field → Type 0)
    → (List Field → Type 0) → Position Token → Position Token → Result A DeRonErr → Type 0
ReadsUnder own name shape before after start end result = MatchResult result
    (λ _. ReadField Cut (head name) own shape.takes before after start end)
    (λ e. ReadsNone Cut Breaks (FieldTokens (head name) own shape.takes) start end (report e))

module _ (shape : Shape) (holds : List Field → Type 0) where
  -- a call gives values which mean what the fields do that are held
  abbrev pub GivesValues : {A : Type 0} → (A → Meaning) → DeRonState → Result A DeRonErr
      → Type 0
  GivesValues means s result = GivesValuesBy shape holds report means (place_of s) result

  -- a call takes fields between parentheses
  abbrev pub HoldsFields : {A : Type 0} → AfterUnknown → Position Token → Position Token
      → Result A DeRonErr → Type 0
  HoldsFields unknown start end result =
      HoldsFieldsBy (fields_with unknown) shape holds start end report result

-- a call makes a value with this meaning, which is encoded; it fails for want of memory alone
abbrev pub GivesDefault : {A : Type 0} → (List Token → Meaning → Type 0) → (A → Meaning) → Meaning
    → DeRonState → Result A DeRonErr → Type 0
GivesDefault encodes means default s result = MatchResult result
    (λ value. (means value ≡ default) × HasEncoding encodes (means value))
    (λ e. Misses ⊥ (place_of s) (report e))

-- ---- variants

-- a call reads the content of the variant of this name, which stood alone or not
abbrev pub ReadsChoice : {A : Type 0} → Encodings → Bool → List ℕ → (ℕ → A → Meaning)
    → Position Token → Position Token → Result A DeRonErr → Type 0
ReadsChoice variants alone name means start end result =
    ReadsChoiceBy ron_variants variants alone name start end report means ended result

-- a call reads the name of a variant, and its content
abbrev pub ReadsEnum : {A : Type 0} → Encodings → (A → Meaning) → Position Token → Position Token
    → Result A DeRonErr → Type 0
ReadsEnum variants means start end result =
    ReadsEnumBy ron_variants variants start end report means ended result

-- ==== laws of the definitions, over RON's tokens

-- if a name occurs more than once, its last field counts
abbrev pub LastFieldCounts : Type 0
LastFieldCounts = Counts Token

-- of the fields with a name or its alias, the last counts, as of one name
abbrev pub LastOfBothNamesCounts : Type 0
LastOfBothNamesCounts = BothNames Token

-- a name is missing where no field has it
abbrev pub MissingNameHasNoField : Type 0
MissingNameHasNoField = Missing Token

-- of a name that the first fields do not know, the second see the last field of all
abbrev pub OtherNamesAreSeen : Type 0
OtherNamesAreSeen = Seen Token

-- ==== tests of the pending token

abbrev pub is_ident : Token → Bool
is_ident (ident name) = true
is_ident _ = false

-- ==== fields as they are written: one below the other, between parentheses

-- after the indent of a level, with a comma and a line feed after it
abbrev pub on_a_line : ℕ → List ℕ → List ℕ
on_a_line d text = indent d ++ (text ++ 44 ∷ (line_feed ∷ []))

-- items one below the other, each on a line of its own
abbrev pub on_lines : {A : Type 0} → ℕ → (A → List ℕ) → List A → List ℕ
on_lines d W xs = flat_map (λ x. on_a_line d (W x)) xs

-- a name, a colon and a value at this level
abbrev pub field_text : ℕ → WrittenField Token → List ℕ
field_text = field_text_of ron_fields

-- fields between parentheses at this level
abbrev pub fields_text : ℕ → List (WrittenField Token) → List ℕ
fields_text = fields_text_of ron_fields

-- ==== the error for a name that no variant of an enum has

-- the error for this name stands where the state stood, and has this message unless it is out of
-- memory. The state is at the end of the text
pub record GivesUnknown (old new : DeRonState) (name : List ℕ) (e : DeRonErr) : Type 0 where
  pub says : Says old (unknown_message name) e
  pub state : new ≡ record old { tok = Eof; cur = 0 }
