-- What one call of a reader of user-defined types comes to, over any tokens.
use Rattle.std.specs.Prelude.{◌≡◌, ◌≢◌, ℕ, Bool, true, false, List, [], ◌∷◌, ◌++◌, Result}
use Rattle.std.specs.Prelude.{MatchResult, codes}
use Rattle.std.specs.declared.str.Chars.{Chars}
use Rattle.nano_value.specs.Meaning.{Meaning}
use Rattle.nano_text.specs.declared.place.Place.{Place}
use Rattle.nano_text.specs.Place.{text_at, Moves}
use Rattle.nano_grammar.specs.Tokens.{Cutting, At, Leaves, Spans}
use Rattle.nano_grammar.specs.Faults.{Fault, wrong}
use Rattle.nano_grammar.specs.Codec.{Grammar, Encoding}
use Rattle.nano_grammar.specs.Outcomes.{Report, IsMadeAt, Position, Moved, Read, ReadsNone}
use Rattle.nano_grammar.specs.Outcomes.{ReadsNoneAndEnds}
use Rattle.nano_grammar.specs.Choices.{EncodesAfter}
use Rattle.nano_grammar.specs.Fields.{FieldStyle, Field, Shape, EncodedFields, unknown_message}
use Rattle.nano_grammar.specs.Fields.{is_known_name, HasUnknownName}
use Rattle.nano_grammar.specs.Variants.{VariantStyle, Variants, EncodesVariant}

-- ---- errors

-- the error reports the fact, unless it is out of memory, and stands at the place
pub record Misses (fact : Type 0) (place : Place) (e : Report) : Type 0 where
  pub rejected : e.memory ≡ false → fact
  pub made : IsMadeAt place e

-- the error is that of a name which no variant has, unless it is out of memory
abbrev pub IsUnknownAt : Place → List ℕ → Report → Type 0
IsUnknownAt place name e =
    (e.memory ≡ false → e.message ≡ unknown_message name) × IsMadeAt place e

-- what the error for a field that is missing says
abbrev pub missing_message : List ℕ → List ℕ
missing_message name = codes "Key not found " ++ name

-- a name was taken from here on, and the error for it stands where that led
pub record IsUnknownAfter {T : Type 0} (start : Position T) (after : At T) (name : List ℕ)
    (e : Report) : Type 0 where
  pub place : Place
  pub input : Chars
  pub text : after.text ≡ text_at place input
  pub moved : Moves start.place start.input place input
  pub error : IsUnknownAt place name e

-- ---- the field of a name

-- these tokens, and what may come after the name
abbrev pub FieldTokens : {T : Type 0} → List T → List ℕ → (List ℕ → List T → Type 0) → List T
    → List T → Type 0
FieldTokens prefix name takes ts us = (ts ≡ prefix ++ us) × takes name us

module _ {T : Type 0} (cut : List ℕ → T → List ℕ → Type 0) (prefix : List T) (name : List ℕ) where
  -- these tokens were taken, and what may come after the name. Where the fields before it were
  -- held, they are held with it
  pub record ReadField (takes : List ℕ → List T → Type 0) (before after : List (Field T) → Type 0)
      (start end : Position T) : Type 0 where
    pub value : List T
    pub allowed : takes name value
    pub taken : Leaves cut (prefix ++ value) start.at end.at
    pub held : (fs : List (Field T)) → before fs
        → after (fs ++ record { name = name; value = value } ∷ [])
    pub place : Moved start end

  module _ (shape : Shape T) (before after : List (Field T) → Type 0) (same : Type 0)
      (start end : Position T) where
    -- whether one of the fields has the name: then its value was read, and else all is the same
    pub record LooksUp (known : Bool) : Type 0 where
      pub known_is : known ≡ shape.knows name
      pub read : known ≡ true → ReadField shape.takes before after start end
      pub unknown : known ≡ false → same

module _ {T : Type 0} (cut : List ℕ → T → List ℕ → Type 0) (breaks : List ℕ → List ℕ → Type 0)
    (prefix : List T) (name : List ℕ) (shape : Shape T) (before after : List (Field T) → Type 0)
    (same : Type 0) (start end : Position T) where
  -- one of the fields has the name, and no value of its type stands here
  pub record LooksUpNone (e : Report) : Type 0 where
    pub known : shape.knows name ≡ true
    pub none : ReadsNone cut breaks (FieldTokens prefix name shape.takes) start end e

  -- a call reads the value of the field with this name, if one has it
  abbrev pub ReadsField : {E : Type 0} → (E → Report) → Result Bool E → Type 0
  ReadsField report result = MatchResult result
      (LooksUp cut prefix name shape before after same start end) (λ e. LooksUpNone (report e))

-- ---- all fields

module _ {T : Type 0} (shape : Shape T) (holds : List (Field T) → Type 0) where
  -- the fields that are held mean nothing
  abbrev pub MeansNothing : Type 0
  MeansNothing = (fs : List (Field T)) (m : Meaning) → holds fs → shape.means fs m → ⊥

  -- the error names the first of the fields that must be there and are not held
  pub record NamesMissing (e : Report) : Type 0 where
    pub name : List ℕ
    pub lacking : (fs : List (Field T)) → holds fs → shape.lacks fs name
    pub said : e.message ≡ missing_message name

  -- a call gives values which mean what the fields do that are held, or names the first field that
  -- must be there and is not held
  abbrev pub GivesValues : {A E : Type 0} → (E → Report) → (A → Meaning) → Place → Result A E
      → Type 0
  GivesValues report means place result = MatchResult result
      (λ values. (fs : List (Field T)) → holds fs → shape.means fs (means values))
      (λ e. Misses (NamesMissing (report e)) place (report e))

module _ {T : Type 0} {c : Cutting T} {g : Grammar T} (s : FieldStyle c g) (shape : Shape T)
    (holds : List (Field T) → Type 0) (start end : Position T) where
  -- a list of fields was taken, and these are held. What they mean is encoded from here to there,
  -- and where they mean nothing, no struct is encoded here
  pub record HeldFields : Type 0 where
    pub found : (m : Meaning) → ((fs : List (Field T)) → holds fs → shape.means fs m)
        → Spans c.cut (EncodedFields s shape) start.at end.at m
    pub missing : MeansNothing shape holds → Fault c.cut (EncodedFields s shape) start.at end.at wrong
    pub place : Moved start end

  -- a call takes a list of fields
  abbrev pub HoldsFields : {A E : Type 0} → (E → Report) → Result A E → Type 0
  HoldsFields report result = MatchResult result (λ _. HeldFields)
      (λ e. ReadsNone c.cut c.breaks (EncodedFields s shape) start end (report e))

-- ---- variants

module _ {T : Type 0} {c : Cutting T} {g : Grammar T} (s : VariantStyle c g)
    (vs : Variants (Encoding g)) where
  -- ---- after the name of one

  module _ (stood : Bool) (name : List ℕ) (start end : Position T) where
    -- a variant has the name, and its content was read, whatever place the first variant has
    pub record ReadChoice (m : ℕ → Meaning) : Type 0 where
      pub decodes : (from : ℕ)
          → Spans c.cut (EncodesAfter s from vs stood name) start.at end.at (m from)
      pub known : is_known_name vs stood name ≢ false
      pub place : Moved start end

    -- no content of a variant with the name stands here. Where none has it, the error says so
    pub record NoChoice (last : At T) (e : Report) : Type 0 where
      pub none : (from : ℕ)
          → ReadsNoneAndEnds c.cut c.breaks (EncodesAfter s from vs stood name) start end last e
      pub unknown : is_known_name vs stood name ≡ false → IsUnknownAt start.place name e

    -- a call reads the content of the variant with the name
    abbrev pub ReadsChoice : {A E : Type 0} → (E → Report) → (ℕ → A → Meaning) → At T
        → Result A E → Type 0
    ReadsChoice report means last result = MatchResult result
        (λ x. ReadChoice (λ from. means from x)) (λ e. NoChoice last (report e))

  -- ---- a name, and the content after it

  module _ (start end : Position T) where
    -- the variant was read, and no name stands here that no variant has
    pub record ReadEnum (m : Meaning) : Type 0 where
      pub read : Read c.cut (EncodesVariant s vs) start end m
      pub known : HasUnknownName s vs start.at → ⊥

    -- no variant is encoded here. Where a name stands here that no variant has, the error says so
    pub record NoEnum (last : At T) (e : Report) : Type 0 where
      pub none : ReadsNoneAndEnds c.cut c.breaks (EncodesVariant s vs) start end last e
      pub unknown : (u : HasUnknownName s vs start.at) → e.memory ≡ false
          → IsUnknownAfter start u.after u.name e

    -- a call reads a variant
    abbrev pub ReadsEnum : {A E : Type 0} → (E → Report) → (A → Meaning) → At T → Result A E
        → Type 0
    ReadsEnum report means last result = MatchResult result (λ x. ReadEnum (means x))
        (λ e. NoEnum last (report e))
