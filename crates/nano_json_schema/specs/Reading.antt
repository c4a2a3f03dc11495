-- What encodes the names, the fields and the variants of user-defined types in JSON.
use Rattle.std.specs.Prelude.{ℕ, List, ◌≡◌, ◌↔◌, ◌⊎◌, Bool, true, false, [], ◌∷◌, ◌++◌, Option}
use Rattle.std.specs.Prelude.{Some, None, Result, MatchResult, MatchOption, string_bytes}
use Rattle.std.proofs.Common.{Bor}
use Rattle.std.specs.Option.{option_map}
use Rattle.std.specs.declared.str.Chars.{Chars}
use Rattle.nano_value.specs.Meaning.{Meaning}
use Rattle.nano_grammar.specs.Fields.{Field as FieldOf, EncodedField as EncodedFieldOf}
use Rattle.nano_grammar.specs.Fields.{Allowed as AllowedOf, EncodedFields, Shape as ShapeOf}
use Rattle.nano_json_tokens.specs.Token.{Token, str, colon, comma, curly_close}
use Rattle.nano_json_schema.specs.FieldCodecs.{AfterUnknown, fields_with, json_fields}
use Rattle.nano_json_schema.specs.FieldCodecs.{strict_fields}
use Rattle.nano_text.specs.Place.{remaining}
use Rattle.nano_grammar.specs.Outcomes.{Position, Moved, Fails, ReadsNone}
use Rattle.nano_grammar.specs.Tokens.{At, Leaves, Spans}
use Rattle.nano_grammar.specs.Faults.{AreTokens}
use Rattle.nano_json_tokens.specs.Breaks.{Breaks}
use Rattle.nano_json_tokens.specs.Cut.{Cut, json_grammar}
use Rattle.nano_json_tokens.specs.Scan.{TookName, is_end}
use Rattle.nano_json_tokens.specs.Outcomes.{report, Keeps, Moved as MovedBy}
use Rattle.nano_json_tokens.specs.State.{pending}
use Rattle.nano_json_tokens.specs.declared.error.DeJsonErr.{DeJsonErr}
use Rattle.nano_json_tokens.specs.declared.state.DeJsonState.{DeJsonState}
use Rattle.nano_grammar.specs.Codec.{Encoding as EncodingOf}
use Rattle.nano_grammar.specs.Choices.{Rest, EncodesRest as EncodesRestOf}
use Rattle.nano_grammar.specs.Variants.{Closed as ClosedIn, Variants as VariantsOf}
use Rattle.nano_grammar.specs.Variants.{EncodesVariant as EncodesVariantOf}
use Rattle.nano_json_schema.specs.VariantCodecs.{json_variants}
use Rattle.nano_json_schema.specs.Variants.{alone, opened}
use Rattle.nano_json_schema.specs.declared.variants.VariantName.{VariantName}
use Rattle.nano_json_schema.specs.declared.variants.VariantName.TheVariants.{Unit as Alone}
use Rattle.nano_json_schema.specs.declared.variants.VariantName.TheVariants.{Content as Opened}

-- a field of a text: its name, in bytes of UTF-8, and the tokens of its value
abbrev pub Field : Type 0
Field = FieldOf Token

-- which names are known, what may come after them, and what a list of fields means
abbrev pub Shape : Type 1
Shape = ShapeOf Token

-- after a known name what it takes, after any other what may come there
abbrev pub Allowed : AfterUnknown → Shape → List ℕ → List Token → Type 0
Allowed unknown = AllowedOf (fields_with unknown)

-- a name, a colon, and what may come after that name
abbrev pub EncodesField : AfterUnknown → Shape → List Token → Field → Type 0
EncodesField unknown shape = EncodedFieldOf (fields_with unknown) (Allowed unknown shape)

-- named fields between braces, and what they mean
abbrev pub EncodesFields : Shape → List Token → Meaning → Type 0
EncodesFields shape = EncodedFields json_fields shape

-- named fields between braces, each of a known name, and what they mean
abbrev pub EncodesKnownFields : Shape → List Token → Meaning → Type 0
EncodesKnownFields shape = EncodedFields strict_fields shape

-- the one or the other, by what may come after a name that is not known
abbrev pub EncodesFieldsWith : AfterUnknown → Shape → List Token → Meaning → Type 0
EncodesFieldsWith unknown shape = EncodedFields (fields_with unknown) shape

-- ==== names

-- a name that was taken in place, in bytes of UTF-8
abbrev pub name_bytes : Option (Bor (List ℕ)) → Option (List ℕ)
name_bytes name = option_map (λ n. n.now) name

-- a field may begin here, and the reader is here; or, where it took a name in place, that name is
-- the field's, and the colon after it is pending
abbrev pub StandsAfter : Option (List ℕ) → At Token → At Token → Type 0
StandsAfter None here now = here ≡ now
StandsAfter (Some name) here now = Leaves Cut (str name ∷ []) here now × (now.token ≡ colon)

-- after a field a comma was taken, or the closing bracket is pending
abbrev pub GoesOn : At Token → At Token → Type 0
GoesOn following next = Leaves Cut (comma ∷ []) following next
    ⊎ ((following.token ≡ curly_close) × (next ≡ following))

-- at least one token was taken, and the first was not the end
abbrev pub TakesSome : At Token → At Token → Type 0
TakesSome start end =
    (t : Token) × (ts : List Token) × (is_end t ≡ false) × Leaves Cut (t ∷ ts) start end

-- the same tokens are cut from both texts
abbrev pub HasCutsOf : List ℕ → List ℕ → Type 0
HasCutsOf text other = (t : Token) (rest : List ℕ) → Cut other t rest ↔ Cut text t rest

-- ---- up to the name

-- a place was reached where a field may begin, and the name there was taken if it could be in place
pub record ReachedName (Way : At Token → At Token → Type 0) (name : Option (List ℕ))
    (start end : Position Token) : Type 0 where
  pub here : At Token
  pub reached : Way start.at here
  pub stands : StandsAfter name here end.at
  pub place : Moved start end

-- a call goes on to the name of a field, in this way
abbrev pub ReachesName : (At Token → At Token → Type 0) → Type 0 → Position Token → Position Token
    → Result (Option (Bor (List ℕ))) DeJsonErr → Type 0
ReachesName Way none start end result = MatchResult result
    (λ name. ReachedName Way (name_bytes name) start end) (λ e. Fails none start end (report e))

module _ (before_name : Bool) (old : DeJsonState) (before : Chars) (new : DeJsonState)
    (after : Chars) where
  -- the name after the pending token was taken in place
  pub record NameAfter (name : List ℕ) : Type 0 where
    pub is : before_name ≡ true
    pub took : TookName old before new after name

  -- none was, and the same tokens are still ahead
  pub record NoNameAfter : Type 0 where
    pub tok : pending new ≡ pending old
    pub cuts : HasCutsOf (remaining old.cur before) (remaining new.cur after)
    pub breaks : (rest : List ℕ) → Breaks (remaining new.cur after) rest
        → Breaks (remaining old.cur before) rest
    pub unchanged : before_name ≡ false → Keeps old before new after
    pub place : MovedBy old before new after

  -- a call takes the name after the pending token where it can, if that token is before a name
  abbrev pub TakesNameAfter : Option (Bor (List ℕ)) → Type 0
  TakesNameAfter result = MatchOption result NoNameAfter (λ name. NameAfter name.now)

-- ---- the name with its colon, and the value

-- what is left of a name and a colon: both, or the colon where the name was taken in place
abbrev pub head_left : Option (List ℕ) → Token → List Token
head_left None t = t ∷ (colon ∷ [])
head_left (Some name) t = colon ∷ []

-- the name is this one, if it was taken in place
abbrev pub IsNamed : Option (List ℕ) → List ℕ → Type 0
IsNamed None name = Unit {0}
IsNamed (Some taken) name = taken ≡ name

-- what is left of a field: all of it, or what comes after its name where that was taken in place
abbrev pub FieldLeft : AfterUnknown → Option (List ℕ) → Shape → List Token → Field → Type 0
FieldLeft unknown None shape ts f = EncodesField unknown shape ts f
FieldLeft unknown (Some name) shape ts f = EncodesField unknown shape (str name ∷ ts) f

module _ (name : Option (List ℕ)) (start end : Position Token) where
  -- the field has this name, and what was left of it and of a colon was taken
  pub record TookColon (taken : List ℕ) : Type 0 where
    pub named : IsNamed name taken
    pub head : Leaves Cut (head_left name (str taken)) start.at end.at
    pub place : Moved start end

  abbrev pub TakesColonAfter : Result (Bor (List ℕ)) DeJsonErr → Type 0
  TakesColonAfter result = MatchResult result (λ taken. TookColon taken.now)
      (λ e. ReadsNone Cut Breaks (AreTokens (head_left name start.at.token)) start end (report e))

  module _ (unknown : AfterUnknown) (shape : Shape) (before after : List Field → Type 0) where
    -- wherever the field begins, it was taken. Where the fields before it were held, they are held
    -- with it
    pub record TookField : Type 0 where
      pub decodes : (here : At Token) → StandsAfter name here start.at
          → (f : Field) × Spans Cut (EncodesField unknown shape) here end.at f
          × ((fs : List Field) → before fs → after (fs ++ f ∷ []))
      pub some : TakesSome start.at end.at
      pub place : Moved start end

    abbrev pub TakesField : {A : Type 0} → Result A DeJsonErr → Type 0
    TakesField result = MatchResult result (λ _. TookField)
        (λ e. ReadsNone Cut Breaks (FieldLeft unknown name shape) start end (report e))

-- ==== variants

-- the tokens that a name was taken from
abbrev pub name_tokens : VariantName → List Token
name_tokens (Alone name) = alone (string_bytes name)
name_tokens (Opened name) = opened (string_bytes name)

-- a name and the colon after it
abbrev pub AKey : List Token → List ℕ → Type 0
AKey ts name = ts ≡ str name ∷ (colon ∷ [])

-- the name of a variant without content
abbrev pub AloneName : List Token → List ℕ → Type 0
AloneName ts name = ts ≡ alone name

-- the name of a variant with content, between a bracket and a colon
abbrev pub OpenedName : List Token → List ℕ → Type 0
OpenedName ts name = ts ≡ opened name

-- what a variant begins with
abbrev pub VariantBegins : List Token → List ℕ → Type 0
VariantBegins ts name = AloneName ts name ⊎ OpenedName ts name

-- content, and the closing bracket after it
abbrev pub Closed : (List Token → Meaning → Type 0) → List Token → Meaning → Type 0
Closed = ClosedIn json_variants

-- what comes after the name of a variant: nothing, or content and the closing bracket
abbrev pub EncodesRest : Rest json_grammar → List Token → Meaning → Type 0
EncodesRest = EncodesRestOf json_variants

-- the variants of an enum, each with its name, and with what encodes its content if it has one
abbrev pub Encodings : Type 1
Encodings = VariantsOf (EncodingOf json_grammar)

-- the name of a variant, and its content if it has one
abbrev pub EncodesVariant : Encodings → List Token → Meaning → Type 0
EncodesVariant = EncodesVariantOf json_variants
