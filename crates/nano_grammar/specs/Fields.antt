-- Named fields, over any format's tokens: what they are encoded and written with, the fields
-- of a text, the last one of a name, and what a shape of fields encodes.
use Rattle.std.specs.Prelude.{◌≡◌, ◌≢◌, ℕ, ◌||◌, Bool, true, false, List, [], ◌∷◌, ◌++◌, Option, Some}
use Rattle.std.specs.Prelude.{None, bytes_eq, if◌then◌else◌, ◌&&◌, not, codes, ◌⊎◌}
use Rattle.std.specs.List.{AllByRecursion, list_all}
use Rattle.nano_value.specs.Meaning.{Meaning, nothing, paired, IsImage, BothOfPair, LegalUnit}
use Rattle.nano_grammar.specs.Items.{EncodedList}
use Rattle.nano_grammar.specs.Tokens.{Cutting, IsValueText, At, Leaves}
use Rattle.nano_grammar.specs.Scalars.{NoneStyle}
use Rattle.nano_grammar.specs.Codec.{Grammar, AreBrackets, Encoding, ListStyle, PairStyle, Codec}
use Rattle.nano_grammar.specs.Variants.{VariantStyle, Variants, no_variants, unit_variant, variant}
use Rattle.nano_grammar.specs.Choices.{is_named}

-- how a format has named fields: the brackets and the comma, the colon, the token that carries
-- a name, and what may come after an unknown name: where that begins something else that may, the
-- comma and the closing bracket do not go on with it. Some names can be written, as these characters
pub record FieldStyle {T : Type 0} (c : Cutting T) (g : Grammar T) : Type 1 where
  pub list : ListStyle c
  pub brackets : AreBrackets g list.tokens
  pub pair : PairStyle c
  pub none : NoneStyle c g
  pub name : List ℕ → T
  pub injective : (m n : List ℕ) → name m ≡ name n → m ≡ n
  pub begins : (n : List ℕ) → g.may_begin (name n)
  pub Skipped : List T → Type 0
  pub skipped_apart : (us more : List T) (t : T) → Skipped us → Skipped (us ++ t ∷ more)
      → (t ≢ list.tokens.comma) × (t ≢ list.tokens.closing)
  pub IsName : List ℕ → Type 0
  pub name_text : List ℕ → List ℕ
  pub name_is_written : (n : List ℕ) → IsName n → IsValueText c (name n ∷ []) (name_text n)

-- a field of a text: its name, in bytes of UTF-8, and the tokens of its value
pub record Field (T : Type 0) : Type 0 where
  pub name : List ℕ
  pub value : List T

-- one fact or the other
abbrev pub either : Bool → Type 0 → Type 0 → Type 0
either true p q = p
either false p q = q

module _ {T : Type 0} where
  -- the last of two values that may be there
  abbrev pub later : Option (List T) → Option (List T) → Option (List T)
  later (Some us) old = Some us
  later None old = old

  -- the value of the last field of this name
  abbrev pub last : List ℕ → List (Field T) → Option (List T)
  last name [] = None
  last name (f ∷ fs) = later (last name fs) (if bytes_eq f.name name then Some f.value else None)

  -- the last field of this name exists, and encodes the meaning
  abbrev pub LastEncodes : List ℕ → (List T → Meaning → Type 0) → List (Field T) → Meaning → Type 0
  LastEncodes name encodes fs m = (us : List T) × (last name fs ≡ Some us) × encodes us m

  -- a field before other ones, unless its name is known
  abbrev pub unless_known : Bool → Field T → List (Field T) → List (Field T)
  unless_known true f fs = fs
  unless_known false f fs = f ∷ fs

  -- the fields whose names are not known
  abbrev pub others : (List ℕ → Bool) → List (Field T) → List (Field T)
  others knows [] = []
  others knows (f ∷ fs) = unless_known (knows f.name) f (others knows fs)

-- fields of a struct: which names it knows, what may come after a known name, what a list of
-- fields means, which name the first field has that must be there and is missing from a list, and
-- which meanings are legal
pub record Shape (T : Type 0) : Type 1 where
  pub knows : List ℕ → Bool
  pub takes : List ℕ → List T → Type 0
  pub means : List (Field T) → Meaning → Type 0
  pub lacks : List (Field T) → List ℕ → Type 0
  pub legal : Meaning → Type 0

module _ {T : Type 0} {c : Cutting T} {g : Grammar T} (s : FieldStyle c g) where
  -- a name, a colon, and tokens that may come after that name
  abbrev pub EncodedField : (List ℕ → List T → Type 0) → List T → Field T → Type 0
  EncodedField takes ts f =
      (ts ≡ s.name f.name ∷ (s.pair.token ∷ f.value)) × takes f.name f.value

  -- this name, a colon, and what encodes the value
  abbrev pub EncodedNamed : {A : Type 0} → List ℕ → (List T → A → Type 0) → List T → A → Type 0
  EncodedNamed name encodes ts x =
      (us : List T) × (ts ≡ s.name name ∷ (s.pair.token ∷ us)) × encodes us x

  -- after a known name what it takes, after any other a skipped field
  abbrev pub Allowed : Shape T → List ℕ → List T → Type 0
  Allowed shape name us = either (shape.knows name) (shape.takes name us) (s.Skipped us)

  -- the encoding of a struct: a list of fields in brackets, and what they mean
  abbrev pub EncodedFields : Shape T → List T → Meaning → Type 0
  EncodedFields shape ts m =
      (fs : List (Field T))
      × EncodedList s.list.tokens (EncodedField (Allowed shape)) ts fs
      × shape.means fs m

-- ---- the shapes

module _ {T : Type 0} {g : Grammar T} (name : List ℕ) (s : Encoding g) where
  -- a field that must be there
  abbrev pub required_field : Shape T
  required_field = record {
    knows = λ n. bytes_eq n name;
    takes = λ n us. (m : Meaning) × s.encodes us m;
    means = LastEncodes name s.encodes;
    lacks = λ fs n. (last name fs ≡ None) × (n ≡ name);
    legal = s.legal;
  }

-- no fields: none is known, none is missing, and whatever fields a text has, they mean nothing
abbrev pub no_fields : {T : Type 0} → Shape T
no_fields = record {
  knows = λ n. false;
  takes = λ n us. ⊥;
  means = λ fs m. m ≡ nothing;
  lacks = λ fs n. ⊥;
  legal = LegalUnit;
}

-- fields and more fields, which mean the pair of what both mean; the second see only the fields
-- that the first do not know, and one of them is the first that is missing where none of the first is
abbrev pub both_fields : {T : Type 0} → Shape T → Shape T → Shape T
both_fields a b = record {
  knows = λ n. a.knows n || b.knows n;
  takes = λ n us. either (a.knows n) (a.takes n us) (b.takes n us);
  means = λ fs. IsImage paired (BothOfPair (a.means fs) (b.means (others a.knows fs)));
  lacks = λ fs n. a.lacks fs n ⊎ (((m : Meaning) × a.means fs m) × b.lacks (others a.knows fs) n);
  legal = IsImage paired (BothOfPair a.legal b.legal);
}

-- ==== names

-- no name stands twice: a test
abbrev pub are_distinct : List (List ℕ) → Bool
are_distinct [] = true
are_distinct (name ∷ names) =
    list_all (λ other. not (bytes_eq other name)) names && are_distinct names

-- the name is another
abbrev pub Differs : List ℕ → List ℕ → Type 0
Differs name other = bytes_eq name other ≡ false

-- no name stands twice
abbrev pub AreDistinct : List (List ℕ) → Type 0
AreDistinct [] = Unit {0}
AreDistinct (name ∷ names) = AllByRecursion (λ other. Differs other name) names × AreDistinct names

-- ==== names that no variant of an enum has, whatever the tokens are

-- what the error for such a name says
abbrev pub unknown_message : List ℕ → List ℕ
unknown_message name = codes "Enum not defined " ++ name

-- one of the variants has the name, and stands alone if the name stood alone and only then
abbrev pub is_known_name : {C : Type 1} → Variants C → Bool → List ℕ → Bool
is_known_name no_variants stood name = false
is_known_name (unit_variant first others) stood name =
    is_named stood true name first || is_known_name others stood name
is_known_name (variant first content others) stood name =
    is_named stood false name first || is_known_name others stood name

module _ {T : Type 0} {c : Cutting T} {g : Grammar T} (s : VariantStyle c g) where
  -- the tokens of a name that stands alone, or of one with content after it
  abbrev pub tokens_of_name : Bool → List ℕ → List T
  tokens_of_name true name = s.alone name
  tokens_of_name false name = s.opened name

  -- a name is here, with one more token or the end after it, and no variant that such tokens name
  -- has it
  pub record HasUnknownName (vs : Variants (Encoding g)) (start : At T) : Type 0 where
    pub stood : Bool
    pub name : List ℕ
    pub after : At T
    pub stands : Leaves c.cut (tokens_of_name stood name) start after
    pub unknown : (alone : Bool) → Leaves c.cut (tokens_of_name alone name) start after
        → is_known_name vs alone name ≡ false

-- ==== what is read of the fields so far: a slot holds the last value of its name

-- empty where no field has the name, else what the last one encodes
abbrev pub Holds : {T : Type 0} → List ℕ → (List T → Meaning → Type 0) → Option Meaning
    → List (Field T) → Type 0
Holds name encodes None fs = last name fs ≡ None
Holds name encodes (Some m) fs = LastEncodes name encodes fs m

-- ==== a field that has a default where it is missing

-- some tokens encode the meaning
abbrev pub HasEncoding : {T : Type 0} → (List T → Meaning → Type 0) → Meaning → Type 0
HasEncoding {T} encodes m = (ts : List T) × encodes ts m

-- each value that means the default is sound
abbrev pub IsSoundDefault : {T : Type 0} {c : Cutting T} {g : Grammar T} {A : Type 0}
    → Codec c g A → Meaning → Type 0
IsSoundDefault {A = A} f missing = (x : A) → f.canonical.means x ≡ missing → f.sound x

module _ {T : Type 0} {g : Grammar T} (name : List ℕ) (s : Encoding g) (missing : Meaning) where
  -- no field has the name, and the meaning is the default, which has an encoding
  abbrev pub IsMissing : List (Field T) → Meaning → Type 0
  IsMissing fs m = (last name fs ≡ None) × ((m ≡ missing) × HasEncoding s.encodes m)

  -- a field that may be missing, which means the default then; where it is there, the last of its
  -- name counts
  abbrev pub defaulted_field : Shape T
  defaulted_field = record {
    knows = λ n. bytes_eq n name;
    takes = λ n us. (m : Meaning) × s.encodes us m;
    means = λ fs m. IsMissing fs m ⊎ LastEncodes name s.encodes fs m;
    lacks = λ fs n. ⊥;
    legal = s.legal;
  }

-- ==== the laws of named fields

-- of what may come after a name, nothing is a proper prefix of another
abbrev pub Apart : {T : Type 0} → (List ℕ → List T → Type 0) → Type 0
Apart {T} takes = (name : List ℕ) (us more : List T)
    → takes name us → takes name (us ++ more) → more ≡ []

-- what comes after a name can be distinguished, a list of fields means one thing, what it means is
-- legal, and where a field is missing it means nothing
pub record IsShape {T : Type 0} (shape : Shape T) : Type 0 where
  pub apart : Apart shape.takes
  pub one : (fs : List (Field T)) (m n : Meaning) → shape.means fs m → shape.means fs n → m ≡ n
  pub is_legal : (fs : List (Field T)) (m : Meaning) → shape.means fs m → shape.legal m
  pub lacking : (fs : List (Field T)) (name : List ℕ) (m : Meaning) → shape.lacks fs name
      → shape.means fs m → ⊥

-- ==== named fields with their laws: what encodes a user-defined struct

-- the fields of a struct, with their laws
pub record Struct (T : Type 0) : Type 1 where
  pub shape : Shape T
  pub laws : IsShape shape
