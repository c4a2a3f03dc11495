-- What is taken from streams that begin with lines of values.
use Rattle.std.specs.Prelude.{◌≡◌, ◌<◌, ◌≤◌, ◌⊎◌, ℕ, List, [], ◌∷◌, ◌++◌, Option, length}
use Rattle.std.specs.Prelude.{encode_utf8_all}
use Rattle.std.specs.Io.KnownBytes.{Keeps}
use Rattle.std.specs.List.{AllByRecursion}
use Rattle.nano_value.specs.Meaning.{Meaning}
use Rattle.nano_json_tokens.specs.Token.{Token}
use Rattle.nano_lines.specs.Lines.{HasNoFeed, IsBlank, BeginsWithLines, HoldsValue}
use Rattle.nano_lines.specs.Outcomes.{IsPassed}
use Rattle.nano_lines.specs.Writes.{AppendsLine, line_of}

-- the bytes are the lines of these texts, one after the other
abbrev pub AreLines : List ℕ → List (List ℕ) → Type 0
AreLines bytes [] = bytes ≡ []
AreLines bytes (text ∷ texts) = (others : List ℕ) × HasNoFeed (encode_utf8_all text)
    × (bytes ≡ line_of text ++ others) × AreLines others texts

-- a writer got the line of each of these texts, one after the other
abbrev pub AppendsLines : List (List ℕ) → Option (List ℕ) → Option (List ℕ) → Type 0
AppendsLines [] old new = Keeps old new
AppendsLines (text ∷ texts) old new =
    (between : Option (List ℕ)) × AppendsLine text old between × AppendsLines texts between new

-- lines of these texts come after what was there
pub record AddsLines (texts : List (List ℕ)) (before after : List ℕ) : Type 0 where
  pub stream : List ℕ
  pub following : after ≡ before ++ stream
  pub are : AreLines stream texts

module _ (encodes : List Token → Meaning → Type 0) where
  -- lines hold these values, one each in this order, but for blank ones
  abbrev pub HoldValues : List (List ℕ) → List Meaning → Type 0
  HoldValues [] ms = ms ≡ []
  HoldValues (line ∷ lines) ms = (IsBlank line × HoldValues lines ms)
      ⊎ ((m : Meaning) × (others : List Meaning) × (ms ≡ m ∷ others) × HoldsValue encodes line m
      × HoldValues lines others)

  -- the whole stream holds these values, one a line
  pub record StreamHolds (stream : List ℕ) (ms : List Meaning) : Type 0 where
    pub lines : List (List ℕ)
    pub whole : BeginsWithLines lines stream []
    pub hold : HoldValues lines ms

  module _ (limit : ℕ) where
    -- after blank lines the stream goes on with this line, and then with the rest
    pub record ReachesLine (stream line rest : List ℕ) : Type 0 where
      pub blanks : List (List ℕ)
      pub passed : AllByRecursion (IsPassed limit) blanks
      pub begins : BeginsWithLines (blanks ++ line ∷ []) stream rest

    -- the next line that is not blank holds the value
    pub record TakesValue (stream : List ℕ) (m : Meaning) (rest : List ℕ) : Type 0 where
      pub line : List ℕ
      pub reached : ReachesLine stream line rest
      pub fits : length line ≤ limit
      pub holds : HoldsValue encodes line m

    -- the next line that is not blank is too long, or holds no value
    pub record HasFault (stream : List ℕ) : Type 0 where
      pub line : List ℕ
      pub rest : List ℕ
      pub reached : ReachesLine stream line rest
      pub why : (limit < length line)
          ⊎ ((IsBlank line → ⊥) × ((m : Meaning) → HoldsValue encodes line m → ⊥))

    -- only blank lines are left
    pub record IsOver (stream : List ℕ) : Type 0 where
      pub blanks : List (List ℕ)
      pub passed : AllByRecursion (IsPassed limit) blanks
      pub whole : BeginsWithLines blanks stream []

    -- the value is taken from the stream and the rest is left, and nothing else comes of it
    pub record BeginsWithValue (stream : List ℕ) (m : Meaning) (rest : List ℕ) : Type 0 where
      pub taken : TakesValue stream m rest
      pub same : (n : Meaning) (left : List ℕ) → TakesValue stream n left → (n ≡ m) × (left ≡ rest)
      pub faultless : HasFault stream → ⊥
      pub not_over : IsOver stream → ⊥

    -- these values are taken, one after the other, and nothing else comes of it, up to the end
    abbrev pub GivesValues : List ℕ → List Meaning → Type 0
    GivesValues stream [] = IsOver stream × (HasFault stream → ⊥)
        × ((m : Meaning) (rest : List ℕ) → TakesValue stream m rest → ⊥)
    GivesValues stream (m ∷ ms) =
        (rest : List ℕ) × BeginsWithValue stream m rest × GivesValues rest ms
