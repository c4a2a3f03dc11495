-- Tokens cut from a text one after the other, whatever the tokens are and however one is cut.
--
-- A cut is a relation: `cut text token rest` says that the text begins with this token and
-- leaves that rest. An encoding is a relation too: `encodes tokens value` says that these
-- tokens, in this order, encode the value.
use Rattle.std.specs.Prelude.{◌≡◌, ℕ, List, [], ◌∷◌, ◌++◌, ◌==◌, ◌&&◌, not, Bool, true}
use Rattle.std.specs.List.{AllByRecursion}
use Rattle.std.proofs.Math.Utf8.{scalar}

-- a pending token, and the text after it
pub record At (T : Type 0) : Type 0 where
  pub token : T
  pub text : List ℕ

-- the first token is cut from the text, and each next one from what the one before left
abbrev pub Begins : {T : Type 0} → (List ℕ → T → List ℕ → Type 0) → List T → List ℕ → Type 0
Begins cut [] text = Unit {0}
Begins cut (t ∷ ts) text = (rest : List ℕ) × cut text t rest × Begins cut ts rest

-- the pending token is the first, and the tokens after it begin the text
abbrev pub BeginsAt : {T : Type 0} → (List ℕ → T → List ℕ → Type 0) → List T → At T → Type 0
BeginsAt cut [] start = ⊥
BeginsAt cut (t ∷ ts) start = (t ≡ start.token) × Begins cut ts start.text

-- these tokens are cut from the text one after the other, and that is left
abbrev pub Cuts : {T : Type 0} → (List ℕ → T → List ℕ → Type 0) → List T → List ℕ → List ℕ → Type 0
Cuts cut [] text rest = text ≡ rest
Cuts cut (t ∷ ts) text rest = (middle : List ℕ) × cut text t middle × Cuts cut ts middle rest

-- once these tokens are taken, that token is pending, with that text after it
abbrev pub Leaves : {T : Type 0} → (List ℕ → T → List ℕ → Type 0) → List T → At T → At T → Type 0
Leaves cut [] start end = start ≡ end
Leaves {T} cut (t ∷ ts) start end =
    (t ≡ start.token)
    × ((next : At T) × cut start.text next.token next.text × Leaves cut ts next end)

-- a text is cut in one way
abbrev pub IsOneWay : {T : Type 0} → (List ℕ → T → List ℕ → Type 0) → Type 0
IsOneWay {T} cut =
    (text : List ℕ) (t u : T) (rest left : List ℕ) → cut text t rest → cut text u left
    → (t ≡ u) × (rest ≡ left)

-- no encoding of a value is a proper prefix of an encoding of a value of the same type
abbrev pub NoneBeginsAnother : {T V : Type 0} → (List T → V → Type 0) → Type 0
NoneBeginsAnother {T} {V} encodes =
    (ts more : List T) (v w : V) → encodes ts v → encodes (ts ++ more) w → more ≡ []

-- ---- what is encoded, and what readers answer

module _ {T V : Type 0} (cut : List ℕ → T → List ℕ → Type 0) (encodes : List T → V → Type 0) where
  -- the value is encoded from here to there
  abbrev pub Spans : At T → At T → V → Type 0
  Spans start end value = (ts : List T) × encodes ts value × Leaves cut ts start end

  -- an encoding of the value is here, with one more token or the end after it
  abbrev pub DecodesTo : At T → V → Type 0
  DecodesTo start value =
      (ts : List T) × (end : At T) × encodes ts value × Leaves cut ts start end

  -- an encoding of the value begins the text, with one more token or the end after it
  abbrev pub TextDecodesTo : List ℕ → V → Type 0
  TextDecodesTo text value = (start : At T) × cut text start.token start.text
      × DecodesTo start value

  -- no encoding of a value is here, with one more token or the end after it
  abbrev pub DecodesToNothing : At T → Type 0
  DecodesToNothing start = (value : V) → DecodesTo start value → ⊥

  -- no encoding of a value begins the text, with one more token or the end after it
  abbrev pub TextDecodesToNothing : List ℕ → Type 0
  TextDecodesToNothing text = (value : V) → TextDecodesTo text value → ⊥

-- ---- what is cut, and what follows it

module _ {T : Type 0} (cut : List ℕ → T → List ℕ → Type 0) where
  -- with anything after it that may follow, the text is cut into the tokens, and leaves that
  abbrev pub IsCutInto : (List ℕ → Type 0) → List T → List ℕ → Type 0
  IsCutInto may_follow ts text =
      (rest : List ℕ) → may_follow rest → Cuts cut ts (text ++ rest) rest

-- ==== tokens that carry a text

abbrev pub is_textual : ℕ → Bool
is_textual c = scalar c && not (c == 0)

abbrev pub AllTextual : List ℕ → Type 0
AllTextual = AllByRecursion (λ c. is_textual c ≡ true)

-- ==== how a format cuts a text

-- how a format cuts a text: one token from the start of a text; where a text breaks, of which none is
-- cut; gaps, which are skipped before a token; and what may follow a written value
pub record Cutting (T : Type 0) : Type 1 where
  pub cut : List ℕ → T → List ℕ → Type 0
  pub breaks : List ℕ → List ℕ → Type 0
  pub IsGap : List ℕ → Type 0
  pub may_follow : List ℕ → Type 0
  pub skips : (gap text rest : List ℕ) (t : T) → IsGap gap → cut text t rest
      → cut (gap ++ text) t rest

-- there is a first token
abbrev pub HasToken : {T : Type 0} → List T → Type 0
HasToken [] = ⊥
HasToken (t ∷ ts) = Unit {0}

module _ {T : Type 0} (c : Cutting T) where
  -- with anything after it that may follow, the text is cut into the tokens, of which there is
  -- at least one; and it holds characters that a text may hold
  pub record IsWrittenAs (follows : List ℕ → Type 0) (ts : List T) (text : List ℕ) : Type 0 where
    pub cut_again : IsCutInto c.cut follows ts text
    pub has_token : HasToken ts
    pub textual : AllTextual text

  -- of a value
  abbrev pub IsValueText : List T → List ℕ → Type 0
  IsValueText = IsWrittenAs c.may_follow

  -- the punctuator is cut into its token, whatever follows
  pub record IsPunctuator (t : T) (punctuator : ℕ) : Type 0 where
    pub cut : (rest : List ℕ) → c.cut (punctuator ∷ rest) t rest
    pub textual : is_textual punctuator ≡ true

  -- the punctuator may follow a value
  abbrev pub Follows : ℕ → Type 0
  Follows punctuator = (rest : List ℕ) → c.may_follow (punctuator ∷ rest)

  -- a gap that is written
  pub record IsWrittenGap (gap : List ℕ) : Type 0 where
    pub is_gap : c.IsGap gap
    pub textual : AllTextual gap
