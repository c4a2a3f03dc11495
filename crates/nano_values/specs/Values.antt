-- Values one after the other in a text, over any tokens.
use Rattle.std.specs.Prelude.{◌≡◌, ◌≢◌, ◌⊎◌, ℕ, false, List, [], ◌∷◌, ◌++◌}
use Rattle.nano_text.specs.Place.{remaining_text}
use Rattle.nano_grammar.specs.Tokens.{At, Begins, Spans, DecodesToNothing}
use Rattle.nano_grammar.specs.Outcomes.{HoldsNul, Report, Position, Moved, Fails, Uncut, GoesWrong}

-- ==== what a text holds

-- the tokens are encodings of these values, one after the other
abbrev pub Encodings : {T V : Type 0} → (List T → V → Type 0) → List T → List V → Type 0
Encodings encodes ts [] = ts ≡ []
Encodings {T} encodes ts (v ∷ vs) = (first others : List T) × (ts ≡ first ++ others)
    × encodes first v × Encodings encodes others vs

-- the whole text is encodings of these values, one after the other: the end comes after them, and
-- there is no NUL anywhere
pub record HoldsValues {T V : Type 0} (cut : List ℕ → T → List ℕ → Type 0)
    (encodes : List T → V → Type 0) (end : T) (bytes : List ℕ) (vs : List V) : Type 0 where
  pub tokens : List T
  pub encoded : Encodings encodes tokens vs
  pub begins : Begins cut (tokens ++ end ∷ []) (remaining_text bytes)
  pub no_nul : ¬ HoldsNul bytes

-- ==== what a call for the next value comes to

-- nothing was taken yet of the text with these bytes
pub record IsFirst {T : Type 0} (bof : T) (bytes : List ℕ) (start : Position T) : Type 0 where
  pub token : start.at.token ≡ bof
  pub text : start.at.text ≡ remaining_text bytes

module _ {T : Type 0} (cut : List ℕ → T → List ℕ → Type 0) (bof : T) where
  -- the next token: the pending one or, where none was taken yet, the first of the text
  abbrev pub IsNext : At T → At T → Type 0
  IsNext now next = ((now.token ≢ bof) × (next ≡ now))
      ⊎ ((now.token ≡ bof) × cut now.text next.token next.text)

  -- the next token is pending
  pub record TakesFirst (old new : Position T) : Type 0 where
    pub next : IsNext old.at new.at
    pub begun : new.at.token ≢ bof
    pub place : Moved old new

  -- the next token is the end, which is pending, and no NUL stands in the text
  pub record IsOver (end : T) (bytes : List ℕ) (old new : Position T) : Type 0 where
    pub next : IsNext old.at new.at
    pub ended : new.at.token ≡ end
    pub no_nul : ¬ HoldsNul bytes
    pub place : Moved old new

module _ {T V : Type 0} (cut : List ℕ → T → List ℕ → Type 0) (encodes : List T → V → Type 0)
    (bof : T) where
  -- the value is encoded from the next token on, and the token after it is pending
  pub record TakesValue (old new : Position T) (v : V) : Type 0 where
    pub first : At T
    pub next : IsNext cut bof old.at first
    pub decodes : Spans cut encodes first new.at v
    pub place : Moved old new

  -- these values are taken, one after the other
  abbrev pub TakesValues : Position T → List V → Position T → Type 0
  TakesValues start [] stop = start ≡ stop
  TakesValues start (v ∷ vs) stop =
      (next : Position T) × TakesValue start next v × TakesValues next vs stop

  -- no value is encoded from the next token on, and where that is the end, a NUL stands in the text
  abbrev pub NoneIsNext : T → List ℕ → At T → Type 0
  NoneIsNext end bytes now = (first : At T) → IsNext cut bof now first
      → DecodesToNothing cut encodes first × (first.token ≡ end → HoldsNul bytes)

module _ {T V : Type 0} (cut : List ℕ → T → List ℕ → Type 0) (breaks : List ℕ → List ℕ → Type 0)
    (encodes : List T → V → Type 0) (bof end : T) where
  -- why no value is taken, and where the reader stands: where the text breaks, of which no first
  -- token is cut; where the value goes wrong that the next token begins; or where the next token is
  -- the end, and a NUL stands in the text
  pub data WhyNone (bytes : List ℕ) (old new : Position T) : Type 0 where
    no_token : old.at.token ≡ bof → Uncut cut breaks old new → WhyNone bytes old new
    no_value : (first : Position T) → TakesFirst cut bof old first → first.at.token ≢ end
        → GoesWrong cut breaks encodes first new → WhyNone bytes old new
    a_nul : (first : Position T) → TakesFirst cut bof old first → first.at.token ≡ end
        → HoldsNul bytes → new.place.line ≡ first.place.line → new.place.col ≡ first.place.col
        → WhyNone bytes old new

  -- no value is taken, and nothing is left
  pub record TakesNone (last : At T) (bytes : List ℕ) (old new : Position T) (e : Report)
      : Type 0 where
    pub fails : Fails (NoneIsNext cut encodes bof end bytes old.at) old new e
    pub why : e.memory ≡ false → WhyNone bytes old new
    pub ended : new.at ≡ last
