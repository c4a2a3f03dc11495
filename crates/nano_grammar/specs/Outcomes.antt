-- What one call of a reader of text comes to, over any tokens: what was taken and how far that
-- goes, or why nothing was and where that was found.
use Rattle.std.specs.Prelude.{◌≡◌, ◌≢◌, ◌⊎◌, ◌+◌, ◌-◌, ◌≤◌, ℕ, List, [], ◌∷◌, ◌++◌, length, chars}
use Rattle.std.specs.Prelude.{codes, true, false, Bool, Result, MatchResult, ◌↔◌}
use Rattle.std.specs.declared.str.Chars.{Chars}
use Rattle.nano_text.specs.Place.{remaining_text, text_at, before_nul, beginning, passed, Advances}
use Rattle.nano_text.specs.Place.{Moves, StandsIn}
use Rattle.nano_grammar.specs.Tokens.{Begins, At, Leaves, Spans, TextDecodesTo}
use Rattle.nano_text.specs.declared.place.Place.{Place}
use Rattle.nano_grammar.specs.Faults.{Reason, wrong, uncut, Fault}
pub use Rattle.nano_grammar.specs.Faults.{NothingCut}

-- ==== whole inputs

-- a NUL stands in the text
abbrev pub HoldsNul : List ℕ → Type 0
HoldsNul bytes = (prefix following : List ℕ) × (chars bytes ≡ prefix ++ 0 ∷ following)

-- the message of the error where a value decodes, and more comes after it
abbrev pub end_message : List ℕ
end_message = codes "Cannot parse end "

module _ {T V : Type 0} (cut : List ℕ → T → List ℕ → Type 0) (encodes : List T → V → Type 0) where
  -- an encoding of the value begins the text, with this token after it
  abbrev pub DecodesBefore : T → List ℕ → V → Type 0
  DecodesBefore next text value =
      (ts : List T) × encodes ts value × Begins cut (ts ++ next ∷ []) text

  -- the whole input encodes the value: the end comes after it, and there is no NUL anywhere
  pub record WholeDecodesTo (end : T) (bytes : List ℕ) (value : V) : Type 0 where
    pub fits : DecodesBefore end (remaining_text bytes) value
    pub no_nul : ¬ HoldsNul bytes

  -- a value decodes, and a token other than the end, or a NUL, comes after it
  pub record GoesOn (end : T) (bytes : List ℕ) : Type 0 where
    pub value : V
    pub next : T
    pub fits : DecodesBefore next (remaining_text bytes) value
    pub more : (next ≢ end) ⊎ HoldsNul bytes

  -- the whole input encodes no value
  abbrev pub WholeDecodesToNothing : T → List ℕ → Type 0
  WholeDecodesToNothing end bytes = (value : V) → WholeDecodesTo end bytes value → ⊥

-- ==== outcomes

-- what an error says
pub record Report : Type 0 where
  pub memory : Bool
  pub message : List ℕ
  pub line : ℕ
  pub col : ℕ

-- the error stands at the place, and has no message where it is out of memory
abbrev pub IsMadeAt : Place → Report → Type 0
IsMadeAt place e =
    (e.memory ≡ true → e.message ≡ []) × (e.line ≡ place.line) × (e.col ≡ place.col)

-- where a reader is: the pending token with the remaining text, line and column, and what its input
-- still holds
pub record Position (T : Type 0) : Type 0 where
  pub at : At T
  pub place : Place
  pub input : Chars

module _ {T : Type 0} where
  -- line and column count exactly the characters between, and the input holds what comes after them
  abbrev pub Moved : Position T → Position T → Type 0
  Moved start end = Moves start.place start.input end.place end.input

  -- the reader gave up there: it is at the end of the text, on the same line and column
  abbrev pub given_up : At T → Position T → Position T
  given_up last p = record { at = last; place = record p.place { cur = 0 }; input = p.input }

  -- an error reports the fact, unless it is out of memory. It stands at the position, whose line
  -- and column count characters that were taken
  pub record Fails (fact : Type 0) (start end : Position T) (e : Report) : Type 0 where
    pub rejected : e.memory ≡ false → fact
    pub made : IsMadeAt end.place e
    pub place : Advances start.place start.input end.place end.input

  -- the next token could not be taken, unless that buffer was full: the reader is at the end
  pub record Stops (last : At T) (fact full : Type 0) (start end : Position T) (e : Report)
      : Type 0 where
    pub fails : Fails fact start end e
    pub ended : end.at ≡ last
    pub capacity : full

  -- the pending token is not the wanted one, and all is the same; or the next token could not be
  -- taken after it
  pub record RejectsToken (last : At T) (wanted fact full same : Type 0) (start end : Position T)
      (e : Report) : Type 0 where
    pub fails : Fails fact start end e
    pub unchanged : (wanted → ⊥) → same
    pub ended : wanted → end.at ≡ last
    pub capacity : wanted → full

  module _ (cut : List ℕ → T → List ℕ → Type 0) (buffered : Type 0) (start end : Position T) where
    -- the next token is pending, and this is known of the buffers
    pub record TookNext : Type 0 where
      pub taken : cut start.at.text end.at.token end.at.text
      pub buffers : buffered
      pub place : Moved start end

    -- these tokens were taken, and the next one is pending
    pub record Took (ts : List T) : Type 0 where
      pub taken : Leaves cut ts start.at end.at
      pub buffers : buffered
      pub place : Moved start end

    -- the comma was taken, or the closing bracket is pending and all is the same
    pub record TookComma (comma closing : T) (same : Type 0) : Type 0 where
      pub taken : Leaves cut (comma ∷ []) start.at end.at
          ⊎ ((start.at.token ≡ closing) × (end.at ≡ start.at))
      pub unchanged : start.at.token ≢ comma → same
      pub buffers : buffered
      pub place : Moved start end

  -- ---- values

  -- the text after the pending token breaks, and a reader stands on the line and column where it
  -- does: they count all characters before what is left there
  pub record StandsBroken (breaks : List ℕ → List ℕ → Type 0) (here end : Position T) : Type 0 where
    pub stop : Place
    pub input : Chars
    pub broken : breaks here.at.text (text_at stop input)
    pub moved : Moves here.place here.input stop input
    pub line : end.place.line ≡ stop.line
    pub col : end.place.col ≡ stop.col

  -- no token is cut after the pending one, and the reader stands where that text breaks
  pub record Uncut (cut : List ℕ → T → List ℕ → Type 0) (breaks : List ℕ → List ℕ → Type 0)
      (start end : Position T) : Type 0 where
    pub none : NothingCut cut start.at.text
    pub stands : StandsBroken breaks start end

  -- where a reader stands that found a fault there: on the line and column of the pending token, if
  -- that one is wrong, and else where the text after it breaks
  abbrev pub StandsAt : (cut : List ℕ → T → List ℕ → Type 0) (breaks : List ℕ → List ℕ → Type 0)
      (here end : Position T) → Reason cut here.at → Type 0
  StandsAt cut breaks here end wrong =
      (end.place.line ≡ here.place.line) × (end.place.col ≡ here.place.col)
  StandsAt cut breaks here end (uncut none) = StandsBroken breaks here end

  module _ {V : Type 0} (cut : List ℕ → T → List ℕ → Type 0) (encodes : List T → V → Type 0)
      (start end : Position T) where
    -- the value is encoded from here to there
    pub record Read (value : V) : Type 0 where
      pub decodes : Spans cut encodes start.at end.at value
      pub place : Moved start end

  module _ {V : Type 0} (cut : List ℕ → T → List ℕ → Type 0) (breaks : List ℕ → List ℕ → Type 0)
      (encodes : List T → V → Type 0) (start end : Position T) where
    -- the value goes wrong where these tokens were taken, and the reader stands there
    pub record GoesWrong : Type 0 where
      pub here : Position T
      pub text : here.at.text ≡ text_at here.place here.input
      pub moved : Moved start here
      pub reason : Reason cut here.at
      pub fault : Fault cut encodes start.at here.at reason
      pub stands : StandsAt cut breaks here end reason

    -- no value is encoded here
    abbrev pub ReadsNone : Report → Type 0
    ReadsNone = Fails GoesWrong start end

    -- no value is encoded here, and the reader is at the end of the text
    pub record ReadsNoneAndEnds (last : At T) (e : Report) : Type 0 where
      pub fails : ReadsNone e
      pub ended : end.at ≡ last

    module _ {A E : Type 0} (report : E → Report) (means : A → V) where
      -- a call reads a value by what it means; an error leaves the reader anywhere
      abbrev pub Reads : Result A E → Type 0
      Reads result = MatchResult result (λ x. Read cut encodes start end (means x))
          (λ e. ReadsNone (report e))

      -- the same, and an error leaves the reader at the end of the text
      abbrev pub ReadsOrEnds : At T → Result A E → Type 0
      ReadsOrEnds last result = MatchResult result (λ x. Read cut encodes start end (means x))
          (λ e. ReadsNoneAndEnds last (report e))

-- ---- texts

-- line and column count the characters of a text before what is left of it up to its first NUL, and
-- one more: the next character, or that NUL, unless the text ends there
pub record StandsBefore (text left : List ℕ) (line column : ℕ) : Type 0 where
  pub taken : List ℕ
  pub after : List ℕ
  pub split : text ≡ taken ++ after
  pub lines : line ≡ (passed beginning taken).line
  pub columns : column ≡ (passed beginning taken).col
  pub exact : length after ≡ length text - (length (before_nul text) + 1 - length left)

-- an error of a value that must be a whole input: its message is not that of a value that goes on,
-- and is the same if it was not; all else is the same
pub record IsValueError (error result : Report) : Type 0 where
  pub memory : result.memory ≡ error.memory
  pub apart : result.message ≢ end_message
  pub unchanged : error.message ≢ end_message → result.message ≡ error.message
  pub line : result.line ≡ error.line
  pub col : result.col ≡ error.col

module _ {T V : Type 0} (cut : List ℕ → T → List ℕ → Type 0) (breaks : List ℕ → List ℕ → Type 0)
    (encodes : List T → V → Type 0) (bytes : List ℕ) where
  -- what is left of the text breaks, and the error stands there
  pub record BreaksInText (text : List ℕ) (e : Report) : Type 0 where
    pub left : List ℕ
    pub broken : breaks text left
    pub stands : StandsBefore (chars bytes) left e.line e.col

  -- the error stands where the next character is taken after a wrong token, or where the text after
  -- the pending one breaks
  abbrev pub StandsInText : {here : At T} → Reason cut here → Report → Type 0
  StandsInText {here} wrong e = StandsBefore (chars bytes) here.text e.line e.col
  StandsInText {here} (uncut none) e = BreaksInText here.text e

  -- a first token is cut from the text, which goes wrong at that one or after it
  pub record TextGoesWrong (e : Report) : Type 0 where
    pub first : At T
    pub is_first : cut (remaining_text bytes) first.token first.text
    pub here : At T
    pub reason : Reason cut here
    pub fault : Fault cut encodes first here reason
    pub stands : StandsInText reason e

  -- no token begins the text, and the error stands where it breaks
  pub record BreaksAtOnce (e : Report) : Type 0 where
    pub none : NothingCut cut (remaining_text bytes)
    pub there : BreaksInText (remaining_text bytes) e

  -- no token begins the text, or it goes wrong
  abbrev pub IsNoText : Report → Type 0
  IsNoText e = BreaksAtOnce e ⊎ TextGoesWrong e

  -- a value begins the text, and the error stands at the token after it
  pub record TextGoesOn (e : Report) : Type 0 where
    pub first : At T
    pub is_first : cut (remaining_text bytes) first.token first.text
    pub next : At T
    pub value : V
    pub read : Spans cut encodes first next value
    pub stands : StandsBefore (chars bytes) next.text e.line e.col

  -- no value is encoded at the beginning of the text, and the error stands in the text
  pub record ReadsNoText (e : Report) : Type 0 where
    pub fault : e.memory ≡ false → IsNoText e
    pub silent : e.memory ≡ true → e.message ≡ []
    pub place : StandsIn (chars bytes) e.line e.col

  -- the whole input encodes no value. The message is `Cannot parse end ` exactly where a value
  -- decodes, and more comes after it
  pub record ReadsNoWhole (last : T) (e : Report) : Type 0 where
    pub rejected : e.memory ≡ false → WholeDecodesToNothing cut encodes last bytes
    pub silent : e.memory ≡ true → e.message ≡ []
    pub trailing : e.memory ≡ false → (e.message ≡ end_message) ↔ GoesOn cut encodes last bytes
    pub fault : e.memory ≡ false → e.message ≢ end_message → IsNoText e
    pub past : e.memory ≡ false → e.message ≡ end_message → TextGoesOn e
    pub place : StandsIn (chars bytes) e.line e.col

  module _ {A E : Type 0} (report : E → Report) (means : A → V) where
    -- a call reads the value at the beginning of the text
    abbrev pub ReadsText : Result A E → Type 0
    ReadsText result = MatchResult result
        (λ x. TextDecodesTo cut encodes (remaining_text bytes) (means x))
        (λ e. ReadsNoText (report e))

    -- a call reads the value that is the whole input
    abbrev pub ReadsWhole : T → Result A E → Type 0
    ReadsWhole last result = MatchResult result
        (λ x. WholeDecodesTo cut encodes last bytes (means x)) (λ e. ReadsNoWhole last (report e))
