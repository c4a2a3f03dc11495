-- What the calls of a reader's state and of a writer's come to.
use Rattle.std.specs.Prelude.{◌≡◌, ◌≢◌, ◌⊎◌, ◌≤◌, ◌<◌, ◌≤ℤ◌, ◌<ℤ◌, ℕ, ℤ, Bool, true, false, Some}
use Rattle.std.specs.Prelude.{List, [], ◌∷◌, ◌++◌, length, codes, decimal, Result, IsOk, IfOk}
use Rattle.std.specs.Prelude.{MatchOption, IfSome, MatchResult, Option, String, string_bytes, string_capacity}
use Rattle.std.specs.declared.str.Chars.{Chars}
use Rattle.nano_text.specs.Place.{remaining, text_at, Moves}
use Rattle.nano_grammar.specs.Tokens.{At, Cuts, Leaves}
use Rattle.nano_grammar.specs.Outcomes.{Report, Position, IsMadeAt as MadeAt, Fails, Stops}
use Rattle.nano_grammar.specs.Outcomes.{RejectsToken, TookNext, Took, TookComma}
use Rattle.nano_grammar.specs.Outcomes.{Uncut as UncutBy, Reads as ReadsBy, Read}
use Rattle.nano_grammar.specs.Outcomes.{Moved as MovedTo}
use Rattle.nano_grammar.specs.Outcomes.{ReadsOrEnds as ReadsOrEndsBy, GoesWrong as GoesWrongBy}
use Rattle.nano_text.specs.declared.place.Place.{Place}
use Rattle.nano_grammar.specs.ItemRuns.{TookItem}
use Rattle.nano_grammar.specs.Faults.{AreTokens}
use Rattle.nano_ron_tokens.specs.declared.error.DeRonErr.{DeRonErr}
use Rattle.nano_ron_tokens.specs.declared.state.DeRonState.{DeRonState}
use Rattle.nano_ron_tokens.specs.declared.token.DeRonTok.TheVariants.{Eof}
use Rattle.nano_ron_tokens.specs.declared.writer.SerRonState.{SerRonState}
use Rattle.nano_ron_tokens.specs.State.{out_of_range, below_range, above_range, at, ended, pending}
use Rattle.nano_ron_tokens.specs.State.{place_of, KeepsOtherBuffers}
use Rattle.nano_ron_tokens.specs.Token.{Token, str, u64, f64, bool, colon, comma, ident, integer_of}
use Rattle.nano_ron_tokens.specs.Token.{truth_of, IsStr, IsIdent}
use Rattle.nano_ron_tokens.specs.Breaks.{Breaks}
use Rattle.nano_ron_tokens.specs.Cut.{Cut}

-- ---- errors

-- what an error says
abbrev pub report : DeRonErr → Report
report e = record { memory = e.memory; message = string_bytes e.msg; line = e.line; col = e.col }

-- the error is at the state's position; an out of memory error has no message
abbrev pub IsMadeAt : DeRonState → DeRonErr → Type 0
IsMadeAt s e = MadeAt (place_of s) (report e)

-- unless it is out of memory, the error reports the fact
abbrev pub Reports : DeRonState → Type 0 → DeRonErr → Type 0
Reports s fact e = (e.memory ≡ false → fact) × IsMadeAt s e

-- unless it is out of memory, the error has this message
abbrev pub Says : DeRonState → List ℕ → DeRonErr → Type 0
Says s text e = Reports s (string_bytes e.msg ≡ text) e

-- unless it is out of memory, the message was made, and the error has it
abbrev pub SaysIt : {Y E : Type 0} → DeRonState → Result (String Y) E → DeRonErr → Type 0
SaysIt s msg e = Reports s (IsOk msg × IfOk msg (λ m. string_bytes e.msg ≡ string_bytes m)) e

-- ---- where a state is

-- the pending token with the remaining text, line and column, and what the input still holds
abbrev pub position : DeRonState → Chars → Position Token
position s i = record { at = at s i; place = place_of s; input = i }

-- nothing is changed
abbrev pub Keeps : DeRonState → Chars → DeRonState → Chars → Type 0
Keeps old before new after = (new ≡ old) × (after ≡ before)

-- line and column count exactly the characters between
abbrev pub Moved : DeRonState → Chars → DeRonState → Chars → Type 0
Moved old before new after = Moves (place_of old) before (place_of new) after

-- ---- what is not there

-- no token is cut after the pending one, and the state stands where that text breaks
abbrev pub Uncut : DeRonState → Chars → DeRonState → Chars → Type 0
Uncut old before new after = UncutBy Cut Breaks (position old before) (position new after)

-- no value is encoded from here on: it goes wrong on the way to there
abbrev pub GoesWrong : {V : Type 0} → (List Token → V → Type 0) → DeRonState → Chars → DeRonState → Chars
    → Type 0
GoesWrong encodes old before new after =
    GoesWrongBy Cut Breaks encodes (position old before) (position new after)

-- these tokens, with one more or the end after them, do not stand here
abbrev pub NoneHere : List Token → DeRonState → Chars → DeRonState → Chars → Type 0
NoneHere ts = GoesWrong (AreTokens ts)

-- a word alone
abbrev pub AnIdent : List Token → List ℕ → Type 0
AnIdent ts name = ts ≡ ident name ∷ []

-- the token's text goes to a buffer that has no capacity for it yet
abbrev pub Outgrows : DeRonState → Token → Type 0
Outgrows s (str bytes) = string_capacity s.strbuf < length bytes
Outgrows s (f64 run) = string_capacity s.numbuf < length run
Outgrows s (bool true) = string_capacity s.identbuf < length (codes "true")
Outgrows s (bool false) = string_capacity s.identbuf < length (codes "false")
Outgrows s (ident name) = string_capacity s.identbuf < length name
Outgrows s _ = ⊥

-- if a token is cut from the text, it outgrows its buffer
abbrev pub NoCapacity : DeRonState → List ℕ → Type 0
NoCapacity s text = (t : Token) (rest : List ℕ) → Cut text t rest → Outgrows s t

-- if another token than a colon is cut from the text, it outgrows its buffer
abbrev pub NoCapacityForOther : DeRonState → List ℕ → Type 0
NoCapacityForOther s text =
    (t : Token) (rest : List ℕ) → Cut text t rest → t ≢ colon → Outgrows s t

-- ---- calls that take tokens

module _ (old : DeRonState) (before : Chars) (new : DeRonState) (after : Chars) where
  -- the next token is taken; or none can be, and the state is at the end of the text
  abbrev pub TakesNext : {A : Type 0} → Result A DeRonErr → Type 0
  TakesNext result = MatchResult result
      (λ _. TookNext Cut (KeepsOtherBuffers old new) (position old before) (position new after))
      (λ e. Stops ended (Uncut old before new after)
      (NoCapacity old (remaining old.cur before)) (position old before) (position new after)
      (report e))

  -- these tokens are taken
  abbrev pub Taken : List Token → Type 0
  Taken = Took Cut (KeepsOtherBuffers old new) (position old before) (position new after)

  -- the pending token is not the wanted one; or it is, and no token can be taken after it
  abbrev pub NotTaken : Type 0 → Type 0 → DeRonErr → Type 0
  NotTaken wanted fact e = RejectsToken ended wanted fact (NoCapacity old (remaining old.cur before))
      (Keeps old before new after) (position old before) (position new after) (report e)

  -- the token is taken
  abbrev pub TakesOne : {A : Type 0} → Token → Result A DeRonErr → Type 0
  TakesOne t result = MatchResult result (λ _. Taken (t ∷ []))
      (NotTaken (pending old ≡ t) (NoneHere (t ∷ []) old before new after))

  -- a word is taken
  abbrev pub TakesIdent : {A : Type 0} → Result A DeRonErr → Type 0
  TakesIdent result = MatchResult result (λ _. (name : List ℕ) × Taken (ident name ∷ []))
      (NotTaken (IsIdent (pending old)) (GoesWrong AnIdent old before new after))

  -- a comma is taken, or the closing bracket is pending, which is never an error
  abbrev pub TakesComma : {A : Type 0} → Token → Result A DeRonErr → Type 0
  TakesComma closing result = MatchResult result
      (λ _. TookComma Cut (KeepsOtherBuffers old new) (position old before) (position new after)
      comma closing (Keeps old before new after))
      (λ e. (pending old ≢ closing) × NotTaken (pending old ≡ comma)
      ((pending old ≢ closing) × NoneHere (comma ∷ []) old before new after) e)

  -- the token after the pending one is not a colon: it was taken, and is pending
  abbrev pub FindsOther : Type 0
  FindsOther = (pending new ≢ colon)
      × Cut (remaining old.cur before) (pending new) (remaining new.cur after)
      × KeepsOtherBuffers old new

  -- no colon comes after the pending token
  pub record NoColon (e : DeRonErr) : Type 0 where
    pub fails : Fails (NoneHere (pending old ∷ (colon ∷ [])) old before new after)
        (position old before) (position new after) (report e)
    pub other : e.memory ≡ false → (next : At Token)
        → Cut (remaining old.cur before) next.token next.text → next.token ≢ colon
        → at new after ≡ next
    pub left : FindsOther
        ⊎ ((at new after ≡ ended) × NoCapacityForOther old (remaining old.cur before))

  abbrev pub TakesColon : {A : Type 0} → Result A DeRonErr → Type 0
  TakesColon result = MatchResult result (λ _. Taken (pending old ∷ (colon ∷ []))) NoColon

-- ---- calls that look at the pending token

-- it is no such value
pub record Lacks (s : DeRonState) (fact : Type 0) (e : DeRonErr) : Type 0 where
  pub lacks : fact
  pub made : IsMadeAt s e

abbrev pub GivesTruth : DeRonState → Result Bool DeRonErr → Type 0
GivesTruth s result = MatchResult result (λ value. truth_of (pending s) ≡ Some value)
    (Lacks s ((value : Bool) → truth_of (pending s) ≢ Some value))

-- it is no such number; a greater one is named
pub record LacksUnsigned (s : DeRonState) (max : ℕ) (e : DeRonErr) : Type 0 where
  pub lacks : (value : ℕ) → pending s ≡ u64 value → value ≤ max → ⊥
  pub above : e.memory ≡ false → (value : ℕ) → pending s ≡ u64 value
      → string_bytes e.msg ≡ out_of_range (decimal value) (codes ">") (decimal max)
  pub made : IsMadeAt s e

abbrev pub GivesUnsigned : DeRonState → ℕ → Result ℕ DeRonErr → Type 0
GivesUnsigned s max result = MatchResult result
    (λ value. (pending s ≡ u64 value) × (value ≤ max)) (LacksUnsigned s max)

-- it is no such number; a smaller one is named, and else a greater one
pub record LacksSigned (s : DeRonState) (min max : ℤ) (e : DeRonErr) : Type 0 where
  pub lacks : (value : ℤ) → integer_of (pending s) ≡ Some value → min ≤ℤ value → value ≤ℤ max → ⊥
  pub below : e.memory ≡ false → (value : ℤ) → integer_of (pending s) ≡ Some value → value <ℤ min
      → string_bytes e.msg ≡ below_range value min
  pub above : e.memory ≡ false → (value : ℤ) → integer_of (pending s) ≡ Some value → min ≤ℤ value
      → string_bytes e.msg ≡ above_range value max
  pub made : IsMadeAt s e

abbrev pub GivesSigned : DeRonState → ℤ → ℤ → Result ℤ DeRonErr → Type 0
GivesSigned s min max result = MatchResult result
    (λ value. (integer_of (pending s) ≡ Some value) × (min ≤ℤ value) × (value ≤ℤ max))
    (LacksSigned s min max)

-- its text was taken out of the buffer, and all else is the same
pub record TookText (old new : DeRonState) (text : List ℕ) : Type 0 where
  pub is : pending old ≡ str text
  pub emptied : string_bytes new.strbuf ≡ []
  pub others : new ≡ record old { strbuf = new.strbuf }

-- it is no string
pub record LacksText (old new : DeRonState) (e : DeRonErr) : Type 0 where
  pub lacks : IsStr (pending old) → ⊥
  pub unchanged : new ≡ old
  pub made : IsMadeAt old e

-- ---- values

-- a call reads a value by what it means; an error leaves the state anywhere
abbrev pub Reads : {V A : Type 0} → (List Token → V → Type 0) → (A → V) → Position Token
    → Position Token → Result A DeRonErr → Type 0
Reads encodes means start end result = ReadsBy Cut Breaks encodes start end report means result

-- the same, and an error leaves the state at the end of the text
abbrev pub ReadsOrEnds : {V A : Type 0} → (List Token → V → Type 0) → (A → V) → Position Token
    → Position Token → Result A DeRonErr → Type 0
ReadsOrEnds encodes means start end result =
    ReadsOrEndsBy Cut Breaks encodes start end report means ended result

-- ---- values that are taken with no token pending

-- a value was taken from the text; where none was, nothing is said
abbrev pub TakesPlainly : {V A : Type 0} → (List Token → V → Type 0) → (A → V) → Place → Chars
    → Place → Chars → Option A → Type 0
TakesPlainly encodes means p i q j result = IfSome result (λ x. ((ts : List Token)
    × encodes ts (means x) × Cuts Cut ts (text_at p i) (text_at q j)) × Moves p i q j)

-- a comma is pending there
abbrev pub at_comma : Place → Chars → Position Token
at_comma p i = record { at = record { token = comma; text = text_at p i }; place = p; input = i }

-- after the pending comma an item was taken, and another comma is pending; or nothing was
abbrev pub TakesItem : {V A : Type 0} → (List Token → V → Type 0) → (A → V) → Position Token
    → Position Token → Option A → Type 0
TakesItem encodes means start end result = MatchOption result (end ≡ start)
    (λ x. TookItem Cut encodes comma start end (means x))

-- what was read is handed on: the state is unchanged, or at the end of the text where nothing was
-- read
pub record EndsOnError {A : Type 0} (old new : DeRonState) (read result : Result A DeRonErr)
    : Type 0 where
  pub same : result ≡ read
  pub state : MatchResult read (λ _. new ≡ old) (λ _. new ≡ record old { tok = Eof; cur = 0 })

-- ---- writers

-- these bytes come after what was there
abbrev pub Writes : SerRonState → SerRonState → List ℕ → Type 0
Writes old new bytes = string_bytes new.out ≡ string_bytes old.out ++ bytes
