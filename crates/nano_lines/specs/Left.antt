-- What is left of a stream of lines.
use Rattle.std.specs.Prelude.{◌≡◌, ◌<◌, ◌≤◌, ◌-◌, ◌+◌, ◌⊎◌, true, false, ℕ}
use Rattle.std.specs.Prelude.{List, [], ◌∷◌, ◌++◌, Option, Some}
use Rattle.std.specs.Prelude.{length, drop}
use Rattle.std.specs.Io.KnownBytes.{IsAtEnd}
use Rattle.nano_text.specs.Characters.{line_feed}
use Rattle.nano_lines.specs.declared.lines.Lines.{Lines}
use Rattle.nano_lines.specs.Buffers.{unread, unread_to}
use Rattle.nano_lines.specs.Lines.{HasNoFeed}

-- the bytes of the next line that were let go of: none, unless it is too long
pub record AreLost {R : Type 0} (lines : Lines R) (lost : List ℕ) : Type 0 where
  pub none : lines.long ≡ false → lost ≡ []
  pub beyond : lines.long ≡ true → lines.limit < length lost
  pub one_line : HasNoFeed lost

module _ {R : Type 0} (remaining : R → Option (List ℕ)) where
  -- this is left of the stream: bytes of a line that is too long may be lost, then come the bytes
  -- that were read and not taken, and then those of the reader
  pub record IsLeft (lines : Lines R) (stream : List ℕ) : Type 0 where
    pub lost : List ℕ
    pub coming : List ℕ
    pub are_lost : AreLost lines lost
    pub known : remaining lines.input ≡ Some coming
    pub whole : stream ≡ lost ++ (unread lines.buffer ++ coming)

  -- all of the reader is left, from line 0 on, and no byte of a line is lost
  pub record IsAsNew (input : R) (limit : ℕ) (lines : Lines R) : Type 0 where
    pub left : (stream : List ℕ) → remaining input ≡ Some stream → IsLeft lines stream
    pub number : lines.number ≡ 0
    pub limit_is : lines.limit ≡ limit
    pub whole : lines.long ≡ false

  -- the last line ends at this place, without a line feed
  pub record IsLastAt (lines : Lines R) (place : ℕ) : Type 0 where
    pub whole : place ≡ length lines.buffer.bytes.items
    pub some : lines.long ≡ false → lines.buffer.offset < place
    pub ended : IsAtEnd (remaining lines.input)

  -- the next line ends at this place
  pub record IsWhole (lines : Lines R) (place : ℕ) : Type 0 where
    pub after : lines.buffer.offset ≤ place
    pub within : place ≤ length lines.buffer.bytes.items
    pub one_line : HasNoFeed (unread_to lines.buffer place)
    pub ends : (unread lines.buffer
        ≡ unread_to lines.buffer place ++ line_feed ∷ drop (place + 1) lines.buffer.bytes.items)
        ⊎ IsLastAt lines place

  -- nothing is left
  abbrev pub IsEnded : Lines R → Type 0
  IsEnded lines = (stream : List ℕ) → IsLeft lines stream → stream ≡ []

-- the line up to there is too long
abbrev pub IsTooLong : {R : Type 0} → Lines R → ℕ → Type 0
IsTooLong lines place = (lines.long ≡ true) ⊎ (lines.limit < place - lines.buffer.offset)
