-- The bytes that were read and are not yet taken.
use Rattle.std.specs.Prelude.{◌≡◌, ◌<◌, ◌≤◌, ◌+◌, ℕ, List, ◌∷◌, ◌++◌, length, drop, slice_range}
use Rattle.nano_text.specs.Characters.{line_feed}
use Rattle.nano_lines.specs.declared.buffer.Buffer.{Buffer}
use Rattle.nano_lines.specs.Lines.{HasNoFeed}

abbrev pub unread : Buffer → List ℕ
unread buffer = drop buffer.offset buffer.bytes.items

-- those before a place
abbrev pub unread_to : Buffer → ℕ → List ℕ
unread_to buffer place = slice_range buffer.bytes.items buffer.offset place

-- the first line feed of them stands at this place
pub record IsFeedAt (buffer : Buffer) (place : ℕ) : Type 0 where
  pub after : buffer.offset ≤ place
  pub within : place < length buffer.bytes.items
  pub one_line : HasNoFeed (unread_to buffer place)
  pub split : unread buffer
      ≡ unread_to buffer place ++ line_feed ∷ drop (place + 1) buffer.bytes.items
