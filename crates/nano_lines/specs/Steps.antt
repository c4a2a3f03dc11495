-- What the steps of a call for the next value do.
use Rattle.std.specs.Prelude.{◌≡◌, ◌<◌, ◌≤◌, ◌-◌, false, ℕ, List, [], ◌∷◌, Option, length, MatchOption}
use Rattle.std.specs.Io.KnownBytes.{IsAtEnd}
use Rattle.nano_text.specs.Place.{saturating_next}
use Rattle.nano_lines.specs.declared.error.Fault.{Fault}
use Rattle.nano_lines.specs.declared.error.Fault.TheVariants.{Long, Stream}
use Rattle.nano_lines.specs.declared.lines.Lines.{Lines}
use Rattle.nano_lines.specs.Buffers.{unread, unread_to}
use Rattle.nano_lines.specs.Faults.{IsOfStream}
use Rattle.nano_lines.specs.Left.{IsLeft, IsWhole, IsEnded, IsTooLong}
use Rattle.nano_lines.specs.Lines.{HasNoFeed, BeginsWithLines}

-- the number of the line after these
abbrev pub number_after : ℕ → List (List ℕ) → ℕ
number_after number [] = number
number_after number (line ∷ lines) = number_after (saturating_next number) lines

module _ {R : Type 0} (remaining : R → Option (List ℕ)) (old new : Lines R) where
  -- what is left after these lines
  abbrev pub Follows : List (List ℕ) → List ℕ → Type 0
  Follows lines stream =
      (rest : List ℕ) × BeginsWithLines lines stream rest × IsLeft remaining new rest

  -- these lines were taken
  pub record TakesLines (lines : List (List ℕ)) : Type 0 where
    pub left : (stream : List ℕ) → IsLeft remaining old stream → Follows lines stream
    pub number : new.number ≡ number_after old.number lines
    pub limit : new.limit ≡ old.limit

  -- no line was taken
  abbrev pub KeepsAll : Type 0
  KeepsAll = TakesLines []

  -- a line was taken that is longer than the limit
  pub record TakesLongLine : Type 0 where
    pub left : (stream : List ℕ) → IsLeft remaining old stream
        → (line : List ℕ) × Follows (line ∷ []) stream × (old.limit < length line)
    pub number : new.number ≡ saturating_next old.number
    pub limit : new.limit ≡ old.limit

  -- the line that ends there was taken
  pub record TakesLine (place : ℕ) : Type 0 where
    pub short : old.long ≡ false → TakesLines (unread_to old.buffer place ∷ [])
    pub beyond : IsTooLong old place → TakesLongLine
    pub whole : new.long ≡ false

  -- no line was taken, and the next one ends there and is not too long; or nothing is left
  pub record Finds (found : Option ℕ) : Type 0 where
    pub unchanged : KeepsAll
    pub whole : new.long ≡ false
    pub is : MatchOption found (IsEnded remaining new)
        (λ place. IsWhole remaining new place × (length (unread_to new.buffer place) ≤ new.limit))

  -- the next line is too long, and it was taken; or a read or an allocation failed, and nothing was
  abbrev pub FindsNone : Fault → Type 0
  FindsNone (Long number) = (number ≡ old.number) × TakesLongLine
  FindsNone (Stream error) = KeepsAll
  FindsNone _ = ⊥

  -- so many bytes were read, none only at the end
  pub record Reads (count : ℕ) : Type 0 where
    pub unchanged : KeepsAll
    pub nothing : count ≡ 0 → unread new.buffer ≡ unread old.buffer
    pub ended : count ≡ 0 → IsAtEnd (remaining new.input)

  -- a read or an allocation failed
  pub record ReadFails (fault : Fault) : Type 0 where
    pub is : IsOfStream fault
    pub unchanged : KeepsAll

  -- bytes of a line that is too long may be let go of
  pub record Forgets : Type 0 where
    pub unchanged : KeepsAll
    pub one_line : HasNoFeed (unread new.buffer)

-- all of a line is read, and it is not too long
pub record IsWithin {R : Type 0} (old new : Lines R) (place : ℕ) : Type 0 where
  pub same : new ≡ old
  pub whole : old.long ≡ false
  pub fits : place - old.buffer.offset ≤ old.limit

-- all is read, and the last line has no line feed
pub record IsAtLast {R : Type 0} (remaining : R → Option (List ℕ)) (lines : Lines R) : Type 0 where
  pub one_line : HasNoFeed (unread lines.buffer)
  pub ended : IsAtEnd (remaining lines.input)
