-- What a call for the next message answers, and what its steps do.
use Rattle.std.specs.Prelude.{◌≡◌, ℕ, List, Option, IfSome, IfNone, drop, ◌↔◌, [], ◌∷◌, ◌++◌, Some}
use Rattle.std.specs.Io.KnownBytes.{Keeps, IsAtEnd}
use Rattle.nano_value.specs.Meaning.{Meaning}
use Rattle.nano_bin_bytes.specs.declared.error.DeBinErr.{DeBinErr}
use Rattle.nano_bin_frames.specs.declared.error.Fault.{Fault}
use Rattle.nano_bin_frames.specs.declared.error.Fault.TheVariants.{Cut, Bad}
use Rattle.nano_bin_frames.specs.declared.frames.Messages.{Messages}
use Rattle.nano_bin_frames.specs.Frames.{IsOfStream, TakesMessage, IsCut, HoldsNoMessage}
use Rattle.nano_bin_frames.specs.Frames.{RejectsFrame, IsFrame, AppendsFrame}
use Rattle.nano_bin_frames.specs.Left.{left, chunk_size}
use Rattle.nano_bin_bytes.specs.Containers.{EncodesItems}

-- the next message is taken with its frame; or there is none, the stream is at its end, and it is
-- as it was
pub record Answers {R T : Type 0} (remaining : R → Option (List ℕ))
    (encodes : List ℕ → Meaning → Type 0) (means : T → Meaning) (old new : Messages R)
    (answer : Option T) : Type 0 where
  pub taken : IfSome answer (λ message.
      TakesMessage encodes (left remaining old) (left remaining new) (means message))
  pub ended : IfNone answer (IsAtEnd (left remaining old))
  pub unchanged : IfNone answer (Keeps (left remaining old) (left remaining new))
  pub size : chunk_size new ≡ chunk_size old

-- why no message is taken, and that nothing was
pub record TakesNothing {R : Type 0} (remaining : R → Option (List ℕ))
    (encodes : List ℕ → Meaning → Type 0) (old new : Messages R) (fault : Fault) : Type 0 where
  pub cut : fault ≡ Cut → IfSome (left remaining old) IsCut
  pub bad : (error : DeBinErr) → fault ≡ Bad error
      → IfSome (left remaining old) (HoldsNoMessage encodes)
  pub rejected : (error : DeBinErr) → fault ≡ Bad error
      → IfSome (left remaining old) (RejectsFrame encodes error)
  pub unchanged : Keeps (left remaining old) (left remaining new)
  pub size : chunk_size new ≡ chunk_size old

-- ---- the steps

-- a read failed, and nothing was taken
pub record ReadFails {R : Type 0} (remaining : R → Option (List ℕ)) (old new : Messages R)
    (fault : Fault) : Type 0 where
  pub is : IsOfStream fault
  pub unchanged : Keeps (left remaining old) (left remaining new)

-- the bytes that are left stand at the beginning, and nothing else changed
pub record Forgets {R : Type 0} (old new : Messages R) : Type 0 where
  pub same : drop new.offset new.bytes.items ≡ drop old.offset old.bytes.items
  pub input : new.input ≡ old.input
  pub offset : new.offset ≡ 0
  pub chunk : new.chunk ≡ old.chunk

-- ==== what is taken from streams that begin with frames of messages

-- the bytes are frames of these codes, one after the other
abbrev pub AreFrames : List ℕ → List (List ℕ) → Type 0
AreFrames = EncodesItems IsFrame

-- a writer got a frame of each of these codes, one after the other
abbrev pub AppendsFrames : List (List ℕ) → Option (List ℕ) → Option (List ℕ) → Type 0
AppendsFrames [] old new = Keeps old new
AppendsFrames (code ∷ codes) old new =
    (between : Option (List ℕ)) × AppendsFrame code old between × AppendsFrames codes between new

-- frames of these codes come after what was there
pub record AddsFrames (codes : List (List ℕ)) (before after : List ℕ) : Type 0 where
  pub stream : List ℕ
  pub following : after ≡ before ++ stream
  pub are : AreFrames stream codes

-- two frames that begin one stream are one frame, of one code, and what comes after them is
-- one rest
pub record AreOneFrame (frame other rest more code others : List ℕ) : Type 0 where
  pub frames : frame ≡ other
  pub rests : rest ≡ more
  pub codes : code ≡ others

module _ (encodes : List ℕ → Meaning → Type 0) where
  -- what is left of a stream begins neither with a cut frame nor with one that holds no message
  pub record IsFaultless (stream : List ℕ) : Type 0 where
    pub not_cut : IsCut stream → ⊥
    pub not_bad : HoldsNoMessage encodes stream → ⊥

  -- the message is taken from the stream and the rest is left, and nothing else comes of it
  pub record BeginsWithMessage (stream : List ℕ) (m : Meaning) (rest : List ℕ) : Type 0 where
    pub taken : TakesMessage encodes (Some stream) (Some rest) m
    pub same : (n : Meaning) (new : Option (List ℕ)) → TakesMessage encodes (Some stream) new n → n
        ≡ m
    pub rest_is_left :
        (n : Meaning) (new : Option (List ℕ)) → TakesMessage encodes (Some stream) new n
        → Keeps (Some rest) new
    pub faultless : IsFaultless stream
    pub not_ended : IsAtEnd (Some stream) → ⊥

  -- these messages were taken, one after the other
  abbrev pub TakesMessages : List Meaning → Option (List ℕ) → Option (List ℕ) → Type 0
  TakesMessages [] old new = Keeps old new
  TakesMessages (m ∷ ms) old new =
      (between : Option (List ℕ)) × TakesMessage encodes old between m
      × TakesMessages ms between new

  -- where some were taken and this is left: they are the first of all, no fault stands there, and
  -- the end does exactly where they are all
  pub record IsOnTheWay (all some : List Meaning) (left : List ℕ) : Type 0 where
    pub others : List Meaning
    pub in_order : all ≡ some ++ others
    pub faultless : IsFaultless left
    pub ended : IsAtEnd (Some left) ↔ (others ≡ [])

  -- all are taken from the stream, one after the other, up to its end, and no other result is
  -- possible
  pub record GivesMessages (stream : List ℕ) (all : List Meaning) : Type 0 where
    pub taken : TakesMessages all (Some stream) (Some [])
    pub on_the_way :
        (some : List Meaning) (left : List ℕ) → TakesMessages some (Some stream) (Some left)
        → IsOnTheWay all some left
    pub to_the_end : (some : List Meaning) → TakesMessages some (Some stream) (Some []) → some ≡ all
