-- Frames: each is the code of a list of bytes, and these are the code of a message.
use Rattle.std.specs.Prelude.{◌≡◌, ◌≢◌, ℕ, List, [], ◌++◌, length, map, Option}
use Rattle.std.specs.Io.KnownBytes.{Appends, Consumes, Keeps, IsAtEnd}
use Rattle.std.specs.IoError.{error_kind}
use Rattle.std.specs.declared.io.Error.{Error}
use Rattle.std.specs.declared.io.ErrorKind.TheVariants.{Interrupted}
use Rattle.nano_value.specs.Meaning.{Meaning, whole, listed}
use Rattle.nano_bin_bytes.specs.declared.error.DeBinErr.{DeBinErr}
use Rattle.nano_bin_bytes.specs.declared.error.DeBinKind.TheVariants.{Memory}
use Rattle.nano_bin_bytes.specs.Reading.{RejectsWhole, IsOfTrailing, NamesTrailing, IsReport}
use Rattle.nano_bin_bytes.specs.Reading.{RejectsWholeWithMore}
use Rattle.nano_bin_bytes.specs.Scalars.{little_endian, EncodesUnsigned}
use Rattle.nano_bin_bytes.specs.Containers.{EncodesAll, written_list}
use Rattle.nano_bin_frames.specs.declared.error.Fault.{Fault}
use Rattle.nano_bin_frames.specs.declared.error.Fault.TheVariants.{Cut, Bad, Stream}

-- the bytes are the code of a list of bytes
abbrev pub IsFrame : List ℕ → List ℕ → Type 0
IsFrame bytes code = EncodesAll listed (EncodesUnsigned 1) bytes (listed (map whole code))

-- the frame of a code
abbrev pub frame_of : List ℕ → List ℕ
frame_of = written_list (little_endian 1)

-- a writer got the bytes up to a rest, and nothing else
pub record WritesUpTo (rest : List ℕ) (old new : Option (List ℕ)) (bytes : List ℕ)
    : Type 0 where
  pub prefix : List ℕ
  pub whole : bytes ≡ prefix ++ rest
  pub written : Appends old new prefix

-- an error of a writer, which got the bytes up to a rest that is not empty, and nothing else; a
-- write that was interrupted is tried again
pub record WriteStops (bytes : List ℕ) (old new : Option (List ℕ)) (error : Error) : Type 0 where
  pub rest : List ℕ
  pub some : rest ≢ []
  pub written : WritesUpTo rest old new bytes
  pub retried : error_kind error ≢ Interrupted

-- a writer got a frame of this code, and nothing else
pub record AppendsFrame (code : List ℕ) (old new : Option (List ℕ)) : Type 0 where
  pub frame : List ℕ
  pub is : IsFrame frame code
  pub written : Appends old new frame

-- a reader gave nothing: the bytes are the same, and it is where it was
pub record ReadsNothing (known left : Option (List ℕ)) (old new : List ℕ) : Type 0 where
  pub same : new ≡ old
  pub unchanged : Keeps known left

-- a reader gave this many bytes, none only at its end, and they come after the others
pub record DecodesAfter (known left : Option (List ℕ)) (old new : List ℕ) (count : ℕ) : Type 0 where
  pub came : List ℕ
  pub following : new ≡ old ++ came
  pub consumed : Consumes known left came
  pub many : length came ≡ count
  pub ended : count ≡ 0 → IsAtEnd left

-- a frame was taken whose bytes encode the message
pub record TakesMessage (encodes : List ℕ → Meaning → Type 0) (old new : Option (List ℕ))
    (m : Meaning) : Type 0 where
  pub frame : List ℕ
  pub code : List ℕ
  pub is : IsFrame frame code
  pub taken : Consumes old new frame
  pub is_encoded : encodes code m

-- the bytes begin with a frame of this code
pub record BeginsWithFrame (bytes code : List ℕ) : Type 0 where
  pub frame : List ℕ
  pub rest : List ℕ
  pub whole : bytes ≡ frame ++ rest
  pub is : IsFrame frame code

-- there are bytes, and no frame at their beginning
pub record IsCut (bytes : List ℕ) : Type 0 where
  pub some : bytes ≢ []
  pub none : (code : List ℕ) → BeginsWithFrame bytes code → ⊥

-- the bytes begin with a frame, and its content encodes no message
pub record HoldsNoMessage (encodes : List ℕ → Meaning → Type 0) (bytes : List ℕ) : Type 0 where
  pub code : List ℕ
  pub begins : BeginsWithFrame bytes code
  pub none : (m : Meaning) → encodes code m → ⊥

-- the error of reading a code as a whole, other than out of memory
pub record RejectsCode (encodes : List ℕ → Meaning → Type 0) (code : List ℕ) (error : DeBinErr)
    : Type 0 where
  pub report : IsReport code 0 error
  pub not_memory : error.kind ≢ Memory
  pub rejects : RejectsWhole encodes code error
  pub more : RejectsWholeWithMore encodes code error
  pub trailing : IsOfTrailing encodes code error
  pub following : NamesTrailing encodes code error

-- the bytes begin with a frame, and this is the error of reading its code
pub record RejectsFrame (encodes : List ℕ → Meaning → Type 0) (error : DeBinErr) (bytes : List ℕ)
    : Type 0 where
  pub code : List ℕ
  pub begins : BeginsWithFrame bytes code
  pub rejects : RejectsCode encodes code error

-- ==== faults of the reader and of memory, and what a rejected code carries

-- a read failed, or allocation failed
abbrev pub IsOfStream : Fault → Type 0
IsOfStream fault = (error : Error) × (fault ≡ Stream error)

-- the error, with the size of this code
abbrev pub of_code : List ℕ → DeBinErr → DeBinErr
of_code code error = record error { s = length code }

-- why a code is no message: a fault that carries an error carries that of reading the code
pub record IsFaultOf (encodes : List ℕ → Meaning → Type 0) (code : List ℕ) (fault : Fault)
    : Type 0 where
  pub bad : (error : DeBinErr) → fault ≡ Bad error → RejectsCode encodes code error
  pub not_cut : fault ≢ Cut
