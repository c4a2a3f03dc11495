-- What a reader of bytes answers, given the encodings of its type.
use Rattle.std.specs.Prelude.{◌≡◌, ◌≢◌, ◌+◌, ℕ, List, ◌++◌, length, drop, ◌<◌, ◌≤◌, ◌⊎◌, take}
use Rattle.std.specs.Prelude.{IsUtf8, codes, ◌*◌, ◌/◌, []}
use Rattle.std.specs.Fmt.{decimal}
use Rattle.nano_bin_bytes.specs.declared.error.DeBinErr.{DeBinErr}
use Rattle.nano_bin_bytes.specs.declared.error.DeBinKind.TheVariants.{Memory, TooShort, NotUtf8}
use Rattle.nano_bin_bytes.specs.declared.error.DeBinKind.TheVariants.{Own, TrailingBytes}
use Rattle.nano_bin_bytes.specs.declared.error.DeBinKind.{DeBinKind}
use Rattle.nano_bin_bytes.specs.Scalars.{EncodesNumber}
use Rattle.nano_bin_bytes.specs.Containers.{IsTextOf, EncodesString}

-- a prefix of the bytes encodes the value, and the rest comes after it
pub record DecodesTo {A : Type 0} (encodes : List ℕ → A → Type 0) (bytes : List ℕ)
    (value : A) : Type 0 where
  pub prefix : List ℕ
  pub rest : List ℕ
  pub whole : bytes ≡ prefix ++ rest
  pub is_encoded : encodes prefix value

-- no prefix of the bytes encodes a value
abbrev pub DecodesToNothing : {A : Type 0} → (List ℕ → A → Type 0) → List ℕ → Type 0
DecodesToNothing {A} encodes bytes = (value : A) → DecodesTo encodes bytes value → ⊥

-- the bytes from one offset to another encode the value
pub record Decodes {A : Type 0} (encodes : List ℕ → A → Type 0) (bytes : List ℕ) (start : ℕ)
    (value : A) (end : ℕ) : Type 0 where
  pub prefix : List ℕ
  pub whole : drop start bytes ≡ prefix ++ drop end bytes
  pub moved : end ≡ start + length prefix
  pub is_encoded : encodes prefix value

-- an error other than out of memory: no prefix of the bytes is such an encoding
abbrev pub Rejects : {A : Type 0} → (List ℕ → A → Type 0) → List ℕ → DeBinErr → Type 0
Rejects encodes bytes error = error.kind ≢ Memory → DecodesToNothing encodes bytes

-- so many bytes that the error still holds: none where they are too few, else any
abbrev pub MayFollow : List ℕ → DeBinErr → Type 0
MayFollow more error = error.kind ≡ TooShort → more ≡ []

-- an error other than out of memory: nothing decodes, whatever bytes come to follow these. That
-- they are too few is said of these bytes alone
abbrev pub RejectsWithMore : {A : Type 0} → (List ℕ → A → Type 0) → List ℕ → DeBinErr → Type 0
RejectsWithMore encodes bytes error =
    (more : List ℕ) → error.kind ≢ Memory → MayFollow more error
    → DecodesToNothing encodes (bytes ++ more)

-- ==== the errors of readers

-- an error at a place, where this many bytes were wanted among all of them
abbrev pub rejection : DeBinKind → ℕ → ℕ → List ℕ → DeBinErr
rejection kind place wanted bytes = record { o = place; l = wanted; s = length bytes; kind = kind }

-- fewer bytes are left at the place than wanted
pub record IsTooShort (bytes : List ℕ) (place wanted : ℕ) (error : DeBinErr) : Type 0 where
  pub left : length (drop place bytes) < wanted
  pub is : error ≡ rejection TooShort place wanted bytes

-- the wanted bytes are there, and no UTF-8
pub record IsNotUtf8 (bytes : List ℕ) (place wanted : ℕ) (error : DeBinErr) : Type 0 where
  pub left : wanted ≤ length (drop place bytes)
  pub wrong : IsUtf8 (take wanted (drop place bytes)) → ⊥
  pub is : error ≡ rejection NotUtf8 place wanted bytes

-- what an error of a reader that began at this offset tells besides its kind: how many bytes
-- there are in all, a place that is not before the offset, and what is wrong there
pub record IsReport (bytes : List ℕ) (start : ℕ) (error : DeBinErr) : Type 0 where
  pub size : error.s ≡ length bytes
  pub place : start ≤ error.o
  pub too_short : error.kind ≡ TooShort → IsTooShort bytes error.o error.l error
  pub not_utf8 : error.kind ≡ NotUtf8 → IsNotUtf8 bytes error.o error.l error
  pub memory : error.kind ≡ Memory → error.l ≡ 0

-- so many bytes of UTF-8 do not stand at the place: they are cut short, or they are no UTF-8
abbrev pub IsTextFault : List ℕ → ℕ → ℕ → DeBinErr → Type 0
IsTextFault bytes place count error =
    error.kind ≢ Memory → IsTooShort bytes place count error ⊎ IsNotUtf8 bytes place count error

-- out of memory: nothing is wanted of the bytes at the place
abbrev pub IsMemoryFault : List ℕ → ℕ → DeBinErr → Type 0
IsMemoryFault bytes place error = error.kind ≡ Memory → error ≡ rejection Memory place 0 bytes

-- a run of numbers is cut short: the first that is not whole stands at the place
abbrev pub IsRunFault : List ℕ → ℕ → ℕ → DeBinErr → Type 0
IsRunFault bytes place width error = error.kind ≢ Memory → IsTooShort bytes place width error

-- no text stands at the place: its length is cut short, or its bytes are, or they are no UTF-8
abbrev pub IsTextRejection : List ℕ → ℕ → DeBinErr → Type 0
IsTextRejection bytes place error =
    IsTooShort bytes place 8 error
    ⊎ ((count following : ℕ) × Decodes (EncodesNumber 8) bytes place count following
    × (IsTooShort bytes following count error ⊎ IsNotUtf8 bytes following count error))

-- the kind of an error within a value, where `TrailingBytes` is about what comes after the
-- value
abbrev pub kind_within : DeBinKind → DeBinKind
kind_within TrailingBytes = Own
kind_within kind = kind

abbrev pub own_error : DeBinErr → DeBinErr
own_error error = record error { kind = kind_within error.kind }

-- what Debug and Display print
abbrev pub printed : DeBinErr → List ℕ
printed e =
    codes "Bin deserialize error at:"
    ++ (decimal e.o
    ++ (codes " wanted:" ++ (decimal e.l ++ (codes " bytes but max size is " ++ decimal e.s))))

-- ==== errors

-- whatever is read
pub record ReadsNone {A : Type 0} (encodes : List ℕ → A → Type 0) (bytes : List ℕ) (start end : ℕ)
    (error : DeBinErr) : Type 0 where
  pub rejects : RejectsWithMore encodes (drop start bytes) error
  pub report : IsReport bytes start error
  pub unchanged : end ≡ start

-- what takes no memory and any bytes, where only too few of them reject it: these are wanted at
-- the place
pub record ReadsNoneWhereShort {A : Type 0} (encodes : List ℕ → A → Type 0) (bytes : List ℕ)
    (start end place wanted : ℕ) (error : DeBinErr) : Type 0 where
  pub none : ReadsNone encodes bytes start end error
  pub short : IsTooShort bytes place wanted error

-- a count of numbers of a width: the first that is cut short, or memory for all of them
pub record ReadsNoRun {A : Type 0} (encodes : List ℕ → A → Type 0) (bytes : List ℕ)
    (start end count width : ℕ) (error : DeBinErr) : Type 0 where
  pub none : ReadsNone encodes bytes start end error
  pub short : IsRunFault bytes (start + length (drop start bytes) / width * width) width error
  pub memory : IsMemoryFault bytes (start + count * width) error

-- so many bytes of text
pub record ReadsNoStringOf (count : ℕ) (bytes : List ℕ) (start end : ℕ) (error : DeBinErr)
    : Type 0 where
  pub none : ReadsNone (IsTextOf count) bytes start end error
  pub fault : IsTextFault bytes start count error
  pub memory : IsMemoryFault bytes start error

-- a text after its length
pub record ReadsNoString (bytes : List ℕ) (start end : ℕ) (error : DeBinErr) : Type 0 where
  pub none : ReadsNone EncodesString bytes start end error
  pub fault : error.kind ≢ Memory → IsTextRejection bytes start error

-- ==== whole inputs

-- an error other than out of memory: all the bytes together encode no value
abbrev pub RejectsWhole : {A : Type 0} → (List ℕ → A → Type 0) → List ℕ → DeBinErr → Type 0
RejectsWhole {A} encodes bytes error = error.kind ≢ Memory → (value : A) → encodes bytes value → ⊥

-- the same whatever bytes come to follow these; that they are too few is said of these alone
abbrev pub RejectsWholeWithMore :
    {A : Type 0} → (List ℕ → A → Type 0) → List ℕ → DeBinErr → Type 0
RejectsWholeWithMore {A} encodes bytes error =
    (more : List ℕ) → error.kind ≢ Memory → MayFollow more error
    → (value : A) → encodes (bytes ++ more) value → ⊥

-- a prefix of the bytes encodes a value, bytes follow it, and the error reports where
pub record ReportsTrailing {A : Type 0} (encodes : List ℕ → A → Type 0) (bytes : List ℕ)
    (error : DeBinErr) : Type 0 where
  pub value : A
  pub fits : DecodesTo encodes bytes value
  pub more : fits.rest ≢ []
  pub is : error ≡ rejection TrailingBytes (length fits.prefix) 0 bytes

-- an error of this kind reports this
abbrev pub IsOfTrailing : {A : Type 0} → (List ℕ → A → Type 0) → List ℕ → DeBinErr → Type 0
IsOfTrailing encodes bytes error =
    error.kind ≡ TrailingBytes → ReportsTrailing encodes bytes error

-- where a prefix of the bytes encodes a value, an error other than out of memory is of this
-- kind
abbrev pub NamesTrailing : {A : Type 0} → (List ℕ → A → Type 0) → List ℕ → DeBinErr → Type 0
NamesTrailing {A} encodes bytes error =
    error.kind ≢ Memory → (value : A) → DecodesTo encodes bytes value → error.kind ≡ TrailingBytes
