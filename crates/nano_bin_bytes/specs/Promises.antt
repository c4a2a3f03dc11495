-- The promises on the encodings of a type.
use Rattle.std.specs.Prelude.{◌≡◌, ◌+◌, ℕ, List, [], ◌++◌, length, drop}
use Rattle.nano_value.specs.Meaning.{Meaning}
use Rattle.nano_bin_bytes.specs.declared.error.DeBinErr.{DeBinErr}
use Rattle.nano_bin_bytes.specs.declared.error.DeBinKind.TheVariants.{Memory}

-- a code stands at an offset of the bytes, whatever follows
pub record StandsAt (code bytes : List ℕ) (offset : ℕ) : Type 0 where
  pub following : List ℕ
  pub whole : drop offset bytes ≡ code ++ following

-- what was written with this code is read from there to here, and means the same
pub record ReadsBack (code : List ℕ) (start end : ℕ) (written read : Meaning) : Type 0 where
  pub same : read ≡ written
  pub moved : end ≡ start + length code

-- the same of two values, one after the other
pub record ReadsBothBack (code : List ℕ) (start end : ℕ) (first second one other : Meaning)
    : Type 0 where
  pub first_same : one ≡ first
  pub second_same : other ≡ second
  pub moved : end ≡ start + length code

-- where the code stands at the offset, the error is out of memory; the offset is as it was
pub record FailsForMemory (code bytes : List ℕ) (start end : ℕ) (error : DeBinErr) : Type 0 where
  pub memory : StandsAt code bytes start → error.kind ≡ Memory
  pub unchanged : end ≡ start

-- one encoding encodes one value
abbrev pub OneValue : {A : Type 0} → (List ℕ → A → Type 0) → Type 0
OneValue {A} encodes = (bytes : List ℕ) (x y : A) → encodes bytes x → encodes bytes y → x ≡ y

-- no encoding is a proper prefix of another
abbrev pub NoneBeginsAnother : {A : Type 0} → (List ℕ → A → Type 0) → Type 0
NoneBeginsAnother {A} encodes =
    (bytes more : List ℕ) (x y : A) → encodes bytes x → encodes (bytes ++ more) y → more ≡ []
