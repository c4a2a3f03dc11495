-- The codec of a user-defined struct as bytes.
use Rattle.nano_bin_bytes.specs.Codec.{Codec}
-- what a tuple struct needs, passed on
pub use Rattle.nano_bin_bytes.specs.BaseCodecs.{codec_as}
pub use Rattle.nano_bin_bytes.proofs.CodecLaws.{both_are_read}

-- a struct as the values of its fields, and their format
abbrev pub bin_of : {A B : Type 0} (view : A → B) (fields : Codec B) → Codec A
bin_of view fields = codec_as view fields
