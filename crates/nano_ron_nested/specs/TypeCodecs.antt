-- Codecs of the types that a part of a type that contains itself may have, by the names of these
-- types.
use Rattle.std.specs.Prelude.{ℕ, ℤ, List, String, string_bytes}
use Rattle.std.specs.Global.{Global}
use Rattle.std.specs.Int.{w8, w16, w32, w64}
use Rattle.nano_ron.specs.Codec.{Codec, codec_as}
use Rattle.nano_ron.specs.ContainerCodecs.{vector_codec}
use Rattle.nano_ron.specs.ScalarCodecs.{unsigned_codec, signed_codec, text_codec}
use Rattle.nano_ron.specs.ScalarCodecs.{below_8, below_16, below_32, below_64}
use Rattle.nano_ron.specs.ScalarCodecs.{within_8, within_16, within_32, within_64}

abbrev pub u8_codec : Codec ℕ
u8_codec = unsigned_codec 8 below_8

abbrev pub u16_codec : Codec ℕ
u16_codec = unsigned_codec 16 below_16

abbrev pub u32_codec : Codec ℕ
u32_codec = unsigned_codec 32 below_32

abbrev pub u64_codec : Codec ℕ
u64_codec = unsigned_codec 64 below_64

abbrev pub usize_codec : Codec ℕ
usize_codec = unsigned_codec 64 below_64

abbrev pub i8_codec : Codec ℤ
i8_codec = signed_codec w8 within_8

abbrev pub i16_codec : Codec ℤ
i16_codec = signed_codec w16 within_16

abbrev pub i32_codec : Codec ℤ
i32_codec = signed_codec w32 within_32

abbrev pub i64_codec : Codec ℤ
i64_codec = signed_codec w64 within_64

abbrev pub string_codec : Codec (String Global)
string_codec = codec_as (λ x. string_bytes x) text_codec

abbrev pub list_codec : {A : Type 0} → Codec A → Codec (List A)
list_codec = vector_codec
