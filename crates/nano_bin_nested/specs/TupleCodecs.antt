-- Codecs of arrays and of tuples as bytes, with their arguments in the order that they have in the
-- formats of texts.
use Rattle.std.specs.Prelude.{ℕ, List}
use Rattle.nano_bin_bytes.specs.Codec.{Codec}
use Rattle.nano_bin_bytes.specs.BaseCodecs.{codec_as}
use Rattle.nano_bin.specs.ContainerCodecs.{array_codec as codec_of_count, pair_codec}

abbrev pub array_codec : {A : Type 0} → ℕ → Codec A → Codec (List A)
array_codec count f = codec_of_count f count

abbrev pub triple_codec : {A B C : Type 0} → Codec A → Codec B → Codec C → Codec (A × B × C)
triple_codec a b c = codec_as (λ x. (x.0, (x.1, x.2))) (pair_codec a (pair_codec b c))

abbrev pub quadruple_codec : {A B C D : Type 0} → Codec A → Codec B → Codec C → Codec D
    → Codec (A × B × C × D)
quadruple_codec a b c d =
    codec_as (λ x. (x.0, (x.1, (x.2, x.3)))) (pair_codec a (pair_codec b (pair_codec c d)))
