-- A command by its tag and its content.
use Rattle.test_types.specs.declared.command.Command.{Command}
use Rattle.test_types.specs.declared.command.Command.TheVariants.{Stop, Move, Wait}
use Rattle.nano_bin.specs.ScalarCodecs.{unit_codec, u32_codec, u64_codec, string_codec}
use Rattle.nano_bin.specs.Codec.{Codec}
use Rattle.nano_bin.specs.BaseCodecs.{codec_as}
use Rattle.nano_bin.specs.ContainerCodecs.{pair_codec, tagged_codec}
use Rattle.nano_bin.specs.Variants.{Variants, no_variants, variant, body, Tagged}
use Rattle.std.proofs.Common.{lit≤}

-- what comes after the tags 0, 1 and 2
abbrev pub variants : Variants
variants =
    variant (body {A = Unit {0}} unit_codec)
    (variant (body (pair_codec u32_codec string_codec))
    (variant (body u64_codec)
    no_variants))

abbrev pub tagged : Command → Tagged variants
tagged Stop = record { tag = 0; fields = tt }
tagged (Move steps name) = record { tag = 1; fields = (steps, name) }
tagged (Wait time) = record { tag = 2; fields = time }

abbrev pub command_codec : Codec Command
command_codec = codec_as tagged (tagged_codec variants (lit≤ tt))
