-- An outline by its fields: how it is written, and that it is legal.
use Rattle.std.proofs.Common.{◌≡◌, ◌++◌, List, Vec, Global, map, refl}
use Rattle.nano_value.specs.Meaning.{listed}
use Rattle.nano_bin_bytes.specs.Codec.{Codec}
use Rattle.nano_bin_bytes.specs.BaseCodecs.{codec_as}
use Rattle.nano_bin.specs.ScalarCodecs.{string_codec}
use Rattle.nano_bin.specs.ContainerCodecs.{list_codec, pair_codec}
use Rattle.nano_bin_nested.proofs.NestedLaws.{written_seen, seen_legal}
use Rattle.test_nested.specs.declared.outline.Outline.{Outline}
use Rattle.test_nested.specs.declared.outline.Outline.TheViews.{out-Outline}
use Rattle.test_nested.specs.OutlineCodecs.{Section, section_layer, outline_view, outline_means}
use Rattle.test_nested.specs.OutlineCodecs.{outline_nested, outline_codec}

abbrev pub sections_codec : Codec (Vec (Section Outline) Global)
sections_codec = codec_as (λ x. x.items) (list_codec (pair_codec string_codec outline_codec))

abbrev pub notes_codec : Codec (List Outline)
notes_codec = list_codec outline_codec

pub written_fields : (x : Outline) → outline_codec.canonical.written x
    ≡ sections_codec.canonical.written (out-Outline x).sections
    ++ notes_codec.canonical.written (out-Outline x).notes
written_fields x = written_seen outline_nested x (outline_view x) refl

pub legal_fields : (x : Outline)
    → sections_codec.encoding.legal
    (listed (map (section_layer.means outline_means) (out-Outline x).sections.items))
    → notes_codec.encoding.legal (listed (map outline_means (out-Outline x).notes))
    → outline_codec.encoding.legal (outline_means x)
legal_fields x h j =
    seen_legal outline_nested x (outline_view x) refl (record {
      part = (
        listed (map (section_layer.means outline_means) (out-Outline x).sections.items),
        listed (map outline_means (out-Outline x).notes),
      );
      has = (h, j);
      is = refl;
    })
