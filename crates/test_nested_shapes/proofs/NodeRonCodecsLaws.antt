-- Written by derive_files: what is proved of types that contain themselves.
use Rattle.std.specs.Prelude.{◌≡◌, ℕ, List, refl, codes, Box, String, Vec, string_cmp}
use Rattle.std.specs.BTreeSet.{BTreeSet}
use Rattle.std.specs.HashMap.{HashMap}
use Rattle.std.specs.HashSet.{HashSet}
use Rattle.std.specs.declared.hash.BuildHasherDefault.{BuildHasherDefault}
use Rattle.std.specs.declared.hash.FoldHasher.{FoldHasher}
use Rattle.std.specs.Global.{Global}
use Rattle.nano_meaning.proofs.OrderLaws.{texts, wholes}
use Rattle.nano_schema.specs.declared.choices.Either.TheVariants.{First, Later}
use Rattle.nano_grammar.specs.FieldCodec.{WrittenField, fields_text}
use Rattle.nano_schema_levels.proofs.NestedLaws.{text_seen}
use Rattle.std.specs.Prelude.{chars}
use Rattle.nano_ron.specs.Codec.{codec_as}
use Rattle.nano_ron.specs.ContainerCodecs.{array_codec, linked_codec, map_codec, ordered_codec, pair_codec, set_codec, triple_codec}
use Rattle.nano_ron_tokens.specs.Token.{Token}
use Rattle.nano_ron_schema.specs.FieldCodecs.{required_field, ron_fields}
use Rattle.nano_ron_schema.specs.Variants.{content_text}
use Rattle.nano_ron_nested.specs.TypeCodecs.{list_codec, u8_codec, u16_codec, u32_codec, i32_codec, string_codec}
use Rattle.test_nested_shapes.specs.declared.node.Node.{Node}
use Rattle.test_nested_shapes.specs.NodeCodecs.{node_view}
use Rattle.test_nested_shapes.specs.NodeRonCodecs.{node_ron_nested, node_ron, node_ron_fields}
use Rattle.test_nested_shapes.specs.declared.node.Node.TheViews.{out-Node}
use Rattle.test_nested_shapes.specs.declared.node.Trail.{Trail}
use Rattle.test_nested_shapes.specs.NodeCodecs.{trail_view}
use Rattle.test_nested_shapes.specs.NodeRonCodecs.{trail_ron_nested, trail_ron}
use Rattle.test_nested_shapes.proofs.NodeCodecsLaws.{trail_view_end, trail_view_through}
use Rattle.test_nested_shapes.specs.declared.node.Trail.{End as Trail-End}
use Rattle.test_nested_shapes.specs.declared.node.Trail.{Through as Trail-Through}

-- ==== Node

abbrev pub node_ron_field_name : Node → List (WrittenField Token)
node_ron_field_name x =
    (required_field (codes "name") string_codec).canonical.fields (out-Node x).name

abbrev pub node_ron_field_at : Node → List (WrittenField Token)
node_ron_field_at x =
    (required_field (codes "at") (array_codec 3 i32_codec)).canonical.fields (out-Node x).at

abbrev pub node_ron_field_size : Node → List (WrittenField Token)
node_ron_field_size x =
    (required_field (codes "size") (pair_codec u32_codec u32_codec)).canonical.fields (out-Node x).size

abbrev pub node_ron_field_tags : Node → List (WrittenField Token)
node_ron_field_tags x =
    (required_field (codes "tags") (codec_as (λ (x : BTreeSet (String Global)). x.keys) (ordered_codec texts string_cmp string_codec))).canonical.fields (out-Node x).tags

abbrev pub node_ron_field_effects : Node → List (WrittenField Token)
node_ron_field_effects x =
    (required_field (codes "effects") (codec_as (λ (x : HashMap (String Global) ℕ (BuildHasherDefault FoldHasher)). x.entries) (map_codec texts string_codec u32_codec))).canonical.fields (out-Node x).effects

abbrev pub node_ron_field_children : Node → List (WrittenField Token)
node_ron_field_children x =
    (required_field (codes "children") (codec_as (λ (x : Vec Node Global). x.items) (list_codec node_ron))).canonical.fields (out-Node x).children

abbrev pub node_ron_written : Node → List (WrittenField Token)
node_ron_written x =
    (node_ron_fields.codec node_ron).canonical.fields (node_view x)

pub node_ron_text : (d : ℕ) → (x : Node) → node_ron.canonical.text d x
    ≡ fields_text ron_fields d (node_ron_written x)
node_ron_text d x = text_seen node_ron_nested 128 d x (node_view x) refl

-- ==== Trail

pub trail_ron_text_end : (d : ℕ)
    → trail_ron.canonical.text d Trail-End
    ≡ chars (codes "End")
trail_ron_text_end d =
    text_seen trail_ron_nested 128 d Trail-End (First (tt {0})) trail_view_end

pub trail_ron_text_through : (d : ℕ)
    → (v0 : List ((String Global) × ℕ))
    → (v1 : HashSet ℕ (BuildHasherDefault FoldHasher))
    → (v2 : Box Trail Global)
    → trail_ron.canonical.text d (Trail-Through v0 v1 v2)
    ≡ content_text (codes "Through") ((triple_codec (linked_codec (pair_codec string_codec u8_codec)) (codec_as (λ (x : HashSet ℕ (BuildHasherDefault FoldHasher)). x.keys) (set_codec wholes u16_codec)) (codec_as (λ (x : Box Trail Global). x.value) trail_ron)).canonical.text d (v0, v1, v2))
trail_ron_text_through d v0 v1 v2 =
    text_seen trail_ron_nested 128 d (Trail-Through v0 v1 v2) (Later (v0, (v1, v2))) (trail_view_through v0 v1 v2)

pub ruleset trail_ron_texts = (trail_ron_text_end, trail_ron_text_through)
