-- Written by derive_files: what is proved of types that contain themselves.
use Rattle.std.specs.Prelude.{◌≡◌, ◌++◌, ℕ, List, map, refl, Box, String, Vec, string_bytes, string_cmp}
use Rattle.std.specs.BTreeSet.{BTreeSet}
use Rattle.std.specs.HashMap.{HashMap}
use Rattle.std.specs.HashSet.{HashSet}
use Rattle.std.specs.declared.hash.BuildHasherDefault.{BuildHasherDefault}
use Rattle.std.specs.declared.hash.FoldHasher.{FoldHasher}
use Rattle.std.specs.Global.{Global}
use Rattle.std.proofs.Common.{append_assoc, inl, inr, rules}
use Rattle.nano_value.specs.Meaning.{nothing, number, whole, text, listed, paired}
use Rattle.nano_value.specs.Sets.{item_set, set_means}
use Rattle.nano_value.specs.Ordered.{ordered_means}
use Rattle.nano_value.specs.Tables.{table_means, table_of}
use Rattle.nano_meaning.proofs.OrderLaws.{texts, wholes}
use Rattle.nano_schema.specs.declared.choices.Either.TheVariants.{First, Later}
use Rattle.nano_bin_bytes.specs.BaseCodecs.{codec_as}
use Rattle.nano_bin_bytes.specs.Scalars.{little_endian}
use Rattle.nano_bin.specs.ScalarCodecs.{u8_codec, u16_codec, u32_codec, i32_codec, string_codec, unit_codec}
use Rattle.nano_bin.specs.ContainerCodecs.{list_codec, list_codec as linked_codec, map_codec, ordered_codec, pair_codec, set_codec}
use Rattle.nano_bin_nested.specs.TupleCodecs.{array_codec}
use Rattle.nano_bin_nested.proofs.NestedLaws.{seen_legal, written_seen}
use Rattle.test_nested_shapes.specs.declared.node.Node.{Node}
use Rattle.test_nested_shapes.specs.NodeCodecs.{node_view, node_means, node_nested, node_codec}
use Rattle.test_nested_shapes.specs.declared.node.Node.TheViews.{out-Node}
use Rattle.test_nested_shapes.specs.declared.node.Trail.{Trail}
use Rattle.test_nested_shapes.specs.NodeCodecs.{trail_view, trail_means, trail_nested, trail_codec}
use Rattle.test_nested_shapes.specs.declared.node.Trail.{the_lemmas}
use Rattle.test_nested_shapes.specs.declared.node.Trail.{End as Trail-End}
use Rattle.test_nested_shapes.specs.declared.node.Trail.{Through as Trail-Through}

-- ==== Node

pub node_written : (x : Node)
    → node_codec.canonical.written x
    ≡ ((string_codec.canonical.written (out-Node x).name
    ++ ((array_codec 3 i32_codec).canonical.written (out-Node x).at
    ++ (pair_codec u32_codec u32_codec).canonical.written (out-Node x).size))
    ++ ((codec_as (λ (x : BTreeSet (String Global)). x.keys) (ordered_codec texts string_cmp string_codec)).canonical.written (out-Node x).tags
    ++ ((codec_as (λ (x : HashMap (String Global) ℕ (BuildHasherDefault FoldHasher)). x.entries) (map_codec texts string_codec u32_codec)).canonical.written (out-Node x).effects
    ++ (codec_as (λ (x : Vec Node Global). x.items) (list_codec node_codec)).canonical.written (out-Node x).children)))
node_written x = written_seen node_nested x (node_view x) refl

pub node_legal : (x : Node)
    → string_codec.encoding.legal (text (string_bytes (out-Node x).name))
    → (array_codec 3 i32_codec).encoding.legal (listed (map number (out-Node x).at))
    → (pair_codec u32_codec u32_codec).encoding.legal (paired (whole (out-Node x).size.0, whole (out-Node x).size.1))
    → (codec_as (λ (x : BTreeSet (String Global)). x.keys) (ordered_codec texts string_cmp string_codec)).encoding.legal (ordered_means string_cmp (λ x. text (string_bytes x)) (out-Node x).tags.keys)
    → (codec_as (λ (x : HashMap (String Global) ℕ (BuildHasherDefault FoldHasher)). x.entries) (map_codec texts string_codec u32_codec)).encoding.legal (table_means (table_of (λ x. text (string_bytes x)) whole (out-Node x).effects.entries))
    → (codec_as (λ (x : Vec Node Global). x.items) (list_codec node_codec)).encoding.legal (listed (map node_means (out-Node x).children.items))
    → node_codec.encoding.legal (node_means x)
node_legal x h0 h1 h2 h3 h4 h5 =
    seen_legal node_nested x (node_view x) refl
    (record { part = (paired (text (string_bytes (out-Node x).name), paired (listed (map number (out-Node x).at), paired (whole (out-Node x).size.0, whole (out-Node x).size.1))), paired (ordered_means string_cmp (λ x. text (string_bytes x)) (out-Node x).tags.keys, paired (table_means (table_of (λ x. text (string_bytes x)) whole (out-Node x).effects.entries), listed (map node_means (out-Node x).children.items)))); has = ((record { part = (text (string_bytes (out-Node x).name), paired (listed (map number (out-Node x).at), paired (whole (out-Node x).size.0, whole (out-Node x).size.1))); has = (h0, (record { part = (listed (map number (out-Node x).at), paired (whole (out-Node x).size.0, whole (out-Node x).size.1)); has = (h1, h2); is = refl })); is = refl }), (record { part = (ordered_means string_cmp (λ x. text (string_bytes x)) (out-Node x).tags.keys, paired (table_means (table_of (λ x. text (string_bytes x)) whole (out-Node x).effects.entries), listed (map node_means (out-Node x).children.items))); has = (h3, (record { part = (table_means (table_of (λ x. text (string_bytes x)) whole (out-Node x).effects.entries), listed (map node_means (out-Node x).children.items)); has = (h4, h5); is = refl })); is = refl })); is = refl })

pub ruleset node_written_laws = (append_assoc, node_written)

-- ==== Trail

pub trail_view_end : trail_view Trail-End ≡ First (tt {0})
trail_view_end = search (rules, the_lemmas)

pub trail_written_end : trail_codec.canonical.written Trail-End
    ≡ little_endian 2 0
    ++ unit_codec.canonical.written (tt {0})
trail_written_end =
    written_seen trail_nested Trail-End (First (tt {0})) trail_view_end

pub trail_legal_end : trail_codec.encoding.legal (trail_means Trail-End)
trail_legal_end =
    seen_legal trail_nested Trail-End (First (tt {0})) trail_view_end
    (inl (record { part = nothing; has = refl; is = refl }))

pub trail_view_through : (v0 : List ((String Global) × ℕ))
    → (v1 : HashSet ℕ (BuildHasherDefault FoldHasher))
    → (v2 : Box Trail Global)
    → trail_view (Trail-Through v0 v1 v2) ≡ Later (v0, (v1, v2))
trail_view_through v0 v1 v2 = search (rules, the_lemmas)

pub trail_written_through : (v0 : List ((String Global) × ℕ))
    → (v1 : HashSet ℕ (BuildHasherDefault FoldHasher))
    → (v2 : Box Trail Global)
    → trail_codec.canonical.written (Trail-Through v0 v1 v2)
    ≡ little_endian 2 1
    ++ ((linked_codec (pair_codec string_codec u8_codec)).canonical.written v0
    ++ ((codec_as (λ (x : HashSet ℕ (BuildHasherDefault FoldHasher)). x.keys) (set_codec wholes u16_codec)).canonical.written v1
    ++ (codec_as (λ (x : Box Trail Global). x.value) trail_codec).canonical.written v2))
trail_written_through v0 v1 v2 =
    written_seen trail_nested (Trail-Through v0 v1 v2) (Later (v0, (v1, v2))) (trail_view_through v0 v1 v2)

pub trail_legal_through : (v0 : List ((String Global) × ℕ))
    → (v1 : HashSet ℕ (BuildHasherDefault FoldHasher))
    → (v2 : Box Trail Global)
    → (linked_codec (pair_codec string_codec u8_codec)).encoding.legal (listed (map (λ x. paired (text (string_bytes x.0), whole x.1)) v0))
    → (codec_as (λ (x : HashSet ℕ (BuildHasherDefault FoldHasher)). x.keys) (set_codec wholes u16_codec)).encoding.legal (set_means (item_set whole v1.keys))
    → (codec_as (λ (x : Box Trail Global). x.value) trail_codec).encoding.legal (trail_means v2.value)
    → trail_codec.encoding.legal (trail_means (Trail-Through v0 v1 v2))
trail_legal_through v0 v1 v2 h0 h1 h2 =
    seen_legal trail_nested (Trail-Through v0 v1 v2) (Later (v0, (v1, v2))) (trail_view_through v0 v1 v2)
    (inr (inl (record { part = paired (listed (map (λ x. paired (text (string_bytes x.0), whole x.1)) v0), paired (set_means (item_set whole v1.keys), trail_means v2.value)); has = (record { part = (listed (map (λ x. paired (text (string_bytes x.0), whole x.1)) v0), paired (set_means (item_set whole v1.keys), trail_means v2.value)); has = (h0, (record { part = (set_means (item_set whole v1.keys), trail_means v2.value); has = (h1, h2); is = refl })); is = refl }); is = refl })))

pub ruleset trail_views = (trail_view_end, trail_view_through)

pub ruleset trail_written_laws = (append_assoc, trail_written_end, trail_written_through)
