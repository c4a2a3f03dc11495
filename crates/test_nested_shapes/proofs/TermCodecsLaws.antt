-- Written by derive_files: what is proved of types that contain themselves.
use Rattle.std.specs.Prelude.{◌≡◌, ◌++◌, ℕ, ℤ, map, refl, Bool, Box, Option, String, Vec, string_bytes}
use Rattle.std.specs.Global.{Global}
use Rattle.std.specs.Option.{option_map}
use Rattle.std.proofs.Common.{append_assoc, inl, inr, rules}
use Rattle.nano_value.specs.Meaning.{nothing, truth, number, whole, text, optional, listed, paired}
use Rattle.nano_schema.specs.declared.choices.Either.TheVariants.{First, Later}
use Rattle.nano_bin_bytes.specs.BaseCodecs.{codec_as}
use Rattle.nano_bin_bytes.specs.Scalars.{little_endian}
use Rattle.nano_bin.specs.ScalarCodecs.{boolean_codec, u32_codec, i64_codec, string_codec, unit_codec}
use Rattle.nano_bin.specs.ContainerCodecs.{list_codec, option_codec}
use Rattle.nano_bin_nested.proofs.NestedLaws.{layer_legal, layer_written, seen_legal, written_seen}
use Rattle.test_nested_shapes.specs.declared.term.Argument.{Argument}
use Rattle.test_nested_shapes.specs.TermCodecs.{argument_view, argument_means, argument_around, argument_layer, argument_codec}
use Rattle.test_nested_shapes.specs.declared.term.Argument.{the_lemmas}
use Rattle.test_nested_shapes.specs.declared.term.Argument.{Plain as Argument-Plain}
use Rattle.test_nested_shapes.specs.declared.term.Argument.{Named as Argument-Named}
use Rattle.test_nested_shapes.specs.declared.term.Argument.{Rest as Argument-Rest}
use Rattle.test_nested_shapes.specs.declared.term.Term.{Term}
use Rattle.test_nested_shapes.specs.TermCodecs.{term_view, term_means, term_nested, term_codec}
use Rattle.test_nested_shapes.specs.declared.term.Argument.{the_lemmas}
use Rattle.test_nested_shapes.specs.declared.term.Term.{Number as Term-Number}
use Rattle.test_nested_shapes.specs.declared.term.Term.{Call as Term-Call}
use Rattle.test_nested_shapes.specs.declared.term.Term.{If as Term-If}
use Rattle.test_nested_shapes.specs.declared.term.Term.{Repeat as Term-Repeat}

-- ==== Argument

pub argument_view_plain : (v : Term)
    → argument_view (Argument-Plain v) ≡ First v
argument_view_plain v = search (rules, the_lemmas)

pub argument_written_plain : (v : Term)
    → argument_codec.canonical.written (Argument-Plain v)
    ≡ little_endian 2 0
    ++ term_codec.canonical.written v
argument_written_plain v =
    layer_written argument_view argument_layer term_codec (Argument-Plain v) (First v) (argument_view_plain v)

pub argument_legal_plain : (v : Term)
    → term_codec.encoding.legal (term_means v)
    → argument_codec.encoding.legal (argument_means (Argument-Plain v))
argument_legal_plain v h0 =
    layer_legal argument_view argument_layer term_codec (Argument-Plain v) (First v) (argument_view_plain v)
    (inl (record { part = term_means v; has = h0; is = refl }))

pub argument_view_named : (v0 : String Global)
    → (v1 : Option (Box Term Global))
    → argument_view (Argument-Named v0 v1) ≡ Later (First (v0, v1))
argument_view_named v0 v1 = search (rules, the_lemmas)

pub argument_written_named : (v0 : String Global)
    → (v1 : Option (Box Term Global))
    → argument_codec.canonical.written (Argument-Named v0 v1)
    ≡ little_endian 2 1
    ++ (string_codec.canonical.written v0
    ++ (option_codec (codec_as (λ (x : Box Term Global). x.value) term_codec)).canonical.written v1)
argument_written_named v0 v1 =
    layer_written argument_view argument_layer term_codec (Argument-Named v0 v1) (Later (First (v0, v1))) (argument_view_named v0 v1)

pub argument_legal_named : (v0 : String Global)
    → (v1 : Option (Box Term Global))
    → string_codec.encoding.legal (text (string_bytes v0))
    → (option_codec (codec_as (λ (x : Box Term Global). x.value) term_codec)).encoding.legal (optional (option_map (λ x. term_means x.value) v1))
    → argument_codec.encoding.legal (argument_means (Argument-Named v0 v1))
argument_legal_named v0 v1 h0 h1 =
    layer_legal argument_view argument_layer term_codec (Argument-Named v0 v1) (Later (First (v0, v1))) (argument_view_named v0 v1)
    (inr (inl (record { part = paired (text (string_bytes v0), optional (option_map (λ x. term_means x.value) v1)); has = (record { part = (text (string_bytes v0), optional (option_map (λ x. term_means x.value) v1)); has = (h0, h1); is = refl }); is = refl })))

pub argument_view_rest : argument_view Argument-Rest ≡ Later (Later (tt {0}))
argument_view_rest = search (rules, the_lemmas)

pub argument_written_rest : argument_codec.canonical.written Argument-Rest
    ≡ little_endian 2 2
    ++ unit_codec.canonical.written (tt {0})
argument_written_rest =
    layer_written argument_view argument_layer term_codec Argument-Rest (Later (Later (tt {0}))) argument_view_rest

pub argument_legal_rest : argument_codec.encoding.legal (argument_means Argument-Rest)
argument_legal_rest =
    layer_legal argument_view argument_layer term_codec Argument-Rest (Later (Later (tt {0}))) argument_view_rest
    (inr (inr (inl (record { part = nothing; has = refl; is = refl }))))

pub ruleset argument_views = (argument_view_plain, argument_view_named, argument_view_rest)

pub ruleset argument_written_laws = (append_assoc, argument_written_plain, argument_written_named, argument_written_rest)

-- ==== Term

pub term_view_number : (v : ℤ)
    → term_view (Term-Number v) ≡ First v
term_view_number v = search (rules, the_lemmas)

pub term_written_number : (v : ℤ)
    → term_codec.canonical.written (Term-Number v)
    ≡ little_endian 2 0
    ++ i64_codec.canonical.written v
term_written_number v =
    written_seen term_nested (Term-Number v) (First v) (term_view_number v)

pub term_legal_number : (v : ℤ)
    → i64_codec.encoding.legal (number v)
    → term_codec.encoding.legal (term_means (Term-Number v))
term_legal_number v h0 =
    seen_legal term_nested (Term-Number v) (First v) (term_view_number v)
    (inl (record { part = number v; has = h0; is = refl }))

pub term_view_call : (v0 : String Global)
    → (v1 : Vec Argument Global)
    → term_view (Term-Call v0 v1) ≡ Later (First (v0, v1))
term_view_call v0 v1 = search (rules, the_lemmas)

pub term_written_call : (v0 : String Global)
    → (v1 : Vec Argument Global)
    → term_codec.canonical.written (Term-Call v0 v1)
    ≡ little_endian 2 1
    ++ (string_codec.canonical.written v0
    ++ (codec_as (λ (x : Vec Argument Global). x.items) (list_codec (argument_around.codec term_codec))).canonical.written v1)
term_written_call v0 v1 =
    written_seen term_nested (Term-Call v0 v1) (Later (First (v0, v1))) (term_view_call v0 v1)

pub term_legal_call : (v0 : String Global)
    → (v1 : Vec Argument Global)
    → string_codec.encoding.legal (text (string_bytes v0))
    → (codec_as (λ (x : Vec Argument Global). x.items) (list_codec (argument_around.codec term_codec))).encoding.legal (listed (map argument_means v1.items))
    → term_codec.encoding.legal (term_means (Term-Call v0 v1))
term_legal_call v0 v1 h0 h1 =
    seen_legal term_nested (Term-Call v0 v1) (Later (First (v0, v1))) (term_view_call v0 v1)
    (inr (inl (record { part = paired (text (string_bytes v0), listed (map argument_means v1.items)); has = (record { part = (text (string_bytes v0), listed (map argument_means v1.items)); has = (h0, h1); is = refl }); is = refl })))

pub term_view_if : (v0 : Box Term Global)
    → (v1 : Box Term Global)
    → (v2 : Box Term Global)
    → term_view (Term-If v0 v1 v2) ≡ Later (Later (First (v0, (v1, v2))))
term_view_if v0 v1 v2 = search (rules, the_lemmas)

pub term_written_if : (v0 : Box Term Global)
    → (v1 : Box Term Global)
    → (v2 : Box Term Global)
    → term_codec.canonical.written (Term-If v0 v1 v2)
    ≡ little_endian 2 2
    ++ ((codec_as (λ (x : Box Term Global). x.value) term_codec).canonical.written v0
    ++ ((codec_as (λ (x : Box Term Global). x.value) term_codec).canonical.written v1
    ++ (codec_as (λ (x : Box Term Global). x.value) term_codec).canonical.written v2))
term_written_if v0 v1 v2 =
    written_seen term_nested (Term-If v0 v1 v2) (Later (Later (First (v0, (v1, v2))))) (term_view_if v0 v1 v2)

pub term_legal_if : (v0 : Box Term Global)
    → (v1 : Box Term Global)
    → (v2 : Box Term Global)
    → (codec_as (λ (x : Box Term Global). x.value) term_codec).encoding.legal (term_means v0.value)
    → (codec_as (λ (x : Box Term Global). x.value) term_codec).encoding.legal (term_means v1.value)
    → (codec_as (λ (x : Box Term Global). x.value) term_codec).encoding.legal (term_means v2.value)
    → term_codec.encoding.legal (term_means (Term-If v0 v1 v2))
term_legal_if v0 v1 v2 h0 h1 h2 =
    seen_legal term_nested (Term-If v0 v1 v2) (Later (Later (First (v0, (v1, v2))))) (term_view_if v0 v1 v2)
    (inr (inr (inl (record { part = paired (term_means v0.value, paired (term_means v1.value, term_means v2.value)); has = (record { part = (term_means v0.value, paired (term_means v1.value, term_means v2.value)); has = (h0, (record { part = (term_means v1.value, term_means v2.value); has = (h1, h2); is = refl })); is = refl }); is = refl }))))

pub term_view_repeat : (v0 : ℕ)
    → (v1 : Bool)
    → (v2 : Box Term Global)
    → term_view (Term-Repeat v0 v1 v2) ≡ Later (Later (Later (v0, (v1, v2))))
term_view_repeat v0 v1 v2 = search (rules, the_lemmas)

pub term_written_repeat : (v0 : ℕ)
    → (v1 : Bool)
    → (v2 : Box Term Global)
    → term_codec.canonical.written (Term-Repeat v0 v1 v2)
    ≡ little_endian 2 3
    ++ (u32_codec.canonical.written v0
    ++ (boolean_codec.canonical.written v1
    ++ (codec_as (λ (x : Box Term Global). x.value) term_codec).canonical.written v2))
term_written_repeat v0 v1 v2 =
    written_seen term_nested (Term-Repeat v0 v1 v2) (Later (Later (Later (v0, (v1, v2))))) (term_view_repeat v0 v1 v2)

pub term_legal_repeat : (v0 : ℕ)
    → (v1 : Bool)
    → (v2 : Box Term Global)
    → u32_codec.encoding.legal (whole v0)
    → boolean_codec.encoding.legal (truth v1)
    → (codec_as (λ (x : Box Term Global). x.value) term_codec).encoding.legal (term_means v2.value)
    → term_codec.encoding.legal (term_means (Term-Repeat v0 v1 v2))
term_legal_repeat v0 v1 v2 h0 h1 h2 =
    seen_legal term_nested (Term-Repeat v0 v1 v2) (Later (Later (Later (v0, (v1, v2))))) (term_view_repeat v0 v1 v2)
    (inr (inr (inr (inl (record { part = paired (whole v0, paired (truth v1, term_means v2.value)); has = (record { part = (whole v0, paired (truth v1, term_means v2.value)); has = (h0, (record { part = (truth v1, term_means v2.value); has = (h1, h2); is = refl })); is = refl }); is = refl })))))

pub ruleset term_views = (term_view_number, term_view_call, term_view_if, term_view_repeat)

pub ruleset term_written_laws = (append_assoc, term_written_number, term_written_call, term_written_if, term_written_repeat)
