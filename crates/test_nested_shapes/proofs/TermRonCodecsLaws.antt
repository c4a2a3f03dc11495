-- Written by derive_files: what is proved of types that contain themselves.
use Rattle.std.specs.Prelude.{◌≡◌, ℕ, ℤ, List, codes, Bool, Box, Option, String, Vec}
use Rattle.std.specs.Global.{Global}
use Rattle.nano_schema.specs.declared.choices.Either.TheVariants.{First, Later}
use Rattle.nano_grammar.specs.FieldCodec.{WrittenField}
use Rattle.nano_schema_levels.proofs.NestedLaws.{layer_text, text_seen}
use Rattle.std.specs.Prelude.{chars}
use Rattle.nano_ron.specs.Codec.{codec_as}
use Rattle.nano_ron.specs.ScalarCodecs.{boolean_codec}
use Rattle.nano_ron.specs.ContainerCodecs.{pair_codec, triple_codec}
use Rattle.nano_ron_tokens.specs.Token.{Token}
use Rattle.nano_ron_schema.specs.FieldCodecs.{optional_field, required_field}
use Rattle.nano_ron_schema.specs.VariantCodecs.{single_codec}
use Rattle.nano_ron_schema.specs.Variants.{content_text}
use Rattle.nano_ron_nested.specs.TypeCodecs.{list_codec, u32_codec, i64_codec, string_codec}
use Rattle.test_nested_shapes.specs.declared.term.Argument.{Argument}
use Rattle.test_nested_shapes.specs.TermCodecs.{argument_view}
use Rattle.test_nested_shapes.specs.TermRonCodecs.{argument_around, argument_ron_layer, argument_ron, argument_ron_content_named}
use Rattle.test_nested_shapes.proofs.TermCodecsLaws.{argument_view_plain, argument_view_named, argument_view_rest}
use Rattle.test_nested_shapes.specs.declared.term.Argument.{Plain as Argument-Plain}
use Rattle.test_nested_shapes.specs.declared.term.Argument.{Named as Argument-Named}
use Rattle.test_nested_shapes.specs.declared.term.Argument.{Rest as Argument-Rest}
use Rattle.test_nested_shapes.specs.declared.term.Term.{Term}
use Rattle.test_nested_shapes.specs.TermCodecs.{term_view}
use Rattle.test_nested_shapes.specs.TermRonCodecs.{term_ron_nested, term_ron}
use Rattle.test_nested_shapes.proofs.TermCodecsLaws.{term_view_number, term_view_call, term_view_if, term_view_repeat}
use Rattle.test_nested_shapes.specs.declared.term.Term.{Number as Term-Number}
use Rattle.test_nested_shapes.specs.declared.term.Term.{Call as Term-Call}
use Rattle.test_nested_shapes.specs.declared.term.Term.{If as Term-If}
use Rattle.test_nested_shapes.specs.declared.term.Term.{Repeat as Term-Repeat}

-- ==== Argument

pub argument_ron_text_plain : (d : ℕ)
    → (v : Term)
    → argument_ron.canonical.text d (Argument-Plain v)
    ≡ content_text (codes "Plain") ((single_codec term_ron).canonical.text d v)
argument_ron_text_plain d v =
    layer_text argument_view argument_ron_layer term_ron d (Argument-Plain v) (First v) (argument_view_plain v)

abbrev pub argument_ron_field_named_name : String Global → List (WrittenField Token)
argument_ron_field_named_name x =
    (required_field (codes "name") string_codec).canonical.fields x

abbrev pub argument_ron_field_named_value : Option (Box Term Global) → List (WrittenField Token)
argument_ron_field_named_value x =
    (optional_field (codes "value") (codec_as (λ (x : Box Term Global). x.value) term_ron)).canonical.fields x

pub argument_ron_text_named : (d : ℕ)
    → (v0 : String Global)
    → (v1 : Option (Box Term Global))
    → argument_ron.canonical.text d (Argument-Named v0 v1)
    ≡ content_text (codes "Named") ((argument_ron_content_named.codec term_ron).canonical.text d (v0, v1))
argument_ron_text_named d v0 v1 =
    layer_text argument_view argument_ron_layer term_ron d (Argument-Named v0 v1) (Later (First (v0, v1))) (argument_view_named v0 v1)

pub argument_ron_text_rest : (d : ℕ)
    → argument_ron.canonical.text d Argument-Rest
    ≡ chars (codes "Rest")
argument_ron_text_rest d =
    layer_text argument_view argument_ron_layer term_ron d Argument-Rest (Later (Later (tt {0}))) argument_view_rest

pub ruleset argument_ron_texts = (argument_ron_text_plain, argument_ron_text_named, argument_ron_text_rest)

-- ==== Term

pub term_ron_text_number : (d : ℕ)
    → (v : ℤ)
    → term_ron.canonical.text d (Term-Number v)
    ≡ content_text (codes "Number") ((single_codec i64_codec).canonical.text d v)
term_ron_text_number d v =
    text_seen term_ron_nested 128 d (Term-Number v) (First v) (term_view_number v)

pub term_ron_text_call : (d : ℕ)
    → (v0 : String Global)
    → (v1 : Vec Argument Global)
    → term_ron.canonical.text d (Term-Call v0 v1)
    ≡ content_text (codes "Call") ((pair_codec string_codec (codec_as (λ (x : Vec Argument Global). x.items) (list_codec (argument_around.codec term_ron)))).canonical.text d (v0, v1))
term_ron_text_call d v0 v1 =
    text_seen term_ron_nested 128 d (Term-Call v0 v1) (Later (First (v0, v1))) (term_view_call v0 v1)

pub term_ron_text_if : (d : ℕ)
    → (v0 : Box Term Global)
    → (v1 : Box Term Global)
    → (v2 : Box Term Global)
    → term_ron.canonical.text d (Term-If v0 v1 v2)
    ≡ content_text (codes "If") ((triple_codec (codec_as (λ (x : Box Term Global). x.value) term_ron) (codec_as (λ (x : Box Term Global). x.value) term_ron) (codec_as (λ (x : Box Term Global). x.value) term_ron)).canonical.text d (v0, v1, v2))
term_ron_text_if d v0 v1 v2 =
    text_seen term_ron_nested 128 d (Term-If v0 v1 v2) (Later (Later (First (v0, (v1, v2))))) (term_view_if v0 v1 v2)

pub term_ron_text_repeat : (d : ℕ)
    → (v0 : ℕ)
    → (v1 : Bool)
    → (v2 : Box Term Global)
    → term_ron.canonical.text d (Term-Repeat v0 v1 v2)
    ≡ content_text (codes "Repeat") ((triple_codec u32_codec boolean_codec (codec_as (λ (x : Box Term Global). x.value) term_ron)).canonical.text d (v0, v1, v2))
term_ron_text_repeat d v0 v1 v2 =
    text_seen term_ron_nested 128 d (Term-Repeat v0 v1 v2) (Later (Later (Later (v0, (v1, v2))))) (term_view_repeat v0 v1 v2)

pub ruleset term_ron_texts = (term_ron_text_number, term_ron_text_call, term_ron_text_if, term_ron_text_repeat)
