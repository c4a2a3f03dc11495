-- Written by derive_files: types that contain themselves, and their codecs.
use Rattle.std.specs.Prelude.{◌≡◌, ℕ, refl, codes, Box, Option, String}
use Rattle.std.specs.Global.{Global}
use Rattle.std.proofs.Common.{◌∙◌, ap}
use Rattle.nano_value.specs.Meaning.{Meaning, Agrees}
use Rattle.nano_value.specs.Sums.{tagged}
use Rattle.nano_schema_levels.proofs.StepsLaws.{by_option, later_depth, list_depth, list_means, pair_means}
use Rattle.nano_levels.specs.Layers.{Layer, Nested}
use Rattle.nano_levels.proofs.LayersLaws.{itself_layer, list_layer, other_layer}
use Rattle.nano_levels.proofs.LevelsLaws.{level, limited}
use Rattle.nano_schema_levels.specs.VariantLayers.{VariantsLayer}
use Rattle.nano_schema_levels.proofs.FieldLayersLaws.{fields_pair_layer, optional_layer, other_fields, struct_layer}
use Rattle.nano_schema_levels.proofs.LegalLevelsLaws.{agree_through, legal_as, nested_agrees}
use Rattle.nano_schema_levels.proofs.AroundLaws.{choice_as}
use Rattle.nano_schema_levels.proofs.PartLaws.{pair_layer, seen_layer, single_layer, triple_layer}
use Rattle.nano_schema_levels.proofs.VariantLayersLaws.{choice_layer, last_unit, last_variant, next_variant}
use Rattle.nano_bin_nested.proofs.LegalLaws.{nested_agrees as bin_agrees}
use Rattle.nano_json.specs.Codec.{Codec}
use Rattle.nano_json.specs.ScalarCodecs.{boolean_codec}
use Rattle.nano_json_tokens.specs.Cut.{json_grammar}
use Rattle.nano_json_tokens.proofs.JsonLaws.{json, block_brackets, block_style, tuple_style}
use Rattle.nano_json_schema.specs.FieldCodecs.{plain_names, json_fields, required_field, u32_codec, i64_codec, string_codec}
use Rattle.nano_json_schema.specs.VariantCodecs.{json_variants}
use Rattle.test_nested_shapes.specs.declared.term.Argument.{Argument}
use Rattle.test_nested_shapes.specs.declared.term.Argument.TheOpen.{Argument-F}
use Rattle.test_nested_shapes.specs.declared.term.Argument.TheViews.{out-Argument}
use Rattle.test_nested_shapes.specs.declared.term.Argument.TheFolds.{map-Argument, fold_out-Argument}
use Rattle.test_nested_shapes.specs.TermCodecs.{ArgumentContent, argument_opened, argument_view, argument_means, argument_means_step}
use Rattle.test_nested_shapes.specs.TermCodecs.{argument_depth_step, argument_means_folded, argument_depth_folded}
use Rattle.test_nested_shapes.specs.declared.term.Term.{Term}
use Rattle.test_nested_shapes.specs.declared.term.Argument.TheOpen.{Term-F}
use Rattle.test_nested_shapes.specs.declared.term.Argument.TheViews.{out-Term}
use Rattle.test_nested_shapes.specs.declared.term.Argument.TheFolds.{map-Term, fold_out-Term}
use Rattle.test_nested_shapes.specs.TermCodecs.{TermContent, term_opened, term_view, term_means, term_means_step}
use Rattle.test_nested_shapes.specs.TermCodecs.{term_depth, term_depth_step}
use Rattle.test_nested_shapes.specs.TermCodecs.{term_step, term_nested, term_codec}

-- ==== Argument: the layer around the values in it

abbrev pub argument_json_content_named : Layer json json_grammar Term (String Global × Option (Box Term Global))
argument_json_content_named =
    struct_layer (fields_pair_layer (other_fields json_fields (required_field (codes "name") string_codec)) (optional_layer json_fields (codes "value") (seen_layer (λ x. x.value) itself_layer))) (λ f. plain_names refl) (λ f. refl)

abbrev pub argument_json_variants : VariantsLayer json_variants Term (ArgumentContent Term)
argument_json_variants =
    next_variant json_variants (codes "Plain") (single_layer tuple_style block_brackets itself_layer) (λ f x d. tt)
    (next_variant json_variants (codes "Named") argument_json_content_named (λ f x d. tt)
    (last_unit json_variants (codes "Rest")))

abbrev pub argument_json_layer : Layer json json_grammar Term (ArgumentContent Term)
argument_json_layer = choice_layer argument_json_variants (λ f. refl) (λ f. refl)

pub argument_json_means_opened : (y : Argument-F Argument Term)
    → argument_means_step (map-Argument Argument Term Meaning Meaning argument_means_folded term_means y)
    ≡ argument_json_layer.means term_means (argument_opened y)
argument_json_means_opened (Argument-F.Plain v) = refl
argument_json_means_opened (Argument-F.Named v0 v1) =
    by_option (λ o. argument_means_step (map-Argument Argument Term Meaning Meaning argument_means_folded term_means (Argument-F.Named v0 o))
    ≡ argument_json_layer.means term_means (argument_opened {X = Term} (Argument-F.Named v0 o)))
    refl (λ x1. refl)
    v1
argument_json_means_opened Argument-F.Rest = refl

pub argument_json_depth_opened : (y : Argument-F Argument Term)
    → argument_depth_step (map-Argument Argument Term ℕ ℕ argument_depth_folded term_depth y)
    ≡ argument_json_layer.deep term_depth (argument_opened y)
argument_json_depth_opened (Argument-F.Plain v) = refl
argument_json_depth_opened (Argument-F.Named v0 v1) =
    by_option (λ o. argument_depth_step (map-Argument Argument Term ℕ ℕ argument_depth_folded term_depth (Argument-F.Named v0 o))
    ≡ argument_json_layer.deep term_depth (argument_opened {X = Term} (Argument-F.Named v0 o)))
    refl (λ x1. later_depth refl)
    v1
argument_json_depth_opened Argument-F.Rest = refl

-- around values of `Term`
abbrev pub argument_around : Layer json json_grammar Term Argument
argument_around = seen_layer argument_view argument_json_layer

pub argument_means_is : (x : Argument) → argument_means_folded x ≡ argument_means x
argument_means_is x =
    fold_out-Argument Meaning Meaning argument_means_step term_means_step x ∙ argument_json_means_opened (out-Argument x)

pub argument_depth_is : (x : Argument) → argument_depth_folded x ≡ argument_around.deep term_depth x
argument_depth_is x =
    fold_out-Argument ℕ ℕ argument_depth_step term_depth_step x ∙ argument_json_depth_opened (out-Argument x)

-- ==== Term: the layer around the values in it

abbrev pub term_json_variants : VariantsLayer json_variants Term (TermContent Term)
term_json_variants =
    next_variant json_variants (codes "Number") (single_layer tuple_style block_brackets (other_layer i64_codec)) (λ f x d. tt)
    (next_variant json_variants (codes "Call") (pair_layer tuple_style block_brackets (other_layer string_codec) (seen_layer (λ x. x.items) (list_layer block_style block_brackets argument_around))) (λ f x d. tt)
    (next_variant json_variants (codes "If") (triple_layer tuple_style block_brackets (seen_layer (λ x. x.value) itself_layer) (seen_layer (λ x. x.value) itself_layer) (seen_layer (λ x. x.value) itself_layer)) (λ f x d. tt)
    (last_variant json_variants (codes "Repeat") (triple_layer tuple_style block_brackets (other_layer u32_codec) (other_layer boolean_codec) (seen_layer (λ x. x.value) itself_layer)) (λ f x d. tt))))

abbrev pub term_json_layer : Layer json json_grammar Term (TermContent Term)
term_json_layer = choice_layer term_json_variants (λ f. refl) (λ f. refl)

pub term_json_means_opened : (y : Term-F Argument Term)
    → term_means_step (map-Term Argument Term Meaning Meaning argument_means_folded term_means y)
    ≡ term_json_layer.means term_means (term_opened y)
term_json_means_opened (Term-F.Number v) = refl
term_json_means_opened (Term-F.Call v0 v1) =
    ap (λ m. tagged 1 m) (pair_means refl (list_means _ _ _ (λ x. argument_means_is x) v1.items))
term_json_means_opened (Term-F.If v0 v1 v2) = refl
term_json_means_opened (Term-F.Repeat v0 v1 v2) = refl

pub term_json_depth_opened : (y : Term-F Argument Term)
    → term_depth_step (map-Term Argument Term ℕ ℕ argument_depth_folded term_depth y)
    ≡ term_json_layer.deep term_depth (term_opened y)
term_json_depth_opened (Term-F.Number v) = refl
term_json_depth_opened (Term-F.Call v0 v1) =
    later_depth (list_depth _ _ _ (λ x. argument_depth_is x) v1.items)
term_json_depth_opened (Term-F.If v0 v1 v2) = refl
term_json_depth_opened (Term-F.Repeat v0 v1 v2) = later_depth (later_depth refl)

abbrev pub term_json_nested : Nested json json_grammar Term
term_json_nested = record {
  Seen = TermContent Term;
  layer = term_json_layer;
  view = term_view;
  means = term_means;
  depth = term_depth;
  means_is = λ x. fold_out-Term Meaning Meaning argument_means_step term_means_step x ∙ term_json_means_opened (out-Term x);
  depth_is = λ x. fold_out-Term ℕ ℕ argument_depth_step term_depth_step x ∙ term_json_depth_opened (out-Term x);
}

-- those of at most so many levels
abbrev pub term_json_at : ℕ → Codec Term
term_json_at = level term_json_nested

pub term_json_agrees : Agrees term_means term_codec.encoding.legal term_means
    (limited term_json_nested 128).encoding.legal
term_json_agrees =
    agree_through (bin_agrees term_nested term_step (λ f. refl))
    (nested_agrees term_json_nested term_step (λ f. refl) 128)

-- those that are read, and what is legal in the words of the format before
abbrev pub term_json : Codec Term
term_json = legal_as (limited term_json_nested 128) term_json_agrees

-- `Argument`, around values of at most so many levels, and around those that are read
abbrev pub argument_json_at : ℕ → Codec Argument
argument_json_at levels = argument_around.codec (term_json_at levels)

abbrev pub argument_json : Codec Argument
argument_json =
    choice_as argument_view argument_json_variants (λ f. refl) (λ f. refl) term_json
    (term_json_at 128) refl
