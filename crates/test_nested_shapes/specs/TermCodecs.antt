-- Written by derive_files: types that contain themselves, and their codecs.
use Rattle.std.specs.Prelude.{◌≡◌, ℕ, ℤ, suc, max, map, refl, Bool, Box, Option, String, Vec, string_bytes}
use Rattle.std.specs.Global.{Global}
use Rattle.std.specs.Int.{w64}
use Rattle.std.specs.Option.{option_map}
use Rattle.std.proofs.Common.{◌∙◌, ap, lit≤}
use Rattle.nano_value.specs.Meaning.{Meaning, nothing, truth, number, whole, text, optional, listed, paired, LegalUnsigned, LegalSigned, LegalTruth, LegalUnit, LegalText, LegalOption, LegalList, LegalPair}
use Rattle.nano_value.specs.Sums.{tagged, LegalVariant, variant, no_variants}
use Rattle.nano_levels.specs.Layers.{greatest}
use Rattle.nano_schema.specs.declared.choices.Either.{Either}
use Rattle.nano_schema.specs.declared.choices.Either.TheVariants.{First, Later}
use Rattle.nano_schema.specs.Choices.{either_is}
use Rattle.nano_schema_levels.specs.LegalLevels.{LegalStep}
use Rattle.nano_schema_levels.specs.Depths.{held_depth}
use Rattle.nano_schema_levels.proofs.StepsLaws.{by_option, list_depth, list_means, pair_means}
use Rattle.nano_bin_bytes.specs.Codec.{Codec}
use Rattle.nano_bin.specs.ScalarCodecs.{boolean_codec, u32_codec, i64_codec, string_codec, unit_codec}
use Rattle.nano_bin_levels.specs.Layers.{Layer, Nested}
use Rattle.nano_bin_levels.proofs.LayersLaws.{itself_layer, next_layer, other_layer, seen_layer}
use Rattle.nano_bin_levels.proofs.ListsLaws.{list_layer}
use Rattle.nano_bin_levels.proofs.OptionsLaws.{option_layer}
use Rattle.nano_bin_levels.proofs.LevelsLaws.{nested_codec}
use Rattle.nano_bin_nested.specs.ChoiceLayerCodecs.{ChoiceLayer, choice_layer, last_variant, next_variant}
use Rattle.nano_bin_nested.specs.PairLayerCodecs.{pair_layer}
use Rattle.test_nested_shapes.specs.declared.term.Argument.{Argument}
use Rattle.test_nested_shapes.specs.declared.term.Argument.TheOpen.{Argument-F}
use Rattle.test_nested_shapes.specs.declared.term.Argument.TheViews.{out-Argument}
use Rattle.test_nested_shapes.specs.declared.term.Argument.TheFolds.{map-Argument, fold-Argument, fold_out-Argument}
use Rattle.test_nested_shapes.specs.declared.term.Term.{Term}
use Rattle.test_nested_shapes.specs.declared.term.Argument.TheOpen.{Term-F}
use Rattle.test_nested_shapes.specs.declared.term.Argument.TheViews.{out-Term}
use Rattle.test_nested_shapes.specs.declared.term.Argument.TheFolds.{map-Term, fold-Term, fold_out-Term}

-- ==== Argument: what a value is seen as

abbrev pub ArgumentContent : Type 0 → Type 0
ArgumentContent X = Either X (Either (String Global × Option (Box X Global)) (Unit {0}))

abbrev pub argument_opened : {X : Type 0} → Argument-F Argument X → ArgumentContent X
argument_opened (Argument-F.Plain v) = First v
argument_opened (Argument-F.Named v0 v1) = Later (First (v0, v1))
argument_opened Argument-F.Rest = Later (Later (tt {0}))

abbrev pub argument_view : Argument → ArgumentContent Term
argument_view x = argument_opened (out-Argument x)

-- ==== Term: what a value is seen as

abbrev pub TermContent : Type 0 → Type 0
TermContent X =
    Either ℤ
    (Either (String Global × Vec Argument Global)
    (Either (Box X Global × (Box X Global × Box X Global))
    (ℕ × (Bool × Box X Global))))

abbrev pub term_opened : {X : Type 0} → Term-F Argument X → TermContent X
term_opened (Term-F.Number v) = First v
term_opened (Term-F.Call v0 v1) = Later (First (v0, v1))
term_opened (Term-F.If v0 v1 v2) = Later (Later (First (v0, (v1, v2))))
term_opened (Term-F.Repeat v0 v1 v2) = Later (Later (Later (v0, (v1, v2))))

abbrev pub term_view : Term → TermContent Term
term_view x = term_opened (out-Term x)

-- ---- what it means, and how deep it is

abbrev pub argument_means_step : Argument-F Meaning Meaning → Meaning
argument_means_step (Argument-F.Plain v) = tagged 0 v
argument_means_step (Argument-F.Named v0 v1) =
    tagged 1 (paired (text (string_bytes v0), optional (option_map (λ x. x.value) v1)))
argument_means_step Argument-F.Rest = tagged 2 nothing

abbrev pub argument_depth_step : Argument-F ℕ ℕ → ℕ
argument_depth_step (Argument-F.Plain v) = suc v
argument_depth_step (Argument-F.Named v0 v1) = held_depth (λ x. suc x.value) v1
argument_depth_step Argument-F.Rest = 0

abbrev pub term_means_step : Term-F Meaning Meaning → Meaning
term_means_step (Term-F.Number v) = tagged 0 (number v)
term_means_step (Term-F.Call v0 v1) =
    tagged 1 (paired (text (string_bytes v0), listed (map (λ x. x) v1.items)))
term_means_step (Term-F.If v0 v1 v2) = tagged 2 (paired (v0.value, paired (v1.value, v2.value)))
term_means_step (Term-F.Repeat v0 v1 v2) = tagged 3 (paired (whole v0, paired (truth v1, v2.value)))

abbrev pub term_depth_step : Term-F ℕ ℕ → ℕ
term_depth_step (Term-F.Number v) = 0
term_depth_step (Term-F.Call v0 v1) = greatest (map (λ x. x) v1.items)
term_depth_step (Term-F.If v0 v1 v2) = max (suc v0.value) (max (suc v1.value) (suc v2.value))
term_depth_step (Term-F.Repeat v0 v1 v2) = suc v2.value

abbrev pub term_means : Term → Meaning
term_means = fold-Term Meaning Meaning argument_means_step term_means_step

abbrev pub term_depth : Term → ℕ
term_depth = fold-Term ℕ ℕ argument_depth_step term_depth_step

-- by the steps, and as the layer around `Term` says it
abbrev pub argument_means_folded : Argument → Meaning
argument_means_folded = fold-Argument Meaning Meaning argument_means_step term_means_step

abbrev pub argument_depth_folded : Argument → ℕ
argument_depth_folded = fold-Argument ℕ ℕ argument_depth_step term_depth_step

abbrev pub argument_means : Argument → Meaning
argument_means x =
    (either_is (λ (v : Term). tagged 0 (term_means v))
    (either_is (λ (v : String Global × Option (Box Term Global)). tagged 1 (paired (text (string_bytes v.0), optional (option_map (λ x. term_means x.value) v.1))))
    (λ (v : Unit {0}). tagged 2 nothing))) (argument_view x)

-- ---- which meanings are legal, given those that are of the values in it

abbrev pub argument_step : LegalStep
argument_step P =
    LegalVariant (variant P (variant (LegalPair LegalText (LegalOption P)) (variant LegalUnit no_variants)))

-- ---- which meanings are legal, given those that are of the values in it

abbrev pub term_step : LegalStep
term_step P =
    LegalVariant (variant (LegalSigned w64) (variant (LegalPair LegalText (LegalList (argument_step P))) (variant (LegalPair P (LegalPair P P)) (variant (LegalPair (LegalUnsigned 32) (LegalPair LegalTruth P)) no_variants))))

-- ---- as bytes: the layer around the values in it, and the codec

abbrev pub argument_variants : ChoiceLayer Term (ArgumentContent Term)
argument_variants =
    next_variant itself_layer
    (next_variant (next_layer string_codec (option_layer (seen_layer (λ x. x.value) itself_layer)))
    (last_variant (other_layer unit_codec)))

abbrev pub argument_layer : Layer Term (ArgumentContent Term)
argument_layer = choice_layer argument_variants (λ f. lit≤ tt)

pub argument_means_opened : (y : Argument-F Argument Term)
    → argument_means_step (map-Argument Argument Term Meaning Meaning argument_means_folded term_means y)
    ≡ argument_layer.means term_means (argument_opened y)
argument_means_opened (Argument-F.Plain v) = refl
argument_means_opened (Argument-F.Named v0 v1) =
    by_option (λ o. argument_means_step (map-Argument Argument Term Meaning Meaning argument_means_folded term_means (Argument-F.Named v0 o))
    ≡ argument_layer.means term_means (argument_opened {X = Term} (Argument-F.Named v0 o)))
    refl (λ x1. refl)
    v1
argument_means_opened Argument-F.Rest = refl

pub argument_depth_opened : (y : Argument-F Argument Term)
    → argument_depth_step (map-Argument Argument Term ℕ ℕ argument_depth_folded term_depth y)
    ≡ argument_layer.deep term_depth (argument_opened y)
argument_depth_opened (Argument-F.Plain v) = refl
argument_depth_opened (Argument-F.Named v0 v1) =
    by_option (λ o. argument_depth_step (map-Argument Argument Term ℕ ℕ argument_depth_folded term_depth (Argument-F.Named v0 o))
    ≡ argument_layer.deep term_depth (argument_opened {X = Term} (Argument-F.Named v0 o)))
    refl (λ x1. refl)
    v1
argument_depth_opened Argument-F.Rest = refl

-- around values of `Term`
abbrev pub argument_around : Layer Term Argument
argument_around = seen_layer argument_view argument_layer

pub argument_means_is : (x : Argument) → argument_means_folded x ≡ argument_means x
argument_means_is x =
    fold_out-Argument Meaning Meaning argument_means_step term_means_step x ∙ argument_means_opened (out-Argument x)

pub argument_depth_is : (x : Argument) → argument_depth_folded x ≡ argument_around.deep term_depth x
argument_depth_is x =
    fold_out-Argument ℕ ℕ argument_depth_step term_depth_step x ∙ argument_depth_opened (out-Argument x)

-- ---- as bytes: the layer around the values in it, and the codec

abbrev pub term_variants : ChoiceLayer Term (TermContent Term)
term_variants =
    next_variant (other_layer i64_codec)
    (next_variant (next_layer string_codec (seen_layer (λ x. x.items) (list_layer argument_around)))
    (next_variant (pair_layer (seen_layer (λ x. x.value) itself_layer) (pair_layer (seen_layer (λ x. x.value) itself_layer) (seen_layer (λ x. x.value) itself_layer)))
    (last_variant (next_layer u32_codec (next_layer boolean_codec (seen_layer (λ x. x.value) itself_layer))))))

abbrev pub term_layer : Layer Term (TermContent Term)
term_layer = choice_layer term_variants (λ f. lit≤ tt)

pub term_means_opened : (y : Term-F Argument Term)
    → term_means_step (map-Term Argument Term Meaning Meaning argument_means_folded term_means y)
    ≡ term_layer.means term_means (term_opened y)
term_means_opened (Term-F.Number v) = refl
term_means_opened (Term-F.Call v0 v1) =
    ap (λ m. tagged 1 m) (pair_means refl (list_means _ _ _ (λ x. argument_means_is x) v1.items))
term_means_opened (Term-F.If v0 v1 v2) = refl
term_means_opened (Term-F.Repeat v0 v1 v2) = refl

pub term_depth_opened : (y : Term-F Argument Term)
    → term_depth_step (map-Term Argument Term ℕ ℕ argument_depth_folded term_depth y)
    ≡ term_layer.deep term_depth (term_opened y)
term_depth_opened (Term-F.Number v) = refl
term_depth_opened (Term-F.Call v0 v1) = list_depth _ _ _ (λ x. argument_depth_is x) v1.items
term_depth_opened (Term-F.If v0 v1 v2) = refl
term_depth_opened (Term-F.Repeat v0 v1 v2) = refl

abbrev pub term_nested : Nested Term
term_nested = record {
  Seen = TermContent Term;
  layer = term_layer;
  view = term_view;
  means = term_means;
  depth = term_depth;
  means_is = λ x. fold_out-Term Meaning Meaning argument_means_step term_means_step x ∙ term_means_opened (out-Term x);
  depth_is = λ x. fold_out-Term ℕ ℕ argument_depth_step term_depth_step x ∙ term_depth_opened (out-Term x);
}

abbrev pub term_codec : Codec Term
term_codec = nested_codec term_nested

abbrev pub argument_codec : Codec Argument
argument_codec = argument_around.codec term_codec
