-- Written by derive_files: types that contain themselves, and their codecs.
use Rattle.std.specs.Prelude.{◌≡◌, ℕ, ℤ, suc, max, map, refl, Box, Option, String, Vec, string_bytes}
use Rattle.std.specs.Global.{Global}
use Rattle.std.specs.Int.{w32}
use Rattle.std.specs.Option.{option_map}
use Rattle.std.proofs.Common.{◌∙◌, ap, lit≤}
use Rattle.nano_value.specs.Meaning.{Meaning, number, text, optional, listed, paired, LegalSigned, LegalText, LegalOption, LegalList, LegalPair}
use Rattle.nano_value.specs.Sums.{tagged, LegalVariant, variant, no_variants}
use Rattle.nano_levels.specs.Layers.{greatest}
use Rattle.nano_schema.specs.declared.choices.Either.{Either}
use Rattle.nano_schema.specs.declared.choices.Either.TheVariants.{First, Later}
use Rattle.nano_schema_levels.specs.LegalLevels.{LegalStep}
use Rattle.nano_schema_levels.specs.Depths.{held_depth}
use Rattle.nano_schema_levels.proofs.StepsLaws.{by_option, list_depth}
use Rattle.nano_bin_bytes.specs.Codec.{Codec}
use Rattle.nano_bin.specs.ScalarCodecs.{i32_codec, string_codec}
use Rattle.nano_bin.specs.ContainerCodecs.{pair_codec}
use Rattle.nano_bin_levels.specs.Layers.{Layer, Nested}
use Rattle.nano_bin_levels.proofs.LayersLaws.{itself_layer, other_layer, seen_layer}
use Rattle.nano_bin_levels.proofs.ListsLaws.{list_layer}
use Rattle.nano_bin_levels.proofs.OptionsLaws.{option_layer}
use Rattle.nano_bin_levels.proofs.LevelsLaws.{nested_codec}
use Rattle.nano_bin_nested.specs.ChoiceLayerCodecs.{ChoiceLayer, choice_layer, last_variant, next_variant}
use Rattle.nano_bin_nested.specs.PairLayerCodecs.{pair_layer}
use Rattle.test_nested.specs.declared.statement.Branch.{Branch}
use Rattle.test_nested.specs.declared.statement.Statement.TheOpen.{Branch-F}
use Rattle.test_nested.specs.declared.statement.Statement.TheViews.{out-Branch}
use Rattle.test_nested.specs.declared.statement.Statement.TheFolds.{map-Branch, fold-Branch, fold_out-Branch}
use Rattle.test_nested.specs.declared.statement.Statement.{Statement}
use Rattle.test_nested.specs.declared.statement.Statement.TheOpen.{Statement-F}
use Rattle.test_nested.specs.declared.statement.Statement.TheViews.{out-Statement}
use Rattle.test_nested.specs.declared.statement.Statement.TheFolds.{map-Statement, fold-Statement, fold_out-Statement}

-- ==== Branch: what a value is seen as

abbrev pub BranchContent : Type 0 → Type 0
BranchContent X = X × Option (Box X Global)

abbrev pub branch_opened : {X : Type 0} → Branch-F X Branch → BranchContent X
branch_opened y = (y.then, y.otherwise)

abbrev pub branch_view : Branch → BranchContent Statement
branch_view x = branch_opened (out-Branch x)

-- ==== Statement: what a value is seen as

abbrev pub StatementContent : Type 0 → Type 0
StatementContent X = Either (String Global × ℤ) (Either (Vec X Global) (Box Branch Global))

abbrev pub statement_opened : {X : Type 0} → Statement-F X Branch → StatementContent X
statement_opened (Statement-F.Assign v0 v1) = First (v0, v1)
statement_opened (Statement-F.Block v) = Later (First v)
statement_opened (Statement-F.If v) = Later (Later v)

abbrev pub statement_view : Statement → StatementContent Statement
statement_view x = statement_opened (out-Statement x)

-- ---- what it means, and how deep it is

abbrev pub branch_means_step : Branch-F Meaning Meaning → Meaning
branch_means_step y = paired (y.then, optional (option_map (λ x. x.value) y.otherwise))

abbrev pub branch_depth_step : Branch-F ℕ ℕ → ℕ
branch_depth_step y = max (suc y.then) (held_depth (λ x. suc x.value) y.otherwise)

abbrev pub statement_means_step : Statement-F Meaning Meaning → Meaning
statement_means_step (Statement-F.Assign v0 v1) =
    tagged 0 (paired (text (string_bytes v0), number v1))
statement_means_step (Statement-F.Block v) = tagged 1 (listed v.items)
statement_means_step (Statement-F.If v) = tagged 2 v.value

abbrev pub statement_depth_step : Statement-F ℕ ℕ → ℕ
statement_depth_step (Statement-F.Assign v0 v1) = 0
statement_depth_step (Statement-F.Block v) = greatest (map (λ x. suc x) v.items)
statement_depth_step (Statement-F.If v) = v.value

abbrev pub statement_means : Statement → Meaning
statement_means = fold-Statement Meaning Meaning statement_means_step branch_means_step

abbrev pub statement_depth : Statement → ℕ
statement_depth = fold-Statement ℕ ℕ statement_depth_step branch_depth_step

-- by the steps, and as the layer around `Statement` says it
abbrev pub branch_means_folded : Branch → Meaning
branch_means_folded = fold-Branch Meaning Meaning statement_means_step branch_means_step

abbrev pub branch_depth_folded : Branch → ℕ
branch_depth_folded = fold-Branch ℕ ℕ statement_depth_step branch_depth_step

abbrev pub branch_means : Branch → Meaning
branch_means x =
    (λ (y : Branch-F Statement Branch). paired (statement_means y.then, optional (option_map (λ x. statement_means x.value) y.otherwise))) (out-Branch x)

-- ---- which meanings are legal, given those that are of the values in it

abbrev pub branch_step : LegalStep
branch_step P = LegalPair P (LegalOption P)

-- ---- which meanings are legal, given those that are of the values in it

abbrev pub statement_step : LegalStep
statement_step P =
    LegalVariant (variant (LegalPair LegalText (LegalSigned w32)) (variant (LegalList P) (variant (branch_step P) no_variants)))

-- ---- as bytes: the layer around the values in it, and the codec

abbrev pub branch_layer : Layer Statement (BranchContent Statement)
branch_layer = pair_layer itself_layer (option_layer (seen_layer (λ x. x.value) itself_layer))

pub branch_means_opened : (y : Branch-F Statement Branch)
    → branch_means_step (map-Branch Statement Branch Meaning Meaning statement_means branch_means_folded y)
    ≡ branch_layer.means statement_means (branch_opened y)
branch_means_opened y =
    by_option (λ o. branch_means_step (map-Branch Statement Branch Meaning Meaning statement_means branch_means_folded (record { then = y.then; otherwise = o }))
    ≡ branch_layer.means statement_means (branch_opened {X = Statement} (record { then = y.then; otherwise = o })))
    refl (λ x1. refl)
    y.otherwise

pub branch_depth_opened : (y : Branch-F Statement Branch)
    → branch_depth_step (map-Branch Statement Branch ℕ ℕ statement_depth branch_depth_folded y)
    ≡ branch_layer.deep statement_depth (branch_opened y)
branch_depth_opened y =
    by_option (λ o. branch_depth_step (map-Branch Statement Branch ℕ ℕ statement_depth branch_depth_folded (record { then = y.then; otherwise = o }))
    ≡ branch_layer.deep statement_depth (branch_opened {X = Statement} (record { then = y.then; otherwise = o })))
    refl (λ x1. refl)
    y.otherwise

-- around values of `Statement`
abbrev pub branch_around : Layer Statement Branch
branch_around = seen_layer branch_view branch_layer

pub branch_means_is : (x : Branch) → branch_means_folded x ≡ branch_means x
branch_means_is x =
    fold_out-Branch Meaning Meaning statement_means_step branch_means_step x ∙ branch_means_opened (out-Branch x)

pub branch_depth_is : (x : Branch) → branch_depth_folded x ≡ branch_around.deep statement_depth x
branch_depth_is x =
    fold_out-Branch ℕ ℕ statement_depth_step branch_depth_step x ∙ branch_depth_opened (out-Branch x)

-- ---- as bytes: the layer around the values in it, and the codec

abbrev pub statement_variants : ChoiceLayer Statement (StatementContent Statement)
statement_variants =
    next_variant (other_layer (pair_codec string_codec i32_codec))
    (next_variant (seen_layer (λ x. x.items) (list_layer itself_layer))
    (last_variant (seen_layer (λ x. x.value) branch_around)))

abbrev pub statement_layer : Layer Statement (StatementContent Statement)
statement_layer = choice_layer statement_variants (λ f. lit≤ tt)

pub statement_means_opened : (y : Statement-F Statement Branch)
    → statement_means_step (map-Statement Statement Branch Meaning Meaning statement_means branch_means_folded y)
    ≡ statement_layer.means statement_means (statement_opened y)
statement_means_opened (Statement-F.Assign v0 v1) = refl
statement_means_opened (Statement-F.Block v) = refl
statement_means_opened (Statement-F.If v) = ap (λ m. tagged 2 m) (branch_means_is v.value)

pub statement_depth_opened : (y : Statement-F Statement Branch)
    → statement_depth_step (map-Statement Statement Branch ℕ ℕ statement_depth branch_depth_folded y)
    ≡ statement_layer.deep statement_depth (statement_opened y)
statement_depth_opened (Statement-F.Assign v0 v1) = refl
statement_depth_opened (Statement-F.Block v) = list_depth _ _ _ (λ x. refl) v.items
statement_depth_opened (Statement-F.If v) = branch_depth_is v.value

abbrev pub statement_nested : Nested Statement
statement_nested = record {
  Seen = StatementContent Statement;
  layer = statement_layer;
  view = statement_view;
  means = statement_means;
  depth = statement_depth;
  means_is = λ x. fold_out-Statement Meaning Meaning statement_means_step branch_means_step x ∙ statement_means_opened (out-Statement x);
  depth_is = λ x. fold_out-Statement ℕ ℕ statement_depth_step branch_depth_step x ∙ statement_depth_opened (out-Statement x);
}

abbrev pub statement_codec : Codec Statement
statement_codec = nested_codec statement_nested

abbrev pub branch_codec : Codec Branch
branch_codec = branch_around.codec statement_codec
