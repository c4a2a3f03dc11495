-- Written by derive_files: types that contain themselves, and their codecs.
use Rattle.std.specs.Prelude.{◌≡◌, ℕ, refl, codes}
use Rattle.std.proofs.Common.{◌∙◌, ap}
use Rattle.nano_value.specs.Meaning.{Meaning, Agrees}
use Rattle.nano_value.specs.Sums.{tagged}
use Rattle.nano_schema_levels.proofs.StepsLaws.{by_option, list_depth}
use Rattle.nano_levels.specs.Layers.{Layer, Nested}
use Rattle.nano_levels.proofs.LayersLaws.{itself_layer, list_layer, other_layer}
use Rattle.nano_levels.proofs.LevelsLaws.{level, limited}
use Rattle.nano_schema_levels.specs.FieldLayers.{FieldsLayer}
use Rattle.nano_schema_levels.specs.VariantLayers.{VariantsLayer}
use Rattle.nano_schema_levels.proofs.FieldLayersLaws.{fields_pair_layer, optional_layer, required_layer, struct_layer}
use Rattle.nano_schema_levels.proofs.LegalLevelsLaws.{agree_through, legal_as, nested_agrees}
use Rattle.nano_schema_levels.proofs.PartLaws.{pair_layer, seen_layer, single_layer}
use Rattle.nano_schema_levels.proofs.VariantLayersLaws.{choice_layer, last_variant, next_variant}
use Rattle.nano_bin_nested.proofs.LegalLaws.{nested_agrees as bin_agrees}
use Rattle.nano_json.specs.Codec.{Codec}
use Rattle.nano_json_tokens.specs.Cut.{json_grammar}
use Rattle.nano_json_tokens.proofs.JsonLaws.{json, block_brackets, block_style, tuple_style}
use Rattle.nano_json_schema.specs.FieldCodecs.{plain_names, json_fields, i32_codec, string_codec}
use Rattle.nano_json_schema.specs.VariantCodecs.{json_variants}
use Rattle.test_nested.specs.declared.statement.Branch.{Branch}
use Rattle.test_nested.specs.declared.statement.Statement.TheOpen.{Branch-F}
use Rattle.test_nested.specs.declared.statement.Statement.TheViews.{out-Branch}
use Rattle.test_nested.specs.declared.statement.Statement.TheFolds.{map-Branch, fold_out-Branch}
use Rattle.test_nested.specs.StatementCodecs.{BranchContent, branch_opened, branch_view, branch_means, branch_means_step}
use Rattle.test_nested.specs.StatementCodecs.{branch_depth_step, branch_means_folded, branch_depth_folded}
use Rattle.test_nested.specs.declared.statement.Statement.{Statement}
use Rattle.test_nested.specs.declared.statement.Statement.TheOpen.{Statement-F}
use Rattle.test_nested.specs.declared.statement.Statement.TheViews.{out-Statement}
use Rattle.test_nested.specs.declared.statement.Statement.TheFolds.{map-Statement, fold_out-Statement}
use Rattle.test_nested.specs.StatementCodecs.{StatementContent, statement_opened, statement_view, statement_means, statement_means_step}
use Rattle.test_nested.specs.StatementCodecs.{statement_depth, statement_depth_step}
use Rattle.test_nested.specs.StatementCodecs.{statement_step, statement_nested, statement_codec}

-- ==== Branch: the layer around the values in it

abbrev pub branch_json_fields : FieldsLayer json_fields Statement (BranchContent Statement)
branch_json_fields =
    fields_pair_layer (required_layer json_fields (codes "then") itself_layer) (optional_layer json_fields (codes "otherwise") (seen_layer (λ x. x.value) itself_layer))

abbrev pub branch_json_layer : Layer json json_grammar Statement (BranchContent Statement)
branch_json_layer = struct_layer branch_json_fields (λ f. plain_names refl) (λ f. refl)

pub branch_json_means_opened : (y : Branch-F Statement Branch)
    → branch_means_step (map-Branch Statement Branch Meaning Meaning statement_means branch_means_folded y)
    ≡ branch_json_layer.means statement_means (branch_opened y)
branch_json_means_opened y =
    by_option (λ o. branch_means_step (map-Branch Statement Branch Meaning Meaning statement_means branch_means_folded (record { then = y.then; otherwise = o }))
    ≡ branch_json_layer.means statement_means (branch_opened {X = Statement} (record { then = y.then; otherwise = o })))
    refl (λ x1. refl)
    y.otherwise

pub branch_json_depth_opened : (y : Branch-F Statement Branch)
    → branch_depth_step (map-Branch Statement Branch ℕ ℕ statement_depth branch_depth_folded y)
    ≡ branch_json_layer.deep statement_depth (branch_opened y)
branch_json_depth_opened y =
    by_option (λ o. branch_depth_step (map-Branch Statement Branch ℕ ℕ statement_depth branch_depth_folded (record { then = y.then; otherwise = o }))
    ≡ branch_json_layer.deep statement_depth (branch_opened {X = Statement} (record { then = y.then; otherwise = o })))
    refl (λ x1. refl)
    y.otherwise

-- around values of `Statement`
abbrev pub branch_around : Layer json json_grammar Statement Branch
branch_around = seen_layer branch_view branch_json_layer

pub branch_means_is : (x : Branch) → branch_means_folded x ≡ branch_means x
branch_means_is x =
    fold_out-Branch Meaning Meaning statement_means_step branch_means_step x ∙ branch_json_means_opened (out-Branch x)

pub branch_depth_is : (x : Branch) → branch_depth_folded x ≡ branch_around.deep statement_depth x
branch_depth_is x =
    fold_out-Branch ℕ ℕ statement_depth_step branch_depth_step x ∙ branch_json_depth_opened (out-Branch x)

-- ==== Statement: the layer around the values in it

abbrev pub statement_json_variants : VariantsLayer json_variants Statement (StatementContent Statement)
statement_json_variants =
    next_variant json_variants (codes "Assign") (pair_layer tuple_style block_brackets (other_layer string_codec) (other_layer i32_codec)) (λ f x d. tt)
    (next_variant json_variants (codes "Block") (single_layer tuple_style block_brackets (seen_layer (λ x. x.items) (list_layer block_style block_brackets itself_layer))) (λ f x d. tt)
    (last_variant json_variants (codes "If") (single_layer tuple_style block_brackets (seen_layer (λ x. x.value) branch_around)) (λ f x d. tt)))

abbrev pub statement_json_layer : Layer json json_grammar Statement (StatementContent Statement)
statement_json_layer = choice_layer statement_json_variants (λ f. refl) (λ f. refl)

pub statement_json_means_opened : (y : Statement-F Statement Branch)
    → statement_means_step (map-Statement Statement Branch Meaning Meaning statement_means branch_means_folded y)
    ≡ statement_json_layer.means statement_means (statement_opened y)
statement_json_means_opened (Statement-F.Assign v0 v1) = refl
statement_json_means_opened (Statement-F.Block v) = refl
statement_json_means_opened (Statement-F.If v) = ap (λ m. tagged 2 m) (branch_means_is v.value)

pub statement_json_depth_opened : (y : Statement-F Statement Branch)
    → statement_depth_step (map-Statement Statement Branch ℕ ℕ statement_depth branch_depth_folded y)
    ≡ statement_json_layer.deep statement_depth (statement_opened y)
statement_json_depth_opened (Statement-F.Assign v0 v1) = refl
statement_json_depth_opened (Statement-F.Block v) = list_depth _ _ _ (λ x. refl) v.items
statement_json_depth_opened (Statement-F.If v) = branch_depth_is v.value

abbrev pub statement_json_nested : Nested json json_grammar Statement
statement_json_nested = record {
  Seen = StatementContent Statement;
  layer = statement_json_layer;
  view = statement_view;
  means = statement_means;
  depth = statement_depth;
  means_is = λ x. fold_out-Statement Meaning Meaning statement_means_step branch_means_step x ∙ statement_json_means_opened (out-Statement x);
  depth_is = λ x. fold_out-Statement ℕ ℕ statement_depth_step branch_depth_step x ∙ statement_json_depth_opened (out-Statement x);
}

-- those of at most so many levels
abbrev pub statement_json_at : ℕ → Codec Statement
statement_json_at = level statement_json_nested

pub statement_json_agrees : Agrees statement_means statement_codec.encoding.legal statement_means
    (limited statement_json_nested 128).encoding.legal
statement_json_agrees =
    agree_through (bin_agrees statement_nested statement_step (λ f. refl))
    (nested_agrees statement_json_nested statement_step (λ f. refl) 128)

-- those that are read, and what is legal in the words of the format before
abbrev pub statement_json : Codec Statement
statement_json = legal_as (limited statement_json_nested 128) statement_json_agrees

-- `Branch`, around values of at most so many levels, and around those that are read
abbrev pub branch_json_at : ℕ → Codec Branch
branch_json_at levels = branch_around.codec (statement_json_at levels)

abbrev pub branch_json : Codec Branch
branch_json = branch_around.codec statement_json
