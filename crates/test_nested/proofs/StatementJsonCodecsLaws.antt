-- Written by derive_files: what is proved of types that contain themselves.
use Rattle.std.specs.Prelude.{◌≡◌, ℕ, ℤ, List, refl, codes, Box, String, Vec}
use Rattle.std.specs.Global.{Global}
use Rattle.nano_schema.specs.declared.choices.Either.TheVariants.{First, Later}
use Rattle.nano_grammar.specs.FieldCodec.{WrittenField, fields_text}
use Rattle.nano_schema_levels.proofs.NestedLaws.{text_seen}
use Rattle.nano_json.specs.Codec.{codec_as}
use Rattle.nano_json.specs.ContainerCodecs.{list_codec, pair_codec}
use Rattle.nano_json_tokens.specs.Token.{Token}
use Rattle.nano_json_schema.specs.FieldCodecs.{json_fields, optional_field, required_field, single_codec, i32_codec, string_codec}
use Rattle.nano_json_schema.specs.Variants.{content_text}
use Rattle.test_nested.specs.declared.statement.Branch.{Branch}
use Rattle.test_nested.specs.StatementCodecs.{branch_view}
use Rattle.test_nested.specs.StatementJsonCodecs.{branch_around, branch_json, branch_json_fields}
use Rattle.test_nested.specs.declared.statement.Statement.TheViews.{out-Branch}
use Rattle.test_nested.specs.declared.statement.Statement.{Statement}
use Rattle.test_nested.specs.StatementCodecs.{statement_view}
use Rattle.test_nested.specs.StatementJsonCodecs.{statement_json_nested, statement_json}
use Rattle.test_nested.proofs.StatementCodecsLaws.{statement_view_assign, statement_view_block, statement_view_if}
use Rattle.test_nested.specs.declared.statement.Statement.{Assign as Statement-Assign}
use Rattle.test_nested.specs.declared.statement.Statement.{Block as Statement-Block}
use Rattle.test_nested.specs.declared.statement.Statement.{If as Statement-If}

-- ==== Branch

abbrev pub branch_json_field_then : Branch → List (WrittenField Token)
branch_json_field_then x =
    (required_field (codes "then") statement_json).canonical.fields (out-Branch x).then

abbrev pub branch_json_field_otherwise : Branch → List (WrittenField Token)
branch_json_field_otherwise x =
    (optional_field (codes "otherwise") (codec_as (λ (x : Box Statement Global). x.value) statement_json)).canonical.fields (out-Branch x).otherwise

abbrev pub branch_json_written : Branch → List (WrittenField Token)
branch_json_written x =
    (branch_json_fields.codec statement_json).canonical.fields (branch_view x)

pub branch_json_text : (d : ℕ) → (x : Branch) → branch_json.canonical.text d x
    ≡ fields_text json_fields d (branch_json_written x)
branch_json_text d x = refl

-- ==== Statement

pub statement_json_text_assign : (d : ℕ)
    → (v0 : String Global)
    → (v1 : ℤ)
    → statement_json.canonical.text d (Statement-Assign v0 v1)
    ≡ content_text (codes "Assign") ((pair_codec string_codec i32_codec).canonical.text d (v0, v1))
statement_json_text_assign d v0 v1 =
    text_seen statement_json_nested 128 d (Statement-Assign v0 v1) (First (v0, v1)) (statement_view_assign v0 v1)

pub statement_json_text_block : (d : ℕ)
    → (v : Vec Statement Global)
    → statement_json.canonical.text d (Statement-Block v)
    ≡ content_text (codes "Block") ((single_codec (codec_as (λ (x : Vec Statement Global). x.items) (list_codec statement_json))).canonical.text d v)
statement_json_text_block d v =
    text_seen statement_json_nested 128 d (Statement-Block v) (Later (First v)) (statement_view_block v)

pub statement_json_text_if : (d : ℕ)
    → (v : Box Branch Global)
    → statement_json.canonical.text d (Statement-If v)
    ≡ content_text (codes "If") ((single_codec (codec_as (λ (x : Box Branch Global). x.value) (branch_around.codec statement_json))).canonical.text d v)
statement_json_text_if d v =
    text_seen statement_json_nested 128 d (Statement-If v) (Later (Later v)) (statement_view_if v)

pub ruleset statement_json_texts = (statement_json_text_assign, statement_json_text_block, statement_json_text_if)
