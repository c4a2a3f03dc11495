-- Written by derive_files: what is proved of types that contain themselves.
use Rattle.std.specs.Prelude.{◌≡◌, ◌++◌, ℤ, map, refl, Box, String, Vec, string_bytes}
use Rattle.std.specs.Global.{Global}
use Rattle.std.specs.Option.{option_map}
use Rattle.std.proofs.Common.{append_assoc, inl, inr, rules}
use Rattle.nano_value.specs.Meaning.{number, text, optional, listed, paired}
use Rattle.nano_schema.specs.declared.choices.Either.TheVariants.{First, Later}
use Rattle.nano_bin_bytes.specs.BaseCodecs.{codec_as}
use Rattle.nano_bin_bytes.specs.Scalars.{little_endian}
use Rattle.nano_bin.specs.ScalarCodecs.{i32_codec, string_codec}
use Rattle.nano_bin.specs.ContainerCodecs.{list_codec, option_codec}
use Rattle.nano_bin_nested.proofs.NestedLaws.{seen_legal, written_seen}
use Rattle.test_nested.specs.declared.statement.Branch.{Branch}
use Rattle.test_nested.specs.StatementCodecs.{branch_view, branch_means, branch_around, branch_codec}
use Rattle.test_nested.specs.declared.statement.Statement.TheViews.{out-Branch}
use Rattle.test_nested.specs.declared.statement.Statement.{Statement}
use Rattle.test_nested.specs.StatementCodecs.{statement_view, statement_means, statement_nested, statement_codec}
use Rattle.test_nested.specs.declared.statement.Statement.{the_lemmas}
use Rattle.test_nested.specs.declared.statement.Statement.{Assign as Statement-Assign}
use Rattle.test_nested.specs.declared.statement.Statement.{Block as Statement-Block}
use Rattle.test_nested.specs.declared.statement.Statement.{If as Statement-If}

-- ==== Branch

pub branch_written : (x : Branch)
    → branch_codec.canonical.written x
    ≡ (statement_codec.canonical.written (out-Branch x).then
    ++ (option_codec (codec_as (λ (x : Box Statement Global). x.value) statement_codec)).canonical.written (out-Branch x).otherwise)
branch_written x = refl

pub branch_legal : (x : Branch)
    → statement_codec.encoding.legal (statement_means (out-Branch x).then)
    → (option_codec (codec_as (λ (x : Box Statement Global). x.value) statement_codec)).encoding.legal (optional (option_map (λ x. statement_means x.value) (out-Branch x).otherwise))
    → branch_codec.encoding.legal (branch_means x)
branch_legal x h0 h1 =
    (record { part = (statement_means (out-Branch x).then, optional (option_map (λ x. statement_means x.value) (out-Branch x).otherwise)); has = (h0, h1); is = refl })

pub ruleset branch_written_laws = (append_assoc, branch_written)

-- ==== Statement

pub statement_view_assign : (v0 : String Global)
    → (v1 : ℤ)
    → statement_view (Statement-Assign v0 v1) ≡ First (v0, v1)
statement_view_assign v0 v1 = search (rules, the_lemmas)

pub statement_written_assign : (v0 : String Global)
    → (v1 : ℤ)
    → statement_codec.canonical.written (Statement-Assign v0 v1)
    ≡ little_endian 2 0
    ++ (string_codec.canonical.written v0
    ++ i32_codec.canonical.written v1)
statement_written_assign v0 v1 =
    written_seen statement_nested (Statement-Assign v0 v1) (First (v0, v1)) (statement_view_assign v0 v1)

pub statement_legal_assign : (v0 : String Global)
    → (v1 : ℤ)
    → string_codec.encoding.legal (text (string_bytes v0))
    → i32_codec.encoding.legal (number v1)
    → statement_codec.encoding.legal (statement_means (Statement-Assign v0 v1))
statement_legal_assign v0 v1 h0 h1 =
    seen_legal statement_nested (Statement-Assign v0 v1) (First (v0, v1)) (statement_view_assign v0 v1)
    (inl (record { part = paired (text (string_bytes v0), number v1); has = (record { part = (text (string_bytes v0), number v1); has = (h0, h1); is = refl }); is = refl }))

pub statement_view_block : (v : Vec Statement Global)
    → statement_view (Statement-Block v) ≡ Later (First v)
statement_view_block v = search (rules, the_lemmas)

pub statement_written_block : (v : Vec Statement Global)
    → statement_codec.canonical.written (Statement-Block v)
    ≡ little_endian 2 1
    ++ (codec_as (λ (x : Vec Statement Global). x.items) (list_codec statement_codec)).canonical.written v
statement_written_block v =
    written_seen statement_nested (Statement-Block v) (Later (First v)) (statement_view_block v)

pub statement_legal_block : (v : Vec Statement Global)
    → (codec_as (λ (x : Vec Statement Global). x.items) (list_codec statement_codec)).encoding.legal (listed (map statement_means v.items))
    → statement_codec.encoding.legal (statement_means (Statement-Block v))
statement_legal_block v h0 =
    seen_legal statement_nested (Statement-Block v) (Later (First v)) (statement_view_block v)
    (inr (inl (record { part = listed (map statement_means v.items); has = h0; is = refl })))

pub statement_view_if : (v : Box Branch Global)
    → statement_view (Statement-If v) ≡ Later (Later v)
statement_view_if v = search (rules, the_lemmas)

pub statement_written_if : (v : Box Branch Global)
    → statement_codec.canonical.written (Statement-If v)
    ≡ little_endian 2 2
    ++ (codec_as (λ (x : Box Branch Global). x.value) (branch_around.codec statement_codec)).canonical.written v
statement_written_if v =
    written_seen statement_nested (Statement-If v) (Later (Later v)) (statement_view_if v)

pub statement_legal_if : (v : Box Branch Global)
    → (codec_as (λ (x : Box Branch Global). x.value) (branch_around.codec statement_codec)).encoding.legal (branch_means v.value)
    → statement_codec.encoding.legal (statement_means (Statement-If v))
statement_legal_if v h0 =
    seen_legal statement_nested (Statement-If v) (Later (Later v)) (statement_view_if v)
    (inr (inr (inl (record { part = branch_means v.value; has = h0; is = refl }))))

pub ruleset statement_views = (statement_view_assign, statement_view_block, statement_view_if)

pub ruleset statement_written_laws = (append_assoc, statement_written_assign, statement_written_block, statement_written_if)
