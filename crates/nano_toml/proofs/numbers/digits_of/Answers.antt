use Rattle.std.proofs.Common.{◌≡◌, Some, ◌∙◌, arith}
use Rattle.std.proofs.lemmas.Grind.{common_steps}
use Rattle.nano_toml.specs.Characters.{is_in_digits}
use Rattle.nano_toml.specs.Number.{digits}
use Rattle.nano_toml.proofs.OneTable.{value_at, value_fitting}
use Rattle.nano_toml.specs.Token.{prefix}
use Rattle.nano_toml.proofs.numbers.digits_of.Goals as goal

pub returns-then-byte-ne95-clause-value : goal.returns-then-byte-ne95-clause-value
returns-then-byte-ne95-clause-value c =
    let run = prefix is_in_digits c.args.bytes.now in
    let all : c.loop-len.value ≡ value_at (Some 0) (digits run) = grind (arith, common_steps) in
    all ∙ value_fitting 0 (digits run)

pub returns-clause-value : goal.returns-clause-value
returns-clause-value c =
    let run = prefix is_in_digits c.args.bytes.now in
    let all : c.loop-len.value ≡ value_at (Some 0) (digits run) = grind (arith, common_steps) in
    all ∙ value_fitting 0 (digits run)
