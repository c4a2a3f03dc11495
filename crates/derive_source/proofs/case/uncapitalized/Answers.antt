use Rattle.std.proofs.Common.{string_bytes, rules, arith}
use Rattle.std.proofs.lemmas.Grind.{common_steps}
use Rattle.std.proofs.lemmas.Str.{IsUtf8-string_bytes}
use Rattle.derive_source.proofs.Cases.{uncapitalized-first}
use Rattle.derive_source.proofs.case.uncapitalized.Goals as goal

pub returns : goal.returns
returns c =
    let text = c.push_str.new.self in
    uncapitalized-first c.args.name.now c.as_str.result.now (string_bytes text) c.in-Some.first c.utf8.name (IsUtf8-string_bytes text) (search rules) (grind (arith, common_steps))
