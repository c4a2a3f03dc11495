use Rattle.std.proofs.Common.{ap, ◌∙◌, length, chars, IsUtf8, subst, List, ℕ}
use Rattle.std.proofs.lemmas.Iterator.{YieldsList-from_chars}
use Rattle.std.proofs.lemmas.Iterator.Consumers.{count_from_yields_List}
use Rattle.nano_toml.specs.Scan.{is_remaining}
use Rattle.nano_toml.proofs.ByteTests.{some_test}
use Rattle.nano_toml.proofs.RunPrefixes.{remaining_chars}
use Rattle.nano_toml.proofs.state.Cursor.remaining.Goals as goal

pub take_while-requires-clause-by_bytes : goal.take_while-requires-clause-by_bytes
take_while-requires-clause-by_bytes c = (is_remaining, some_test, λ b r says. says)

pub returns : goal.returns
returns c =
    let all = count_from_yields_List c.chars.result c.count.result c.count.ensures.ran (YieldsList-from_chars c.take_while.result.now c.take_while.utf8 (cc)) in
    let text = c.take_while.ensures.text is_remaining some_test (λ b r says. says) in
    all ∙ (ap (λ (bytes : List ℕ). length (chars bytes)) text ∙ ap length (remaining_chars c.again-ahead.result.rest (subst IsUtf8 c.as_str-held.ensures c.as_str-held.utf8)) ∙ ap length c.again-ahead.ensures)
