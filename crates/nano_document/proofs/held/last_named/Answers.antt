use Rattle.std.proofs.Common.{◌≡◌, string_bytes, arith, rules}
use Rattle.nano_document.proofs.Finding.{none_before, last_before}
use Rattle.nano_document.proofs.held.last_named.Goals as goal

pub returns-then-eq : goal.returns-then-eq
returns-then-eq c =
    let named : string_bytes c.index-entries-end.result.0 ≡ c.args.name.now = search rules in
    last_before (λ n. n ≡ c.args.name.now) c.args.entries.now c.entries.end c.index-entries-end.result c.entries-test.true c.entries.invariant.0 c.index-entries-end.is named c.entries.invariant.1

pub entries-preserved : goal.entries-preserved
entries-preserved c =
    let other : string_bytes c.index-entries-end.result.0 ≡ c.args.name.now → ⊥ = search rules in
    let within = c.entries.invariant.0 in (
      omega (arith, within),
      none_before (λ n. n ≡ c.args.name.now) c.args.entries.now c.entries.end c.index-entries-end.result c.entries-test.true within c.index-entries-end.is other c.entries.invariant.1,
    )
