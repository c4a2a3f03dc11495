use Rattle.std.proofs.Common.{◌≡◌, string_bytes, rules}
use Rattle.nano_document.specs.Pointers.{escaped}
use Rattle.nano_document.proofs.Finding.{last_before}
use Rattle.nano_document.proofs.pointer.last_escaped.Goals as goal

pub returns-then-is_escaped : goal.returns-then-is_escaped
returns-then-is_escaped c =
    let named : escaped (string_bytes c.index-entries-end.result.0) ≡ c.args.token.now = search rules in
    last_before (λ n. escaped n ≡ c.args.token.now) c.args.entries.now c.entries.end c.index-entries-end.result c.entries-test.true c.entries.invariant.0 c.index-entries-end.is named c.entries.invariant.1
