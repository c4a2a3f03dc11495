use Rattle.std.proofs.Common.{◌<◌, ◌≤◌, ◌+◌, drop, length, subst, arith, rules}
use Rattle.std.proofs.lemmas.Grind.{common_steps}
use Rattle.nano_bin_bytes.specs.Reading.{IsTooShort}
use Rattle.nano_bin_bytes.proofs.ErrorsLaws.{short_reads_none}
use Rattle.nano_bin_bytes.proofs.Runs.{bytes_read, bytes_rejected}
use Rattle.nano_bin_bytes.proofs.read.read_bytes.Goals as goal

pub returns-then-rest-count-clause-err : goal.returns-then-rest-count-clause-err
returns-then-rest-count-clause-err c =
    let short : IsTooShort c.args.bytes.now (c.args.offset.now + length (drop c.args.offset.now c.args.bytes.now)) 1 c.too_short.result = first_of (search rules, grind (arith, common_steps)) in
    short_reads_none _ _ _ _ _ (omega arith) _ short (bytes_rejected c.args.count _ (subst (λ l. length l < c.args.count) c.rest-rest.ensures c.if-rest-count.true))

pub returns-clause-ok : goal.returns-clause-ok
returns-clause-ok c =
    rw c.rest-rest.ensures (bytes_read c.args.count c.args.bytes.now c.args.offset.now (λ i. omega (arith, c.type_inv.bytes i)) (subst (λ l. c.args.count ≤ length l) c.rest-rest.ensures c.if-rest-count.false))
