use Rattle.std.proofs.Common.{arith, rules, inr}
use Rattle.std.proofs.lemmas.Grind.{common_steps}
use Rattle.nano_bin_bytes.specs.Reading.{IsNotUtf8}
use Rattle.nano_bin_bytes.proofs.ErrorsLaws.{utf8_reads_none}
use Rattle.nano_bin_bytes.proofs.read.read_utf8.Goals as goal

pub returns-in_default-clause-err : goal.returns-in_default-clause-err
returns-in_default-clause-err c =
    let fault : IsNotUtf8 c.args.bytes.now c.args.offset.now c.args.count c.not_utf8.result = first_of (search rules, grind (arith, common_steps)) in
    record {
      none = utf8_reads_none _ _ _ _ fault;
      fault = λ _. inr fault;
      memory = first_of (search rules, grind (arith, common_steps));
    }
