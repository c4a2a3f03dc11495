use Rattle.std.proofs.Common.{arith}
use Rattle.std.proofs.lemmas.Map.Text.{text_keys}
use Rattle.std.proofs.lemmas.Result.{on_ok_weaker}
use Rattle.example_store.proofs.FaultLemmas.{no_rejection}
use Rattle.example_store.proofs.rows.put.Goals as goal

pub returns-in-Ok-clause-put : goal.returns-in-Ok-clause-put
returns-in-Ok-clause-put g c =
    on_ok_weaker c.save.result
    (λ written. record {
      before = c.in_ok-store.store;
      after = c.insert.new.self;
      read = c.in_ok-store.ensures.value;
      put = grind (arith, text_keys, c.in-Ok.ensures.updates);
      others = λ other ne. grind (arith, text_keys, c.in-Ok.ensures.updates);
      written = written;
    })
    c.save.ensures.ok

pub returns-in-Ok-clause-rejected : goal.returns-in-Ok-clause-rejected
returns-in-Ok-clause-rejected g c = no_rejection c.save.result _ c.save.ensures.fault

pub returns-in-Ok-clause-unchanged : goal.returns-in-Ok-clause-unchanged
returns-in-Ok-clause-unchanged g c = no_rejection c.save.result _ c.save.ensures.fault
