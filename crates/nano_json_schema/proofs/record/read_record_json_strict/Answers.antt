use Rattle.nano_json_schema.proofs.record.read_record_json_strict.Goals as goal

pub returns-in-Ok : goal.returns-in-Ok
returns-in-Ok g c = rw c.make.ensures c.in-Ok.ensures
