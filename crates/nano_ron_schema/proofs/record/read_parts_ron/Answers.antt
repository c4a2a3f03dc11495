use Rattle.nano_ron_schema.proofs.record.read_parts_ron.Goals as goal

pub returns-in-Ok : goal.returns-in-Ok
returns-in-Ok g c = rw c.make.ensures c.in-Ok.ensures
