use Rattle.test_types.proofs.message.MessageSerJson.ser_json.Goals as goal

pub returns-in-Hello-clause-ok : goal.returns-in-Hello-clause-ok
returns-in-Hello-clause-ok c = rw c.in-Hello.is c.write_unit_variant.ensures.ok

pub returns-in-Move-clause-ok : goal.returns-in-Move-clause-ok
returns-in-Move-clause-ok c = rw c.in-Move.is c.write_variant.ensures.ok

pub returns-in-Say-clause-ok : goal.returns-in-Say-clause-ok
returns-in-Say-clause-ok c = rw c.in-Say.is c.write_fields_variant.ensures.ok
