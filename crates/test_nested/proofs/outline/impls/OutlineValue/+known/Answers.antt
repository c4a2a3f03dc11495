use Rattle.test_nested.proofs.Outlines.{legal_fields}
use Rattle.test_nested.proofs.outline.impls.OutlineValue.+known.Goals as goal

pub returns : goal.returns
returns t c = legal_fields c.args.self.now c.known.ensures c.known-2.ensures
