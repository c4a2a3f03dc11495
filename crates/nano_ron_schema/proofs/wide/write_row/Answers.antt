use Rattle.nano_text.proofs.RollbackLaws.{unchanged_by}
use Rattle.nano_ron_schema.proofs.wide.write_row.Goals as goal

pub rollback_on_error-requires : goal.rollback_on_error-requires
rollback_on_error-requires g c =
    unchanged_by c.append_row-written.result c.args.s.now.out c.append_row-written.new.s.out
    c.len-start.result _ c.len-start.ensures c.append_row-written.ensures.ok
    c.append_row-written.ensures.err
