use Rattle.nano_text.proofs.RollbackLaws.{unchanged_by}
use Rattle.nano_ron_nested.proofs.variant_writer.write_triple_within.Goals as goal

pub rollback_on_error-requires : goal.rollback_on_error-requires
rollback_on_error-requires g c =
    unchanged_by c.append_triple-written.result c.args.s.now.out c.append_triple-written.new.s.out
    c.len-start.result _ c.len-start.ensures c.append_triple-written.ensures.ok
    c.append_triple-written.ensures.err
