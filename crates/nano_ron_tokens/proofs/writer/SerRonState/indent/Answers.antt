use Rattle.nano_text.proofs.RollbackLaws.{unchanged_by}
use Rattle.nano_ron_tokens.proofs.writer.SerRonState.indent.Goals as goal

pub rollback_on_error-requires : goal.rollback_on_error-requires
rollback_on_error-requires c =
    unchanged_by c.append_indent-written.result c.reserve.new.self c.append_indent-written.new.out c.len-start.result _ c.len-start.ensures
    c.append_indent-written.ensures.ok c.append_indent-written.ensures.err
