use Rattle.nano_text.proofs.RollbackLaws.{unchanged_by}
use Rattle.nano_ron_tokens.proofs.writer.SerRonState.field.Goals as goal

pub rollback_on_error-requires : goal.rollback_on_error-requires
rollback_on_error-requires c =
    unchanged_by c.append_field-written.result c.args.self.now.out c.append_field-written.new.self.out c.len-start.result _ c.len-start.ensures
    c.append_field-written.ensures.ok c.append_field-written.ensures.err
