use Rattle.nano_text.proofs.RollbackLaws.{unchanged_by}
use Rattle.nano_ron_tokens.proofs.strings.append_string.Goals as goal

pub rollback_on_error-requires : goal.rollback_on_error-requires
rollback_on_error-requires c =
    unchanged_by c.append_quoted-written.result c.args.out.now c.append_quoted-written.new.out c.len-start.result _ c.len-start.ensures
    c.append_quoted-written.ensures.ok c.append_quoted-written.ensures.err
