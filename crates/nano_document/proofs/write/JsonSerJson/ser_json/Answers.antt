use Rattle.nano_text.proofs.RollbackLaws.{unchanged_by}
use Rattle.nano_document.proofs.write.JsonSerJson.ser_json.Goals as goal

pub rollback_on_error-requires : goal.rollback_on_error-requires
rollback_on_error-requires c = unchanged_by c.append_json-written.result c.args.s.now.out c.append_json-written.new.s.out c.len-start.result _ c.len-start.ensures c.append_json-written.ensures.ok c.append_json-written.ensures.err
