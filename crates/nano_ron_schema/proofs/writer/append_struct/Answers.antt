use Rattle.std.proofs.Common.{string_bytes}
use Rattle.std.proofs.lemmas.Result.{on_ok_weaker}
use Rattle.nano_ron_schema.proofs.WrittenFields.{struct_written}
use Rattle.nano_ron_schema.proofs.writer.append_struct.Goals as goal

pub returns-clause-ok : goal.returns-clause-ok
returns-clause-ok g c =
    let row = rw c.saturating_add.ensures at c.in_ok-append_fields.ensures.ok in
    on_ok_weaker c.st_post.result
    (struct_written c.args.d (g.F.RonRefs.codec.canonical.fields (g.F.RonRefs.values c.args.refs.now))
    (string_bytes c.args.s.now.out) (string_bytes c.st_pre.new.self.out)
    (string_bytes c.append_fields.new.s.out) (string_bytes c.st_post.new.self.out)
    c.in_ok-st_pre.ensures.ok row) c.st_post.ensures.ok
