use Rattle.std.proofs.Common.{string_bytes}
use Rattle.std.proofs.lemmas.Result.{on_ok_weaker}
use Rattle.nano_grammar.proofs.WrittenLists.{after_punctuator}
use Rattle.nano_ron_schema.proofs.wide.append_row.Goals as goal

pub returns-clause-ok : goal.returns-clause-ok
returns-clause-ok g c =
    let parts = g.P.RonPartsRefs.codec.canonical.text c.args.d (g.P.RonPartsRefs.values c.args.refs.now) in
    on_ok_weaker c.append.result
    (after_punctuator (string_bytes c.args.s.now.out) (string_bytes c.push.new.self)
    (string_bytes c.append.new.s.out) 40 parts c.in_ok-push.ensures.bytes) c.append.ensures.ok
