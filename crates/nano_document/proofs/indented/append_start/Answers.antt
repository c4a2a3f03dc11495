use Rattle.std.proofs.Common.{string_bytes}
use Rattle.std.proofs.lemmas.Result.{on_ok_weaker}
use Rattle.nano_grammar.proofs.WrittenLists.{after_punctuator}
use Rattle.nano_document.specs.Indented.{line}
use Rattle.nano_document.proofs.indented.append_start.Goals as goal

pub returns-clause-ok : goal.returns-clause-ok
returns-clause-ok c =
    rw c.if-first.false (on_ok_weaker c.append_line-2.result (λ last. after_punctuator (string_bytes c.args.s.now.out) (string_bytes c.push.new.self) (string_bytes c.append_line-2.new.s.out) 44 (line c.args.d) c.in_ok-push.ensures.bytes last) c.append_line-2.ensures.ok)
