use Rattle.std.proofs.Common.{string_bytes, codes}
use Rattle.std.proofs.lemmas.Result.{on_ok_weaker}
use Rattle.nano_grammar.proofs.WrittenLists.{pushed}
use Rattle.nano_document.specs.DocumentCodecs.{string_codec}
use Rattle.nano_document.proofs.Indenting.{colon_written}
use Rattle.nano_document.proofs.indented.append_name.Goals as goal

pub returns-clause-ok : goal.returns-clause-ok
returns-clause-ok c =
    let now = string_bytes c.args.s.now.out in
    let more = string_bytes c.ser_json.new.s.out in
    let after = string_bytes c.push_str.new.self in
    on_ok_weaker c.push_str.result (λ last. colon_written now more after (string_codec.canonical.text c.args.d c.args.name.now) c.in_ok-ser_json.ensures.ok last)
    (pushed c.push_str.result more after (codes ": ") c.push_str.ensures.bytes)
