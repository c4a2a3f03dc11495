use Rattle.std.proofs.Common.{string_bytes}
use Rattle.nano_grammar.proofs.WrittenLists.{one_written}
use Rattle.nano_document.proofs.Indenting.{line_more}
use Rattle.nano_json_indent.proofs.layout.append_line.Goals as goal

pub loop-level-init : goal.loop-level-init
loop-level-init c = one_written (string_bytes c.args.out.now) (string_bytes c.push.new.self) 10 c.in_ok-push.ensures.bytes

pub loop-level-preserved : goal.loop-level-preserved
loop-level-preserved c = line_more c.loop-level._level (string_bytes c.args.out.now) _ _ c.loop-level.invariant c.in_ok-push_str.ensures.bytes
