use Rattle.std.proofs.Common.{string_bytes}
use Rattle.nano_ron_tokens.proofs.StylesLaws.{indent_more}
use Rattle.nano_ron_tokens.proofs.writer.append_indent.Goals as goal

pub loop-level-preserved : goal.loop-level-preserved
loop-level-preserved c =
    record {
      out = indent_more c.loop-level._level (string_bytes c.args.out.now) _ _ c.loop-level.invariant.out c.in_ok-push_str.ensures.bytes;
    }
