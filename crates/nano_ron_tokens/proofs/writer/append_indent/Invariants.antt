use Rattle.std.proofs.Common.{◌≡◌, ◌++◌, string_bytes}
use Rattle.nano_ron_tokens.specs.Written.{indent}
use Rattle.nano_ron_tokens.proofs.writer.append_indent.Given as goal

abbrev pub invariant-loop-level : goal.invariant-loop-level
invariant-loop-level l = record {
  out : string_bytes l.out ≡ string_bytes l.fn.out ++ indent l._level;
}
