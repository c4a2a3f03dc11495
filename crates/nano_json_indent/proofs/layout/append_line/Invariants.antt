use Rattle.std.proofs.Common.{◌≡◌, ◌++◌, string_bytes, encode_utf8_all}
use Rattle.nano_document.specs.Indented.{line}
use Rattle.nano_json_indent.proofs.layout.append_line.Given as goal

abbrev pub invariant-loop-level : goal.invariant-loop-level
invariant-loop-level l = string_bytes l.out ≡ string_bytes l.fn.out ++ encode_utf8_all (line l._level)
