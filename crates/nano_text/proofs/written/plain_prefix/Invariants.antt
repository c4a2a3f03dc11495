use Rattle.std.proofs.Common.{◌≡◌, ◌+◌, length, drop}
use Rattle.nano_text.specs.Characters.{prefix}
use Rattle.nano_text.proofs.written.plain_prefix.Given as goal

abbrev pub invariant-loop-len : goal.invariant-loop-len
invariant-loop-len g l =
    length (prefix g.E.Escaping.stands l.bytes) ≡ l.len + length (prefix g.E.Escaping.stands (drop l.len l.bytes))
