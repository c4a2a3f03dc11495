use Rattle.std.proofs.Common.{◌≡◌, true, string_bytes, encode_utf8_all}
use Rattle.derive_source.specs.Cases.{capitalized}
use Rattle.derive_source.proofs.Cases.{begins_after}
use Rattle.derive_source.proofs.case.capitalized.Given as goal

abbrev pub invariant-loop-c : goal.invariant-loop-c
invariant-loop-c l =
    (string_bytes l.text ≡ encode_utf8_all (capitalized true l.yielded))
    × (l.begins ≡ begins_after true l.yielded)
