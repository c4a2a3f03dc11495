use Rattle.std.proofs.Common.{◌≡◌, string_bytes, encode_utf8_all}
use Rattle.derive_source.specs.Cases.{in_words}
use Rattle.derive_source.proofs.Cases.{is_none}
use Rattle.derive_source.proofs.case.in_words.Given as goal

abbrev pub invariant-loop-c : goal.invariant-loop-c
invariant-loop-c l =
    (string_bytes l.text ≡ encode_utf8_all (in_words l.yielded))
    × (l.is_first ≡ is_none l.yielded)
