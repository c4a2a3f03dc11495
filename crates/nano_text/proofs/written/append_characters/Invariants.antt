use Rattle.std.proofs.Common.{◌≡◌, ◌++◌, List, ℕ, chars, length, string_bytes, encode_utf8_all}
use Rattle.std.proofs.Common.{flat_map}
use denote.Text.{Utf8}
use denote.Shadow.{shadow}
use Rattle.nano_text.proofs.written.append_characters.Given as goal

-- what is written so far, and what is left to write, make the whole
abbrev pub invariant-runs : goal.invariant-runs
invariant-runs g l = shadow (Utf8 l.rest)
    × ((done : List ℕ) × (string_bytes l.out ≡ string_bytes l.initial.out ++ done)
    × (encode_utf8_all (flat_map g.E.Escaping.written (chars l.fn.text))
    ≡ done ++ encode_utf8_all (flat_map g.E.Escaping.written (chars l.rest))))

abbrev pub decreases-runs : goal.decreases-runs
decreases-runs g l = length l.rest
