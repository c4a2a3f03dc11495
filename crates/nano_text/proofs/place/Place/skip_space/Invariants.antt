use Rattle.std.proofs.Common.{◌≡◌, length}
use Rattle.nano_text.specs.Characters.{following, is_space}
use Rattle.nano_text.specs.Place.{text_at, Moves}
use Rattle.nano_text.proofs.place.Place.skip_space.Given as goal

abbrev pub invariant-space : goal.invariant-space
invariant-space l = record {
  rest : following is_space (text_at l.self l.i) ≡ following is_space (text_at l.fn.self l.fn.i);
  counts : Moves l.fn.self l.fn.i l.self l.i;
}

abbrev pub decreases-space : goal.decreases-space
decreases-space l = length (text_at l.self l.i)
