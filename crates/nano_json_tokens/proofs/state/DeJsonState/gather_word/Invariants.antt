use Rattle.std.proofs.Common.{◌≡◌, ◌≤◌, ◌++◌, length, string_bytes, string_capacity}
use Rattle.nano_text.specs.Place.{remaining}
use Rattle.nano_text.specs.Characters.{prefix, following}
use Rattle.nano_json_tokens.specs.Cut.{is_word}
use Rattle.nano_json_tokens.specs.Outcomes.{Moved}
use Rattle.nano_json_tokens.proofs.state.DeJsonState.gather_word.Given as goal

abbrev pub invariant-word : goal.invariant-word
invariant-word l = record {
  rest : following is_word (remaining l.self.cur l.i) ≡ following is_word (remaining l.fn.self.cur l.fn.i);
  taken : string_bytes l.self.identbuf ++ prefix is_word (remaining l.self.cur l.i) ≡ prefix is_word (remaining l.fn.self.cur l.fn.i);
  capacity : string_capacity l.fn.self.identbuf ≤ string_capacity l.self.identbuf;
  place : Moved l.fn.self l.fn.i l.self l.i;
  strbuf : l.self.strbuf ≡ l.fn.self.strbuf;
  numbuf : l.self.numbuf ≡ l.fn.self.numbuf;
}

abbrev pub decreases-word : goal.decreases-word
decreases-word l = length (remaining l.self.cur l.i)
