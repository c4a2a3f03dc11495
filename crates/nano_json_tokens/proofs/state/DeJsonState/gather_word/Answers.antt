use Rattle.std.proofs.Common.{sym, ◌∙◌, refl, rules, arith, append-nil, ap, length, length-append}
use Rattle.std.proofs.Common.{string_bytes}
use Rattle.std.proofs.lemmas.Grind.{common_steps}
use Rattle.nano_text.proofs.RemainingText.{first_is-remaining, not_nul}
use Rattle.nano_text.proofs.Prefixes.{after_stop, prefix_stop}
use Rattle.nano_text.proofs.PlaceLaws.{moves_append}
use Rattle.nano_text.specs.Characters.{prefix}
use Rattle.nano_text.specs.Place.{remaining}
use Rattle.nano_grammar.proofs.TokenCalls.{passed_on}
use Rattle.nano_json_tokens.proofs.Capacity.{word_has_one, word_is_one_byte}
use Rattle.nano_json_tokens.specs.Cut.{is_word}
use Rattle.nano_json_tokens.proofs.Scanning.{moved_none}
use Rattle.nano_json_tokens.proofs.state.DeJsonState.gather_word.Goals as goal

pub returns-clause-word : goal.returns-clause-word
returns-clause-word c =
    let stop = first_is-remaining is_word c.word.self.cur c.word.i refl ∙ sym c.word-test.ensures in
    let full = c.word.invariant.taken in
    record {
      word = sym (append-nil _) ∙ rw (prefix_stop is_word _ stop) at full;
      passed = record { rest = sym (after_stop is_word _ stop) ∙ c.word.invariant.rest; place = c.word.invariant.place };
    }

pub word-preserved : goal.word-preserved
word-preserved c = record {
  rest = search rules;
  capacity = rw c.next.ensures.identbuf (omega (arith, c.word.invariant.capacity, c.in_ok-push.ensures.capacity));
  taken = grind (arith, common_steps);
  place = moves_append c.word.invariant.place (c.next.ensures.counts (not_nul is_word c.word.self.cur refl (sym c.word-test.ensures)));
  strbuf = search rules;
  numbuf = search rules;
}

pub returns-in_err-push-clause-word : goal.returns-in_err-push-clause-word
returns-in_err-push-clause-word c =
    let word = c.word.self.identbuf in
    let left = prefix is_word (remaining c.word.self.cur c.word.i) in
    let some = word_has_one c.word.self.cur c.word.i (sym c.word-test.ensures) in
    let one = word_is_one_byte c.word.self.cur (sym c.word-test.ensures) in
    let whole = ap length c.word.invariant.taken in
    passed_on _ _ c.from_residual.result c.from_residual.ensures.1 (record {
      full = omega (arith, c.in_err-push.ensures.full, word.bytes.ok.0, some, one, whole, length-append (string_bytes word) left, c.word.invariant.capacity);
      place = c.word.invariant.place;
    })

pub word-init : goal.word-init
word-init c = record {
  rest = refl;
  taken = rw c.clear.ensures.bytes refl;
  capacity = omega (arith, c.clear.ensures.capacity);
  place = moved_none c.args.self.now c.args.i.now;
  strbuf = refl;
  numbuf = refl;
}
