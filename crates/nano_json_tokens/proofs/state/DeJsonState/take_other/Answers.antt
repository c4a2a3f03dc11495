use Rattle.std.proofs.Common.{sym, refl, ◌∙◌, ap, subst, ne_eqb, List, ℕ, rules}
use Rattle.std.proofs.lemmas.Result.{MatchResult-weaker}
use Rattle.nano_text.proofs.RemainingText.{remaining_end, first_is-remaining}
use Rattle.nano_text.specs.Place.{remaining}
use Rattle.nano_text.specs.Characters.{following}
use Rattle.nano_json_tokens.specs.Breaks.{BreaksWord, character}
use Rattle.nano_json_tokens.specs.Breaks.{word as no_word}
use Rattle.nano_json_tokens.specs.Cut.{is_word, IsWord, word, nothing}
use Rattle.nano_json_tokens.specs.State.{pending}
use Rattle.nano_json_tokens.proofs.Cuts.{word_lexeme, word_prefix}
use Rattle.nano_json_tokens.proofs.LexemeKinds.{kind_remaining, kind_word, kind_none, only_word}
use Rattle.nano_json_tokens.proofs.LexemeKinds.{only_none}
use Rattle.nano_json_tokens.proofs.Capacity.{word_outgrows, word_keeps}
use Rattle.nano_json_tokens.proofs.Scanning.{moved_none, word_breaks, character_breaks}
use Rattle.nano_json_tokens.proofs.state.DeJsonState.take_other.Goals as goal

pub returns-then-is_word : goal.returns-then-is_word
returns-then-is_word c =
    let cur = c.args.self.now.cur in
    let text = remaining cur c.args.i.now in
    let new = c.take_word.new.self in
    let kind = kind_remaining cur c.args.i.now ∙ kind_word cur c.requires.no_punctuator c.requires.no_number (ne_eqb cur 34 c.requires.no_string) (sym c.if-is_word.ensures) in
    MatchResult-weaker c.take_word.result c.take_word.ensures.word
    (λ _ h. let lexeme = word_lexeme text (pending new) h.word in record {
      taken = word (subst (λ (rest : List ℕ). IsWord (pending new) text rest) (sym h.passed.rest) lexeme);
      buffers = word_keeps c.args.self.now new text (following is_word text) c.take_word.ensures.others.0 c.take_word.ensures.others.1 lexeme;
      place = h.passed.place;
    })
    (λ _ h. record {
      rejected = λ known t rest l. let e = sym (h.rejected known) ∙ (word_prefix t text rest (only_word t text rest kind l)).0 in cc e;
      broken = λ known.
          no_word (first_is-remaining is_word cur c.args.i.now refl ∙ sym c.if-is_word.ensures)
          (subst (λ (rest : List ℕ). BreaksWord text rest) (sym (h.rest known)) (word_breaks text (h.rejected known)));
      capacity = λ memory t rest l. word_outgrows c.args.self.now t text rest (h.capacity memory) (only_word t text rest kind l);
      place = h.place;
    })

pub returns-then-self-eq0 : goal.returns-then-self-eq0
returns-then-self-eq0 c =
    let none = ap (λ (cur : ℕ). remaining cur c.args.i.now) c.if-self-eq0.true ∙ remaining_end c.args.i.now in
    record { taken = nothing (none, none); buffers = search rules; place = moved_none c.args.self.now c.args.i.now }

pub returns : goal.returns
returns c =
    let cur = c.args.self.now.cur in
    let kind = kind_remaining cur c.args.i.now ∙ kind_none cur c.requires.no_punctuator c.requires.no_number (ne_eqb cur 34 c.requires.no_string) (sym c.if-is_word.ensures) (ne_eqb cur 0 c.if-self-eq0.false) in
    record {
      rejected = λ known t rest l. only_none t (remaining cur c.args.i.now) rest kind l;
      broken = λ known.
          character (character_breaks cur c.args.i.now c.if-self-eq0.false
          (kind_none cur c.requires.no_punctuator c.requires.no_number (ne_eqb cur 34 c.requires.no_string) (sym c.if-is_word.ensures) (ne_eqb cur 0 c.if-self-eq0.false))
          (sym c.if-is_word.ensures));
      capacity = λ memory. search rules;
      place = moved_none c.args.self.now c.args.i.now;
    }
