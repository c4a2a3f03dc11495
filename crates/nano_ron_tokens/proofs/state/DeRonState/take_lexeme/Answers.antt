use Rattle.std.proofs.Common.{sym, ◌∙◌, refl, ap, subst, ne_eqb, List, ℕ, [], inl, string_bytes}
use Rattle.std.proofs.Common.{rules}
use Rattle.std.proofs.lemmas.Result.{MatchResult-weaker}
use Rattle.nano_text.proofs.RemainingText.{first_is-remaining, remaining_end}
use Rattle.nano_text.specs.Characters.{following}
use Rattle.nano_text.specs.Place.{remaining}
use Rattle.nano_ron_tokens.specs.Cut.{starts_number, starts_word, is_word, IsWord, IsLexeme}
use Rattle.nano_ron_tokens.specs.Cut.{IsRunOf, IsQuoted, punctuator, word, number, quoted, single}
use Rattle.nano_ron_tokens.specs.Cut.{nothing}
use Rattle.nano_ron_tokens.specs.Scan.{starts_gap}
use Rattle.nano_ron_tokens.specs.State.{pending}
use Rattle.nano_ron_tokens.specs.Token.{Token}
use Rattle.nano_ron_tokens.proofs.Cuts.{word_lexeme, punctuator_lexeme, punctuator_some}
use Rattle.nano_ron_tokens.proofs.LexemeKinds.{kind_of, kind_remaining, kind_number, kind_string}
use Rattle.nano_ron_tokens.proofs.LexemeKinds.{kind_single, kind_word, kind_none, no_slash}
use Rattle.nano_ron_tokens.proofs.LexemeKinds.{only_number, only_quoted, only_single, only_word}
use Rattle.nano_ron_tokens.proofs.LexemeKinds.{only_none}
use Rattle.nano_ron_tokens.proofs.Capacity.{word_outgrows, word_keeps}
use Rattle.nano_text.specs.Breaks.{BreaksNumber, BreaksString, is_quote}
use Rattle.nano_ron_tokens.specs.Breaks.{BreaksLexeme, number as bad_number, quoted as bad_string}
use Rattle.nano_ron_tokens.specs.Breaks.{single as bad_single, character as bad_character}
use Rattle.nano_ron_tokens.proofs.Scanning.{moved_none, scans_as, character_breaks, both_hold}
use Rattle.nano_ron_tokens.proofs.state.DeRonState.take_lexeme.Goals as goal

pub returns-in-Some : goal.returns-in-Some
returns-in-Some c =
    let is = sym (c.in-Some.ensures (string_bytes c.next.new.self.strbuf) (string_bytes c.next.new.self.numbuf) (string_bytes c.next.new.self.identbuf)) in
    record {
      taken = rw (c.next.ensures.taken (punctuator_some _ _ is)) (punctuator (punctuator_lexeme _ _ _ is));
      buffers = search rules;
      place = c.next.ensures.counts (punctuator_some _ _ is);
    }

pub returns-then-starts_number : goal.returns-then-starts_number
returns-then-starts_number c =
    let cur = c.args.self.now.cur in
    let starts = first_is-remaining starts_number cur c.args.i.now refl ∙ sym c.if-starts_number.ensures in
    let kind = kind_remaining cur c.args.i.now ∙ kind_number cur (sym c.if-starts_number.ensures) in
    scans_as (λ text token rest. IsRunOf token text rest) (λ text token rest. IsLexeme token text rest) BreaksNumber BreaksLexeme
    c.args.self.now c.take_number.new.self c.args.i.now c.take_number.new.i
    (λ t rest h. number starts h) (λ t rest l. only_number t (remaining cur c.args.i.now) rest kind l) (λ rest b. bad_number starts b) c.take_number.result c.take_number.ensures

pub returns-then-self-eq34 : goal.returns-then-self-eq34
returns-then-self-eq34 c =
    let cur = c.args.self.now.cur in
    let kind = kind_remaining cur c.args.i.now ∙ (ap kind_of c.if-self-eq34.true ∙ kind_string) in
    scans_as (λ text token rest. IsQuoted token text rest) (λ text token rest. IsLexeme token text rest) BreaksString BreaksLexeme
    c.args.self.now c.take_string.new.self c.args.i.now c.take_string.new.i
    (λ t rest h. quoted h) (λ t rest l. only_quoted t (remaining cur c.args.i.now) rest kind l)
    (λ rest b. bad_string (first_is-remaining is_quote cur c.args.i.now refl ∙ ap is_quote c.if-self-eq34.true) b) c.take_string.result c.take_string.ensures

pub returns-then-self-eq39 : goal.returns-then-self-eq39
returns-then-self-eq39 c =
    let cur = c.args.self.now.cur in
    let kind = kind_remaining cur c.args.i.now ∙ (ap kind_of c.if-self-eq39.true ∙ kind_single) in
    let place = c.take_character.ensures.place in
    MatchResult-weaker c.take_character.result (both_hold _ _ _ c.take_character.result c.take_character.ensures.taken c.take_character.ensures.broken)
    (λ _ h. record { taken = single h.0; buffers = h.1; place = place })
    (λ _ both. let h = both.0 in record {
      rejected = λ known t rest l. h.1 t rest (only_single t (remaining cur c.args.i.now) rest kind l);
      broken = λ known. bad_single both.1;
      capacity = λ memory. absurd (let e = sym h.0 ∙ memory in cc e);
      place = place;
    })

pub returns-then-starts_word : goal.returns-then-starts_word
returns-then-starts_word c =
    let cur = c.args.self.now.cur in
    let text = remaining cur c.args.i.now in
    let new = c.take_word.new.self in
    let starts = first_is-remaining starts_word cur c.args.i.now refl ∙ sym c.if-starts_word.ensures in
    let kind = kind_remaining cur c.args.i.now ∙ kind_word cur (sym c.if-starts_word.ensures) in
    MatchResult-weaker c.take_word.result c.take_word.ensures.word
    (λ _ h. let lexeme = subst (λ (t : Token). IsWord t text (following is_word text)) (sym h.word) (word_lexeme text starts) in record {
      taken = word (subst (λ (rest : List ℕ). IsWord (pending new) text rest) (sym h.passed.rest) lexeme);
      buffers = word_keeps c.args.self.now new text (following is_word text) c.take_word.ensures.others.0 c.take_word.ensures.others.1 lexeme;
      place = h.passed.place;
    })
    (λ _ h. record {
      rejected = λ known. absurd (known h.0);
      broken = λ known. absurd (known h.0);
      capacity = λ memory t rest l. word_outgrows c.args.self.now t text rest h.1.full (only_word t text rest kind l);
      place = h.1.place;
    })

pub returns-then-self-eq0 : goal.returns-then-self-eq0
returns-then-self-eq0 c =
    let none = ap (λ (cur : ℕ). remaining cur c.args.i.now) c.if-self-eq0.true ∙ remaining_end c.args.i.now in
    record { taken = nothing (inl none, none); buffers = search rules; place = moved_none c.args.self.now c.args.i.now }

pub returns : goal.returns
returns c =
    let cur = c.args.self.now.cur in
    let slash = no_slash cur (sym (first_is-remaining starts_gap cur c.args.i.now refl) ∙ c.requires) in
    let none = kind_none cur (sym (c.in_default.ensures [] [] [])) (sym c.if-starts_number.ensures) (ne_eqb cur 34 c.if-self-eq34.false) (ne_eqb cur 39 c.if-self-eq39.false) (sym c.if-starts_word.ensures) (ne_eqb cur 0 c.if-self-eq0.false) slash in
    let kind = kind_remaining cur c.args.i.now ∙ none in
    record {
      rejected = λ known t rest l. only_none t (remaining cur c.args.i.now) rest kind l;
      broken = λ known. bad_character (character_breaks cur c.args.i.now c.if-self-eq0.false none);
      capacity = λ memory. search rules;
      place = moved_none c.args.self.now c.args.i.now;
    }
