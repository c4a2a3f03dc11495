use Rattle.std.proofs.Common.{sym, ◌∙◌, refl, ap, [], string_bytes, rules}
use Rattle.nano_text.proofs.RemainingText.{first_is-remaining}
use Rattle.nano_text.specs.Place.{remaining}
use Rattle.nano_text.specs.Breaks.{BreaksNumber, BreaksString, is_quote}
use Rattle.nano_json_tokens.specs.Breaks.{BreaksLexeme, number as bad_number, quoted as bad_string}
use Rattle.nano_json_tokens.specs.Cut.{starts_number, IsLexeme, IsRunOf, IsQuoted, punctuator}
use Rattle.nano_json_tokens.specs.Cut.{number, quoted}
use Rattle.nano_json_tokens.proofs.LexemeKinds.{kind_of, kind_remaining, kind_number, kind_string}
use Rattle.nano_json_tokens.proofs.LexemeKinds.{only_number, only_quoted}
use Rattle.nano_json_tokens.proofs.Cuts.{punctuator_lexeme, punctuator_some}
use Rattle.nano_json_tokens.proofs.Scanning.{scans_as}
use Rattle.nano_json_tokens.proofs.state.DeJsonState.take_lexeme.Goals as goal

pub take_other-requires-clause-no_punctuator : goal.take_other-requires-clause-no_punctuator
take_other-requires-clause-no_punctuator c = sym (c.in_default.ensures [] [])

pub returns-then-starts_number : goal.returns-then-starts_number
returns-then-starts_number c =
    let cur = c.args.self.now.cur in
    let starts = first_is-remaining starts_number cur c.args.i.now refl ∙ sym c.if-starts_number.ensures in
    let kind = kind_remaining cur c.args.i.now ∙ kind_number cur (sym c.if-starts_number.ensures) in
    scans_as (λ text token rest. IsRunOf token text rest) (λ text token rest. IsLexeme token text rest) BreaksNumber BreaksLexeme
    c.args.self.now c.take_number.new.self c.args.i.now c.take_number.new.i
    (λ t rest h. number starts h) (λ t rest l. only_number t (remaining cur c.args.i.now) rest kind l) (λ rest b. bad_number starts b) c.take_number.result c.take_number.ensures

pub returns-then-self-eq34 : goal.returns-then-self-eq34
returns-then-self-eq34 c =
    let cur = c.args.self.now.cur in
    let kind = kind_remaining cur c.args.i.now ∙ (ap kind_of c.if-self-eq34.true ∙ kind_string) in
    scans_as (λ text token rest. IsQuoted token text rest) (λ text token rest. IsLexeme token text rest) BreaksString BreaksLexeme
    c.args.self.now c.take_string.new.self c.args.i.now c.take_string.new.i
    (λ t rest h. quoted h) (λ t rest l. only_quoted t (remaining cur c.args.i.now) rest kind l)
    (λ rest b. bad_string (first_is-remaining is_quote cur c.args.i.now refl ∙ ap is_quote c.if-self-eq34.true) b) c.take_string.result c.take_string.ensures

pub returns-in-Some : goal.returns-in-Some
returns-in-Some c =
    let is = sym (c.in-Some.ensures (string_bytes c.next.new.self.strbuf) (string_bytes c.next.new.self.numbuf)) in
    record {
      taken = rw (c.next.ensures.taken (punctuator_some _ _ is)) (punctuator (punctuator_lexeme _ _ _ is));
      buffers = search rules;
      place = c.next.ensures.counts (punctuator_some _ _ is);
    }
