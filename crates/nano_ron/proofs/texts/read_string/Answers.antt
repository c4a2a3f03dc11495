use Rattle.std.proofs.Common.{rules, ◌≡◌, sym, subst, ap, ◌<◌, length, string_bytes, refl}
use Rattle.std.proofs.lemmas.Str.{IsUtf8-string_bytes}
use Rattle.std.specs.declared.str.Chars.{Chars}
use Rattle.nano_text.specs.Place.{remaining, Advances, Moves}
use Rattle.nano_value.specs.Meaning.{IsText, text, usize_bound}
use Rattle.nano_grammar.specs.Outcomes.{Position, Report, Fails, TookNext, ReadsNone, Uncut}
use Rattle.nano_grammar.proofs.FaultLaws.{uncut_from}
use Rattle.nano_grammar.proofs.TokenCalls.{passed_on}
use Rattle.nano_grammar.proofs.ReadingCalls.{one_read, one_not, one_stopped}
use Rattle.nano_ron_tokens.specs.Breaks.{Breaks}
use Rattle.nano_ron_tokens.specs.Cut.{Cut}
use Rattle.nano_ron_tokens.proofs.RonLaws.{ron}
use Rattle.nano_ron_tokens.proofs.ScalarsLaws.{text_tokens}
use Rattle.nano_ron_tokens.specs.Outcomes.{position, report}
use Rattle.nano_ron_tokens.specs.State.{place_of}
use Rattle.nano_ron_tokens.specs.Token.{Token, IsStr}
use Rattle.nano_ron_tokens.specs.declared.state.DeRonState.{DeRonState}
use Rattle.nano_ron.specs.ScalarCodecs.{texts}
use Rattle.nano_ron.proofs.texts.read_string.Goals as goal

-- the next token is taken as it was before the text was taken out of its buffer
module _ (old mid : DeRonState) (i : Chars) (end : Position Token) (is : mid ≡ record old { strbuf = mid.strbuf }) where
  next_from : {buffered : Type 0} → TookNext Cut buffered (position mid i) end → TookNext Cut buffered (position old i) end
  next_from h = record {
    taken = subst (λ (s : DeRonState). Cut (remaining s.cur i) end.at.token end.at.text) is h.taken;
    buffers = h.buffers;
    place = subst (λ (s : DeRonState). Moves (place_of s) i end.place end.input) is h.place;
  }

  stopped_from : {e : Report} → Fails (Uncut Cut Breaks (position mid i) end) (position mid i) end e
      → Fails (Uncut Cut Breaks (position old i) end) (position old i) end e
  stopped_from h = record {
    rejected = λ known. uncut_from (ap (λ (s : DeRonState). remaining s.cur i) is) (ap place_of is) refl (h.rejected known);
    made = h.made;
    place = subst (λ (s : DeRonState). Advances (place_of s) i end.place end.input) is h.place;
  }

pub returns : goal.returns
returns c =
    let bytes = string_bytes c.in_ok-text.text in
    let count : length bytes < usize_bound = search rules in
    let next = next_from c.args.state.now c.as_string.new.self c.args.input.now (position c.next_tok.new.self c.next_tok.new.i) c.in_ok-text.ensures.others c.in_ok-next_tok.ensures in
    one_read ron text text_tokens.carries IsText bytes c.in_ok-text.ensures.is (record { count = count; utf8 = IsUtf8-string_bytes c.in_ok-text.text }) next

pub returns-in_err-text : goal.returns-in_err-text
returns-in_err-text c =
    let start = position c.args.state.now c.args.input.now in
    let h = c.in_err-text.ensures in
    passed_on _ _ c.from_residual.result c.from_residual.ensures.1
    (subst (λ (s : DeRonState). ReadsNone Cut Breaks texts.encodes start (position s c.args.input.now) (report c.in_err-text.field-0.0)) (sym h.unchanged)
    (one_not ron text text_tokens.carries IsText refl (λ x is _. h.lacks (subst IsStr (sym is) tt)) h.made))

pub returns-in_err-next_tok : goal.returns-in_err-next_tok
returns-in_err-next_tok c =
    passed_on _ _ c.from_residual-in_err-next_tok.result c.from_residual-in_err-next_tok.ensures.1
    (one_stopped ron text text_tokens.carries IsText refl
    (stopped_from c.args.state.now c.as_string.new.self c.args.input.now (position c.next_tok.new.self c.next_tok.new.i) c.in_ok-text.ensures.others c.in_err-next_tok.ensures.fails))
