use Rattle.std.proofs.Common.{◌≡◌, refl, sym, ◌∙◌}
use Rattle.std.proofs.lemmas.Result.{MatchResult-weaker}
use Rattle.nano_ron_tokens.specs.Token.{bof, end}
use Rattle.nano_values.proofs.ValuesLaws.{nothing_first, no_value, takes_value}
use Rattle.nano_ron.proofs.Ron.{ron_laws}
use Rattle.nano_values.proofs.RonLemmas.{bof_uncut, is_eof, not_eof, end_is_pending, ended_gives_none}
use Rattle.nano_values.proofs.RonLemmas.{gives_none, rejects_nul}
use Rattle.nano_values.proofs.ron.Values.next.Goals as goal

-- no first token is cut
pub returns-in-Err-clause-taken : goal.returns-in-Err-clause-taken
returns-in-Err-clause-taken g c = record {
  none =
      nothing_first ron_laws bof bof_uncut g.T.RonCodec.ron.encoding.laws c.in-Err.ensures.taken.first
      c.in-Err.ensures.taken.stops;
  nothing = refl;
}

pub returns-in-Err-clause-ended : goal.returns-in-Err-clause-ended
returns-in-Err-clause-ended g c =
    λ h. let wrong : bof ≡ end = sym c.in-Err.ensures.taken.first ∙ h.at_end in absurd (cc)

-- nothing is left
pub returns-in-Eof-clause-taken : goal.returns-in-Eof-clause-taken
returns-in-Eof-clause-taken g c =
    let s = g.T.RonCodec.ron.encoding.laws in
    let is = is_eof c.begin.new.self.state c.in-Eof.is in
    MatchResult-weaker c.finish.result c.finish.ensures
    (λ found h. gives_none s g.T.Value.means c.args.self.now c.begin.new.self c.finish.new.self c.in_default.ensures.taken c.begin.ensures.text found is h)
    (λ e h. rejects_nul s g.T.Value.means c.args.self.now c.begin.new.self c.finish.new.self c.in_default.ensures.taken c.begin.ensures.text e is h)

pub returns-in-Eof-clause-ended : goal.returns-in-Eof-clause-ended
returns-in-Eof-clause-ended g c =
    λ h. ended_gives_none c.args.self.now c.begin.new.self c.finish.new.self c.finish.result c.begin.ensures.text h c.finish.ensures

-- a value is taken
pub returns-in-Ok-clause-taken : goal.returns-in-Ok-clause-taken
returns-in-Ok-clause-taken g c = record {
  is =
      takes_value ron_laws bof bof_uncut g.T.RonCodec.ron.encoding.laws c.in_default.ensures.taken
      c.in-Ok.ensures;
  same = c.begin.ensures.text;
}

pub returns-in-Ok-clause-ended : goal.returns-in-Ok-clause-ended
returns-in-Ok-clause-ended g c =
    λ h. absurd (not_eof c.begin.new.self.state c.in_default-tok.not-Eof
    (end_is_pending c.args.self.now c.begin.new.self c.in_default.ensures.taken h))

-- none is encoded there
pub returns-in-Err-de_ron-clause-taken : goal.returns-in-Err-de_ron-clause-taken
returns-in-Err-de_ron-clause-taken g c = record {
  none =
      no_value ron_laws bof bof_uncut g.T.RonCodec.ron.encoding.laws c.in_default.ensures.taken
      (not_eof c.begin.new.self.state c.in_default-tok.not-Eof) c.in-Err-de_ron.ensures;
  nothing = refl;
}

pub returns-in-Err-de_ron-clause-ended : goal.returns-in-Err-de_ron-clause-ended
returns-in-Err-de_ron-clause-ended g c =
    λ h. absurd (not_eof c.begin.new.self.state c.in_default-tok.not-Eof
    (end_is_pending c.args.self.now c.begin.new.self c.in_default.ensures.taken h))
