use Rattle.std.proofs.Common.{sym, subst, rules}
use Rattle.nano_text.specs.Place.{remaining, text_at}
use Rattle.nano_text.specs.String.{IsString}
use Rattle.nano_text.specs.declared.place.Place.{Place}
use Rattle.nano_ron_tokens.proofs.Cuts.{quoted_string}
use Rattle.nano_ron_tokens.proofs.Capacity.{quoted_outgrows}
use Rattle.nano_text.specs.Breaks.{BreaksString}
use Rattle.nano_ron_tokens.proofs.Scanning.{moved_at, broken_at}
use Rattle.nano_ron_tokens.proofs.state.DeRonState.take_string.Goals as goal

pub returns-in-Ok : goal.returns-in-Ok
returns-in-Ok c = record {
  taken = search rules;
  buffers = search rules;
  place = moved_at c.args.self.now (record c.args.self.now { strbuf = c.read_string-read.new.strbuf }) c.stand_at.new.self c.place-place.result c.read_string-read.new.p c.args.i.now c.read_string-read.new.i c.place-place.ensures
      c.stand_at.ensures c.read_string-read.ensures.place;
}

pub returns-in-Malformed : goal.returns-in-Malformed
returns-in-Malformed c = record {
  rejected = λ known t rest h.
      let s = quoted_string t (remaining c.args.self.now.cur c.args.i.now) rest h in
      c.in-Err.ensures.malformed (cc c.in-Malformed.is) s.0 rest (subst (λ (p : Place). IsString (text_at p c.args.i.now) s.0 rest) (sym c.place-place.ensures) s.1);
  broken = λ known.
      let breaks = c.in-Err.ensures.breaks (cc c.in-Malformed.is) in
      broken_at c.args.self.now (record c.args.self.now { strbuf = c.read_string-read.new.strbuf }) c.stand_at.new.self c.place-place.result c.read_string-read.new.p c.args.i.now c.read_string-read.new.i c.place-place.ensures
      c.stand_at.ensures BreaksString breaks;
  capacity = search rules;
  place = moved_at c.args.self.now (record c.args.self.now { strbuf = c.read_string-read.new.strbuf }) c.stand_at.new.self c.place-place.result c.read_string-read.new.p c.args.i.now c.read_string-read.new.i c.place-place.ensures
      c.stand_at.ensures c.read_string-read.ensures.place;
}

pub returns-in-Memory : goal.returns-in-Memory
returns-in-Memory c = record {
  rejected = search rules;
  broken = search rules;
  capacity = λ known t rest h.
      let capacity = c.in-Err.ensures.memory (cc c.in-Memory.is) in
      quoted_outgrows c.args.self.now t (remaining c.args.self.now.cur c.args.i.now) rest
      (λ cs left is. capacity cs left (subst (λ (p : Place). IsString (text_at p c.args.i.now) cs left) (sym c.place-place.ensures) is)) h;
  place = moved_at c.args.self.now (record c.args.self.now { strbuf = c.read_string-read.new.strbuf }) c.stand_at.new.self c.place-place.result c.read_string-read.new.p c.args.i.now c.read_string-read.new.i c.place-place.ensures
      c.stand_at.ensures c.read_string-read.ensures.place;
}
