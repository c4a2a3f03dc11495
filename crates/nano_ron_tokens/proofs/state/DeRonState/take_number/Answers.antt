use Rattle.std.proofs.Common.{sym, subst, rules}
use Rattle.nano_text.specs.Number.{IsNumber}
use Rattle.nano_text.specs.Place.{remaining, text_at}
use Rattle.nano_text.specs.declared.number.Number.TheVariants.{Dec}
use Rattle.nano_text.specs.declared.place.Place.{Place}
use Rattle.nano_ron_tokens.proofs.Cuts.{run_number}
use Rattle.nano_ron_tokens.proofs.Capacity.{run_outgrows}
use Rattle.nano_text.specs.Breaks.{BreaksNumber}
use Rattle.nano_ron_tokens.proofs.Scanning.{moved_at, broken_at}
use Rattle.nano_ron_tokens.proofs.state.DeRonState.take_number.Goals as goal

pub returns-after-number : goal.returns-after-number
returns-after-number c = record {
  taken = search rules;
  buffers = search rules;
  place = moved_at c.args.self.now (record c.args.self.now { numbuf = c.read_number-read.new.numbuf }) c.stand_at.new.self c.place-place.result c.read_number-read.new.p c.args.i.now c.read_number-read.new.i c.place-place.ensures
      c.stand_at.ensures c.read_number-read.ensures.place;
}

pub returns-in-Malformed : goal.returns-in-Malformed
returns-in-Malformed c = record {
  rejected = λ known t rest h.
      let n = run_number t (remaining c.args.self.now.cur c.args.i.now) rest h in
      c.in-Err.ensures.malformed (cc c.in-Malformed.is) n.0 n.1 rest (subst (λ (p : Place). IsNumber (text_at p c.args.i.now) n.0 n.1 rest) (sym c.place-place.ensures) n.2);
  broken = λ known.
      let breaks = c.in-Err.ensures.breaks (cc c.in-Malformed.is) in
      broken_at c.args.self.now (record c.args.self.now { numbuf = c.read_number-read.new.numbuf }) c.stand_at.new.self c.place-place.result c.read_number-read.new.p c.args.i.now c.read_number-read.new.i c.place-place.ensures
      c.stand_at.ensures BreaksNumber breaks;
  capacity = search rules;
  place = moved_at c.args.self.now (record c.args.self.now { numbuf = c.read_number-read.new.numbuf }) c.stand_at.new.self c.place-place.result c.read_number-read.new.p c.args.i.now c.read_number-read.new.i c.place-place.ensures
      c.stand_at.ensures c.read_number-read.ensures.place;
}

pub returns-in-Memory : goal.returns-in-Memory
returns-in-Memory c = record {
  rejected = search rules;
  broken = search rules;
  capacity = λ known t rest h.
      let m = c.in-Err.ensures.memory (cc c.in-Memory.is) in
      let is = subst (λ (p : Place). IsNumber (text_at p c.args.i.now) Dec m.0 m.1) c.place-place.ensures m.2 in
      run_outgrows c.args.self.now t (remaining c.args.self.now.cur c.args.i.now) rest m.0 m.1 is m.3 h;
  place = moved_at c.args.self.now (record c.args.self.now { numbuf = c.read_number-read.new.numbuf }) c.stand_at.new.self c.place-place.result c.read_number-read.new.p c.args.i.now c.read_number-read.new.i c.place-place.ensures
      c.stand_at.ensures c.read_number-read.ensures.place;
}
