use Rattle.std.proofs.Common.{rules, string_bytes, eqb-true, sym}
use Rattle.nano_text.proofs.RunBytes.{runs_more, runs_done}
use Rattle.nano_text.proofs.written.append_characters.Goals as goal

pub runs-preserved : goal.runs-preserved
runs-preserved g c = (
  search rules,
  runs_more (string_bytes c.args.out.now) (string_bytes c.runs.out) (string_bytes c.append_run.new.out) _ _ _
      c.runs.invariant.1 c.in_ok-rest.ensures.ok,
)

pub returns-clause-ok : goal.returns-clause-ok
returns-clause-ok g c =
    runs_done g.E.Escaping.stands g.E.Escaping.written g.met.E.Escaping.wide_stands g.met.E.Escaping.as_itself
    (string_bytes c.args.out.now) (string_bytes c.runs.out) _ c.runs.rest.now c.runs.invariant.1
    (eqb-true _ 0 (sym c.runs-test.ensures))
