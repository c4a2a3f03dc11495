use Rattle.std.proofs.Common.{arith, rules, ap, map, ◌∙◌}
use Rattle.std.proofs.lemmas.Grind.{common_steps}
use Rattle.std.proofs.lemmas.Simd.{map-map}
use Rattle.std.proofs.lemmas.Result.{err_from_is_err_and}
use Rattle.nano_bin_bytes.specs.declared.error.DeBinKind.TheVariants.{Memory}
use Rattle.nano_bin_bytes.specs.Reading.{rejection}
use Rattle.nano_bin_bytes.specs.Containers.{EncodesCount}
use Rattle.nano_bin_bytes.proofs.ErrorsLaws.{passed_on, memory_reads_none}
use Rattle.nano_bin_bytes.proofs.Runs.{run_reads, run_rejected}
use Rattle.nano_bin_bytes.proofs.numbers.read_run.Goals as goal

pub returns-in_err-chunks-clause-err : goal.returns-in_err-chunks-clause-err
returns-in_err-chunks-clause-err g c =
    let p = err_from_is_err_and c.from_residual.result c.from_residual.ensures.1 in
    let r = c.in_err-chunks.ensures.err in
    rw (p.1, p.2) (record {
      none = passed_on (EncodesCount c.args.count g.T.FixedWidth.encodes) (omega arith) r.none (λ more. run_rejected g.row.N g.met.T.FixedWidth.has_width _ _);
      short = λ _. r.short;
      memory = first_of (search rules, grind (arith, common_steps));
    })

pub returns-clause-ok : goal.returns-clause-ok
returns-clause-ok g c =
    let means = g.T.Value.means in
    let of_bytes = g.T.FixedWidth.of_bytes in
    let chunks = c.in_ok-chunks.chunks.now in
    let items = ap (map means) c.in-Ok.ensures ∙ map-map means of_bytes chunks in
    rw items (run_reads g.row.N g.met.T.FixedWidth.has_width _ _ _ _ _ (λ i. omega (arith, c.type_inv.bytes i)) c.in_ok-chunks.ensures.ok)

pub returns-in_default-clause-err : goal.returns-in_default-clause-err
returns-in_default-clause-err g c =
    let moved = c.in_ok-chunks.ensures.moved in
    record {
      none = memory_reads_none _ _ _ _ _ (omega (arith, moved)) c.no_memory.ensures;
      short = first_of (search rules, grind (arith, common_steps));
      memory = λ memory.
          c.no_memory.ensures
          ∙ ap (λ place. rejection Memory place 0 c.args.bytes.now) moved;
    }
