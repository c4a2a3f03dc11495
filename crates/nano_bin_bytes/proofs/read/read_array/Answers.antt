use Rattle.nano_bin_bytes.proofs.Runs.{chunk_reads}
use Rattle.nano_bin_bytes.proofs.read.read_array.Goals as goal

pub returns-in-Some-clause-ok : goal.returns-in-Some-clause-ok
returns-in-Some-clause-ok g c =
    let chunk = c.in-Some.ensures.cases in
    chunk_reads g.row.N _ _ _ _ c.rest.ensures chunk.enough chunk.same
