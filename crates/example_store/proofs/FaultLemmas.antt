-- Faults of the stream are not rejections.
use Rattle.std.proofs.Common.{Result, Ok, Err, IfErr}
use Rattle.example_store.specs.declared.rows.Fault.{Fault}
use Rattle.example_store.specs.Faults.{IsOfStream, OnRefused}

pub no_rejection : {T : Type 0} (r : Result T Fault) (P : Type 0) → IfErr r IsOfStream → OnRefused r P
no_rejection (Ok x) P h = tt
no_rejection (Err fault) P h = λ error is. let of_stream = h.1 in absurd (cc)
