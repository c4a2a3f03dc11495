-- Faults of the stream and of memory, and those of the bytes.
use Rattle.std.specs.Prelude.{◌≡◌, Result, IfErr}
use Rattle.std.specs.declared.io.Error.{Error}
use Rattle.nano_bin_bytes.specs.declared.error.DeBinErr.{DeBinErr}
use Rattle.example_store.specs.declared.rows.Fault.{Fault}
use Rattle.example_store.specs.declared.rows.Fault.TheVariants.{Refused, Stream}

-- a read or a write failed, or an allocation failed
abbrev pub IsOfStream : Fault → Type 0
IsOfStream fault = (error : Error) × (fault ≡ Stream error)

-- where the bytes were rejected
abbrev pub OnRefused : {T : Type 0} → Result T Fault → Type 0 → Type 0
OnRefused result P = IfErr result (λ fault. (error : DeBinErr) → fault ≡ Refused error → P)
