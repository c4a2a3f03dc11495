-- Faults of the reader, the writer and memory.
use Rattle.std.specs.Prelude.{◌≡◌}
use Rattle.std.specs.declared.io.Error.{Error}
use Rattle.nano_lines.specs.declared.error.Fault.{Fault}
use Rattle.nano_lines.specs.declared.error.Fault.TheVariants.{Stream}

-- a read or a write failed, or allocation failed
abbrev pub IsOfStream : Fault → Type 0
IsOfStream fault = (error : Error) × (fault ≡ Stream error)
