-- What an error says of a source.
use Rattle.std.specs.Prelude.{List, ℕ}
use Rattle.derive_source.specs.declared.error.DeriveError.{DeriveError}
use Rattle.derive_source.specs.declared.error.DeriveError.TheVariants.{Source, Memory}
use Rattle.derive_source.specs.Place.{StandsIn}

-- the error is of a byte of the source, or of memory
abbrev pub IsErrorIn : List ℕ → DeriveError → Type 0
IsErrorIn source (Source fault) = StandsIn source fault
IsErrorIn source Memory = Unit {0}
