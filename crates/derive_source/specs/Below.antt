-- What stands above the impls' module or a marker, and what is written for it.
use Rattle.std.specs.Prelude.{◌≡◌, ℕ, List, [], ◌∷◌, ◌++◌, codes, string_bytes, MatchOption}
use Rattle.derive_source.specs.declared.derived.Written.{Written}

-- the line that ends a file with user-defined types: it names the module of their impls
abbrev pub module_line : List ℕ
module_line = codes "mod derived;"

-- the line in whose place it is written
abbrev pub marker : List ℕ
marker = codes "// ---- written by derive_files"

-- these bytes stand above such a line in the source
abbrev pub StandsAbove : List ℕ → List ℕ → List ℕ → Type 0
StandsAbove line source above = (rest : List ℕ) × (source ≡ above ++ (line ++ rest))

-- the impls are written for what stands above the module's line alone: `writes` relates a text to
-- the impls that may be written for it. A source with a marker is moved: what stands above the
-- marker, and the module's line in the place of the rest
abbrev pub IsDerived : (List ℕ → List ℕ → Type 0) → List ℕ → Written → Type 0
IsDerived writes source written =
    (above : List ℕ) × writes above (string_bytes written.impls)
    × MatchOption written.moved (StandsAbove module_line source above)
    (λ moved. StandsAbove marker source above
    × (string_bytes moved ≡ above ++ module_line ++ (10 ∷ [])))
