-- Enums: a variant means its place among the others and what its content means, in every format.
use Rattle.std.specs.Prelude.{◌⊎◌, ℕ, suc}
use Rattle.nano_meaning.specs.Meaning.{Meaning, whole, paired, IsImage}

-- the variants of an enum in their order, each by what is legal for its content
pub data Variants : Type 1 where
  no_variants : Variants
  variant : (Meaning → Type 0) → Variants → Variants

-- what the variant at a place means, whose content means this. Of a variant without content it
-- means `nothing`
abbrev pub tagged : ℕ → Meaning → Meaning
tagged place content = paired (whole place, content)

-- one of the variants, of which the first has this place, with legal content
abbrev pub LegalFrom : ℕ → Variants → Meaning → Type 0
LegalFrom from no_variants m = ⊥
LegalFrom from (variant legal others) m = IsImage (tagged from) legal m
    ⊎ LegalFrom (suc from) others m

-- one of the variants, counted from 0 on
abbrev pub LegalVariant : Variants → Meaning → Type 0
LegalVariant = LegalFrom 0

-- how many variants there are
abbrev pub count_variants : Variants → ℕ
count_variants no_variants = 0
count_variants (variant legal others) = suc (count_variants others)
