-- How `rename_all` has names. A name is its characters.
use Rattle.std.specs.Prelude.{ℕ, Bool, true, false, ◌==◌, if◌then◌else◌, List, [], ◌∷◌}
use Rattle.std.specs.Prelude.{map, flat_map}
use Rattle.std.specs.Char.{is_ascii_uppercase}
use Rattle.std.specs.Char.{to_ascii_lowercase as lower, to_ascii_uppercase as upper}
use Rattle.derive_source.specs.declared.case.Case.{Case}
use Rattle.derive_source.specs.declared.case.Case.TheVariants.{Lower, Upper, Pascal, Camel}
use Rattle.derive_source.specs.declared.case.Case.TheVariants.{Snake, ScreamingSnake, Kebab}
use Rattle.derive_source.specs.declared.case.Case.TheVariants.{ScreamingKebab}

-- a hyphen in the place of an underscore
abbrev pub hyphen : ℕ → ℕ
hyphen c = if c == 95 then 45 else c

-- no underscores, and a capital where a word begins, which is after an underscore, and here if
-- `begins`
abbrev pub capitalized : Bool → List ℕ → List ℕ
capitalized begins [] = []
capitalized begins (c ∷ cs) =
    if c == 95 then capitalized true cs
    else ((if begins then upper c else c) ∷ capitalized false cs)

-- no capital at the beginning
abbrev pub uncapitalized : List ℕ → List ℕ
uncapitalized [] = []
uncapitalized (c ∷ cs) = lower c ∷ cs

-- an underscore before a capital
abbrev pub parted : ℕ → List ℕ
parted c = if is_ascii_uppercase c then (95 ∷ c ∷ []) else (c ∷ [])

-- an underscore before each capital but one at the beginning
abbrev pub in_words : List ℕ → List ℕ
in_words [] = []
in_words (c ∷ cs) = c ∷ flat_map parted cs

-- the name of a field, which is taken to be in snake case
abbrev pub field_in : Case → List ℕ → List ℕ
field_in Lower name = name
field_in Upper name = map upper name
field_in Pascal name = capitalized true name
field_in Camel name = uncapitalized (capitalized true name)
field_in Snake name = name
field_in ScreamingSnake name = map upper name
field_in Kebab name = map hyphen name
field_in ScreamingKebab name = map hyphen (map upper name)

-- the name of a variant, which is taken to be in Pascal case
abbrev pub variant_in : Case → List ℕ → List ℕ
variant_in Lower name = map lower name
variant_in Upper name = map upper name
variant_in Pascal name = name
variant_in Camel name = uncapitalized name
variant_in Snake name = map lower (in_words name)
variant_in ScreamingSnake name = map upper (in_words name)
variant_in Kebab name = map hyphen (map lower (in_words name))
variant_in ScreamingKebab name = map hyphen (map upper (in_words name))
