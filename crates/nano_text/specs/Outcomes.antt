-- What the calls that read and write come to.
use Rattle.std.specs.Prelude.{◌≡◌, ◌++◌, ◌<◌, ◌^◌, ℕ, List, Option, SomeIff, String, string_bytes}
use Rattle.std.specs.Prelude.{encode_utf8_all}
use Rattle.std.specs.declared.str.Chars.{Chars}
use Rattle.nano_text.specs.declared.place.Place.{Place}
use Rattle.nano_text.specs.Place.{Moves}

-- line and column count exactly the characters that remain no more
abbrev pub Counts : Place → Chars → Place → Chars → Type 0
Counts = Moves

-- the number, where 64 bits hold it
abbrev pub IsWord : Option ℕ → ℕ → Type 0
IsWord word number = SomeIff word (number < 2 ^ 64) number

-- these characters come after what was there
abbrev pub Appends : {Y Z : Type 0} → String Y → String Z → List ℕ → Type 0
Appends old new characters = string_bytes new ≡ string_bytes old ++ encode_utf8_all characters

-- something comes after what was there, or nothing does
abbrev pub AppendsPart : {Y Z : Type 0} → String Y → String Z → Type 0
AppendsPart old new = (more : List ℕ) × (string_bytes new ≡ string_bytes old ++ more)

-- the text is what it was
abbrev pub Unchanged : {Y Z : Type 0} → String Y → String Z → Type 0
Unchanged old new = string_bytes new ≡ string_bytes old
