-- When two documents are equal: when they mean the same. A number is the same as a `U64` and as an
-- `I64`, and an object the same only with the same entries in the same order.
use Rattle.std.specs.Prelude.{Bool, true, false, ◌&&◌}
use Rattle.std.specs.Str.{bytes_eq}
use Rattle.std.specs.Ordering.{int_eq}
use Rattle.nano_value.specs.Meaning.{Meaning, number, text, nothing, both}
use Rattle.nano_document.specs.declared.json.Json.{Json}
use Rattle.nano_document.specs.Documents.{json_means}

-- whether two meanings are the same
abbrev pub meaning_eq : Meaning → Meaning → Bool
meaning_eq (number y) (number z) = int_eq y z
meaning_eq (text a) (text b) = bytes_eq a b
meaning_eq nothing nothing = true
meaning_eq (both a b) (both c d) = meaning_eq a c && meaning_eq b d
meaning_eq _ _ = false

-- whether two documents are equal
abbrev pub json_eq : Json → Json → Bool
json_eq x y = meaning_eq (json_means x) (json_means y)
