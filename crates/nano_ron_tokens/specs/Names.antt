-- Names of fields and variants in RON: words that are no booleans.
use Rattle.std.specs.Prelude.{ℕ, ◌&&◌, not, Bool, List, codes, bytes_eq}
use Rattle.std.specs.List.{list_all}
use Rattle.nano_text.specs.Characters.{first_is}
use Rattle.nano_ron_tokens.specs.Cut.{starts_word, is_word}

-- a word that is no boolean: a test
abbrev pub is_name : List ℕ → Bool
is_name name =
    first_is starts_word name && (list_all is_word name
    && (not (bytes_eq name (codes "true")) && not (bytes_eq name (codes "false"))))

abbrev pub are_names : List (List ℕ) → Bool
are_names names = list_all is_name names
