-- What a document holds: its items, its entries, and the last entry of a name.
use Rattle.std.specs.Prelude.{◌≡◌, ℕ, List, [], ◌∷◌, ◌++◌, All, String, string_bytes}
use Rattle.std.specs.Global.{Global}
use Rattle.nano_document.specs.declared.json.Json.{Json}
use Rattle.nano_document.specs.declared.json.Json.TheOpen.{Json-F}
use Rattle.nano_document.specs.declared.json.Json.TheViews.{out-Json}

abbrev pub items_of : {X : Type 0} → Json-F X → List X
items_of (Json-F.List xs) = xs.items
items_of _ = []

abbrev pub entries_of : {X : Type 0} → Json-F X → List (String Global × X)
entries_of (Json-F.Object es) = es.items
entries_of _ = []

-- the documents of a list, in order; none of any other document
abbrev pub items : Json → List Json
items x = items_of (out-Json x)

-- the names of an object with their documents, in order; none of any other document
abbrev pub entries : Json → List (String Global × Json)
entries x = entries_of (out-Json x)

-- no entry has such a name
abbrev pub HasNone : (List ℕ → Type 0) → List (String Global × Json) → Type 0
HasNone IsName es = All (λ e. IsName (string_bytes e.0) → ⊥) es

-- of the entries with such a name, the last one has this document
pub record IsLast (IsName : List ℕ → Type 0) (es : List (String Global × Json)) (value : Json)
    : Type 0 where
  pub before : List (String Global × Json)
  pub name : String Global
  pub after : List (String Global × Json)
  pub stands : es ≡ before ++ (name, value) ∷ after
  pub is_name : IsName (string_bytes name)
  pub is_last : HasNone IsName after
