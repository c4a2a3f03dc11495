-- The table of a list of statements, read off places in the list.
use Rattle.std.specs.Prelude.{◌≡◌, ℕ, List, [], ◌∷◌, ◌++◌, Option, Some, None, if◌then◌else◌}
use Rattle.std.specs.Prelude.{unwrap_or, String, string_bytes}
use Rattle.std.specs.Str.{bytes_eq}
use Rattle.std.specs.declared.alloc.Global.{Global}
use Rattle.std.proofs.Common.{Bor}
use Rattle.nano_toml.specs.Data.{Data, tables, Tables, no_tables, more_tables, Table, at}
use Rattle.nano_toml.specs.Data.{table_view, no_pairs}
use Rattle.nano_toml.specs.Statements.{Statement, scope, element, pair, Encodes}
use Rattle.nano_toml.specs.declared.value.Toml.{Toml}
use Rattle.nano_toml.specs.declared.table.Builder.{Builder}

-- a full key and its value
abbrev pub Pair : Type 0
Pair = List ℕ × Data

abbrev pub or_else : {A : Type 0} → Option A → Option A → Option A
or_else (Some x) other = Some x
or_else None other = other

-- the value of the last pair with the key
abbrev pub last_value : List ℕ → List Pair → Option Data
last_value key [] = None
last_value key (p ∷ ps) = or_else (last_value key ps) (if bytes_eq key p.0 then Some p.1 else None)

-- the table has the last values of the pairs, and nothing else
abbrev pub HasLast : List Pair → Table → Type 0
HasLast ps table = (key : List ℕ) → at key table ≡ last_value key ps

abbrev pub last_scope : List Statement → Option (List ℕ)
last_scope [] = None
last_scope (scope name ∷ ss) = or_else (last_scope ss) (Some name)
last_scope (s ∷ ss) = last_scope ss

-- the name of the last `[name]` among the statements before a place, or empty
abbrev pub scope_of : List Statement → List ℕ
scope_of before = unwrap_or (last_scope before) []

-- `scope.name`, or `name` in the empty scope
abbrev pub full_key : List ℕ → List ℕ → List ℕ
full_key [] name = name
full_key (c ∷ cs) name = (c ∷ cs) ++ 46 ∷ name

-- the pairs among the statements, with their full keys; the statements `before` stand before them
abbrev pub pairs : List Statement → List Statement → List Pair
pairs before [] = []
pairs before (pair name d ∷ ss) =
    (full_key (scope_of before) name, d) ∷ pairs (before ++ pair name d ∷ []) ss
pairs before (s ∷ ss) = pairs (before ++ s ∷ []) ss

-- the statements up to the next `[[..]]`
abbrev pub until_element : List Statement → List Statement
until_element [] = []
until_element (element key ∷ ss) = []
until_element (s ∷ ss) = s ∷ until_element ss

-- the pairs of the root: of the statements before the first `[[..]]`
abbrev pub root_pairs : List Statement → List Pair
root_pairs ss = pairs [] (until_element ss)

-- for each `[[key]]`, in order, the pairs of the statements from it to the next `[[..]]`; `before`
-- stands before them all
abbrev pub element_pairs : List ℕ → List Statement → List Statement → List (List Pair)
element_pairs key before [] = []
element_pairs key before (element name ∷ ss) =
    let now = before ++ element name ∷ [] in
    if bytes_eq key name then pairs now (until_element ss) ∷ element_pairs key now ss
    else element_pairs key now ss
element_pairs key before (s ∷ ss) = element_pairs key (before ++ s ∷ []) ss

-- one table for each list of pairs, in order, with its last values
abbrev pub HaveLast : List (List Pair) → Tables → Type 0
HaveLast [] no_tables = Unit {0}
HaveLast (ps ∷ more) (more_tables table ts) = HasLast ps table × HaveLast more ts
HaveLast pss ts = ⊥

-- what the root has at a key, by the pairs of its elements and its last value: the Array of the
-- elements, or that value
abbrev pub IsFound : List (List Pair) → Option Data → Option Data → Type 0
IsFound [] last found = found ≡ last
IsFound (ps ∷ more) last found =
    (ts : Tables) × HaveLast (ps ∷ more) ts × (found ≡ Some (tables ts))

-- the table of the statements
abbrev pub IsTableOf : List Statement → Table → Type 0
IsTableOf ss table =
    (key : List ℕ)
    → IsFound (element_pairs key [] ss) (last_value key (root_pairs ss)) (at key table)

-- no `[[key]]` names a key that the root holds by a statement `name = value`
abbrev pub IsLawful : List Statement → Type 0
IsLawful ss =
    (before after : List Statement) (key : List ℕ) → ss ≡ before ++ element key ∷ after
    → last_value key (root_pairs ss) ≡ None

-- the text encodes lawful statements, and this is their table
abbrev pub EncodesTable : List ℕ → Table → Type 0
EncodesTable text table =
    (ss : List Statement) × Encodes text ss × IsLawful ss × IsTableOf ss table

-- the text encodes no lawful statements
abbrev pub EncodesNoTable : List ℕ → Type 0
EncodesNoTable text = (ss : List Statement) → Encodes text ss → IsLawful ss → ⊥

-- two lists that the text encodes are equal
abbrev pub EncodesOneList : List ℕ → Type 0
EncodesOneList text =
    (one other : List Statement) → Encodes text one → Encodes text other → one ≡ other

-- ==== the table is one

-- the keys and values of a map
abbrev pub Pairs : Type 0
Pairs = List (String Global × Toml)

-- two tables of the statements are one
abbrev pub HasOneTable : List Statement → Type 0
HasOneTable ss =
    (one other : Pairs) → IsTableOf ss (table_view one) → IsTableOf ss (table_view other)
    → table_view one ≡ table_view other

-- two tables that the text encodes are equal
abbrev pub EncodesOneTable : List ℕ → Type 0
EncodesOneTable text =
    (one other : Pairs) → EncodesTable text (table_view one) → EncodesTable text (table_view other)
    → table_view one ≡ table_view other

-- ==== the table while it is built

-- new has the value at the key, and at each other key what old has
abbrev pub Puts : Table → List ℕ → Data → Table → Type 0
Puts old key d new =
    (other : List ℕ) → at other new ≡ (if bytes_eq other key then Some d else at other old)

-- the tables with one more at the end
abbrev pub push : Tables → Table → Tables
push no_tables table = more_tables table no_tables
push (more_tables first ts) table = more_tables first (push ts table)

-- what was there, an Array or nothing, with the table at its end
abbrev pub pushed : Option Data → Table → Data
pushed (Some (tables ts)) table = tables (push ts table)
pushed found table = tables (more_tables table no_tables)

-- an Array
abbrev pub IsTables : Data → Type 0
IsTables (tables ts) = Unit {0}
IsTables d = ⊥

-- an Array or nothing
abbrev pub CanPush : Option Data → Type 0
CanPush None = Unit {0}
CanPush (Some d) = IsTables d

-- no header `[[key]]` stands among the statements
abbrev pub NoElement : List Statement → Type 0
NoElement [] = Unit {0}
NoElement (element key ∷ ss) = ⊥
NoElement (s ∷ ss) = NoElement ss

-- none of the pairs has the key of a header `[[key]]`
abbrev pub NoneNamed : List Statement → List Pair → Type 0
NoneNamed [] ps = Unit {0}
NoneNamed (element key ∷ ss) ps = (last_value key ps ≡ None) × NoneNamed ss ps
NoneNamed (s ∷ ss) ps = NoneNamed ss ps

-- the value of a pair is no Array
abbrev pub IsPlain : Statement → Type 0
IsPlain (pair name (tables ts)) = ⊥
IsPlain s = Unit {0}

abbrev pub ArePlain : List Statement → Type 0
ArePlain [] = Unit {0}
ArePlain (s ∷ ss) = IsPlain s × ArePlain ss

-- the root is the table of the statements; or of those before the last header `[[key]]`, whose
-- element has the table
abbrev pub Stands : List Statement → Table → Option (List ℕ) → Table → Type 0
Stands done root None table = NoElement done × IsTableOf done root × (table ≡ no_pairs)
Stands done root (Some key) table =
    (before following : List Statement) × (done ≡ before ++ element key ∷ following)
    × NoElement following
    × IsTableOf before root × HasLast (pairs (before ++ element key ∷ []) following) table

-- the characters of a key, if there is one
abbrev pub key_of : Option (Bor (List ℕ)) → Option (List ℕ)
key_of None = None
key_of (Some key) = Some key.now

-- what was built of the statements
pub record IsBuilt (done : List Statement) (builder : Builder) : Type 0 where
  pub in_scope : string_bytes builder.scope ≡ scope_of done
  pub lawful : NoneNamed done (root_pairs done)
  pub plain : ArePlain done
  pub stands : Stands done (table_view builder.root.entries)
      (key_of builder.key) (table_view builder.table.entries)

-- the root is the table of all the statements
pub record IsWhole (done : List Statement) (builder : Builder) : Type 0 where
  pub in_scope : string_bytes builder.scope ≡ scope_of done
  pub lawful : NoneNamed done (root_pairs done)
  pub plain : ArePlain done
  pub none : builder.key ≡ None
  pub root : IsTableOf done (table_view builder.root.entries)
  pub empty : table_view builder.table.entries ≡ no_pairs
