-- What a TOML value means. A table has each of its keys once, in ascending order, so that equal
-- tables are one.
use Rattle.std.specs.Prelude.{ℕ, ℤ, List, Bool, Option, Some, None, if◌then◌else◌, [], ◌∷◌, map}
use Rattle.std.specs.Prelude.{String, string_bytes, ◌≡◌, true, false, ◌&&◌}
use Rattle.std.specs.Ordering.{nat_cmp, match_ordering, int_eq}
use Rattle.std.specs.Str.{bytes_eq}
use Rattle.std.specs.Cmp.Lexicographic.{slice_cmp}
use Rattle.std.specs.declared.alloc.Global.{Global}
use Rattle.std.specs.declared.hash.FoldHasher.{FoldHasher}
use Rattle.std.specs.declared.hash.BuildHasherDefault.{BuildHasherDefault}
use Rattle.std.specs.HashMap.{HashMap}
use Rattle.std.specs.Bool.{beq}
use Rattle.nano_toml.specs.declared.value.Toml.{Toml, fold-Toml}
use Rattle.nano_toml.specs.declared.value.Toml.TheOpen.{Toml-F}

-- texts and keys are the bytes of their UTF-8
mutual
  pub data Data : Type 0 where
    text : List ℕ → Data
    boolean : Bool → Data
    number : ℤ → Data
    decimal : List ℕ → Data
    nan : Bool → Data
    infinity : Bool → Data
    date : List ℕ → Data
    tables : Tables → Data
    values : Values → Data

  pub data Values : Type 0 where
    no_values : Values
    more_values : Data → Values → Values

  pub data Tables : Type 0 where
    no_tables : Tables
    more_tables : Table → Tables → Tables

  pub data Table : Type 0 where
    no_pairs : Table
    more_pairs : List ℕ → Data → Table → Table

-- the table with the value at the key
abbrev pub put : List ℕ → Data → Table → Table
put key value no_pairs = more_pairs key value no_pairs
put key value (more_pairs first there table) =
    match_ordering (slice_cmp nat_cmp key first)
    (more_pairs key value (more_pairs first there table))
    (more_pairs first value table)
    (more_pairs first there (put key value table))

-- what the table has at the key
abbrev pub at : List ℕ → Table → Option Data
at key no_pairs = None
at key (more_pairs first there table) = if bytes_eq key first then Some there else at key table

-- ==== what a `Toml` means

abbrev pub values_of : List Data → Values
values_of [] = no_values
values_of (d ∷ ds) = more_values d (values_of ds)

abbrev pub tables_of : List Table → Tables
tables_of [] = no_tables
tables_of (t ∷ ts) = more_tables t (tables_of ts)

-- the table of these pairs
abbrev pub table_of : List (String Global × Data) → Table
table_of [] = no_pairs
table_of (p ∷ ps) = put (string_bytes p.0) p.1 (table_of ps)

-- one level, in which each value inside is already seen as what it means
abbrev pub view_step : Toml-F Data → Data
view_step (Toml-F.Str s) = text (string_bytes s)
view_step (Toml-F.Bool b) = boolean b
view_step (Toml-F.Num n) = number n
view_step (Toml-F.Dec s) = decimal (string_bytes s)
view_step (Toml-F.Nan b) = nan b
view_step (Toml-F.Inf b) = infinity b
view_step (Toml-F.Date s) = date (string_bytes s)
view_step (Toml-F.Array v) = tables (tables_of (map (λ m. table_of m.entries) v.items))
view_step (Toml-F.SimpleArray v) = values (values_of v.items)

-- what the value means
abbrev pub view : Toml → Data
view = fold-Toml Data view_step

-- what a map with these pairs means
abbrev pub table_view : List (String Global × Toml) → Table
table_view ps = table_of (map (λ p. (p.0, view p.1)) ps)

-- what values in order mean
abbrev pub values_view : List Toml → Values
values_view ts = values_of (map view ts)

-- what maps in order mean
abbrev pub tables_view :
    List (HashMap (String Global) Toml (BuildHasherDefault FoldHasher)) → Tables
tables_view ms = tables_of (map (λ m. table_view m.entries) ms)

-- ==== whether two values mean the same, as a test

-- whether two values are of one kind with one content; lists in order, tables key by key
abbrev mutual
  pub data_eq : Data → Data → Bool
  data_eq (text a) (text b) = bytes_eq a b
  data_eq (boolean a) (boolean b) = beq a b
  data_eq (number a) (number b) = int_eq a b
  data_eq (decimal a) (decimal b) = bytes_eq a b
  data_eq (nan a) (nan b) = beq a b
  data_eq (infinity a) (infinity b) = beq a b
  data_eq (date a) (date b) = bytes_eq a b
  data_eq (tables a) (tables b) = tables_eq a b
  data_eq (values a) (values b) = values_eq a b
  data_eq _ _ = false

  pub values_eq : Values → Values → Bool
  values_eq no_values no_values = true
  values_eq (more_values a xs) (more_values b ys) = data_eq a b && values_eq xs ys
  values_eq _ _ = false

  pub tables_eq : Tables → Tables → Bool
  tables_eq no_tables no_tables = true
  tables_eq (more_tables a xs) (more_tables b ys) = table_eq a b && tables_eq xs ys
  tables_eq _ _ = false

  pub table_eq : Table → Table → Bool
  table_eq no_pairs no_pairs = true
  table_eq (more_pairs k a xs) (more_pairs l b ys) = bytes_eq k l && (data_eq a b && table_eq xs ys)
  table_eq _ _ = false

-- whether two values of a program mean the same
abbrev pub view_eq : Toml → Toml → Bool
view_eq a b = data_eq (view a) (view b)

-- a value equals itself
abbrev pub EqIsReflexive : Type 0
EqIsReflexive = (a : Toml) → view_eq a a ≡ true

-- the order of two values does not matter
abbrev pub EqIsSymmetric : Type 0
EqIsSymmetric = (a b : Toml) → view_eq a b ≡ true → view_eq b a ≡ true

-- what equals the same is equal
abbrev pub EqIsTransitive : Type 0
EqIsTransitive = (a b c : Toml) → view_eq a b ≡ true → view_eq b c ≡ true → view_eq a c ≡ true
