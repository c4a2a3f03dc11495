-- The content of a value, where it is of the kind, and None where it is of another.
use Rattle.std.specs.Prelude.{ℕ, zero, suc, ℤ, List, Bool, Option, Some, None}
use Rattle.nano_toml.specs.Data.{Data, text, boolean, number, decimal, date, tables, values, Values}
use Rattle.nano_toml.specs.Data.{Tables, no_tables, more_tables, Table}

-- the bytes of a text
abbrev pub as_text : Data → Option (List ℕ)
as_text (text s) = Some s
as_text _ = None

-- a boolean itself
abbrev pub as_boolean : Data → Option Bool
as_boolean (boolean b) = Some b
as_boolean _ = None

-- a whole number itself
abbrev pub as_number : Data → Option ℤ
as_number (number n) = Some n
as_number _ = None

-- the bytes of a decimal
abbrev pub as_decimal : Data → Option (List ℕ)
as_decimal (decimal s) = Some s
as_decimal _ = None

-- the bytes of a date
abbrev pub as_date : Data → Option (List ℕ)
as_date (date s) = Some s
as_date _ = None

-- the tables of the headers of a key
abbrev pub as_tables : Data → Option Tables
as_tables (tables ts) = Some ts
as_tables _ = None

-- the values between square brackets
abbrev pub as_values : Data → Option Values
as_values (values vs) = Some vs
as_values _ = None

-- the table at a place
abbrev pub table_at : Tables → ℕ → Option Table
table_at no_tables i = None
table_at (more_tables t ts) zero = Some t
table_at (more_tables t ts) (suc i) = table_at ts i

-- the table at a place of the tables of a key
abbrev pub index_of : Data → ℕ → Option Table
index_of (tables ts) i = table_at ts i
index_of _ i = None
