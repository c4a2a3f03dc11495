-- A document by its alternative: how it is written as bytes.
use Rattle.std.proofs.Common.{◌≡◌, ℕ, ℤ, Bool, true, false, cond, List, [], ◌++◌, Result, Ok, Err, OnOk, String, Vec, Global, string_bytes, ◌∙◌, ap}
use Rattle.std.specs.Result.{is_err}
use Rattle.nano_bin_bytes.specs.Scalars.{little_endian}
use Rattle.nano_bin_bytes.specs.Containers.{written_list, written_pair}
use Rattle.nano_bin.specs.ScalarCodecs.{boolean_codec, string_codec}
use Rattle.nano_levels.specs.Kinds.{Tagged}
use Rattle.nano_bin_levels.proofs.LevelsLaws.{written_around}
use Rattle.nano_document.specs.Decimals.{is_decimal}
use Rattle.nano_document.specs.Documents.{Fields, opened, view}
use Rattle.nano_document.specs.BinScalars.{written_integer}
use Rattle.nano_document.specs.BinCodecs.{bin_layer, bin_nested, bin_codec}
use Rattle.nano_document.specs.declared.json.Json as J
use Rattle.nano_document.specs.declared.json.Json.{Json}
use Rattle.nano_document.proofs.Documents.{out-Null, out-Bool, out-U64, out-I64, out-Decimal, out-Text, out-List, out-Object}

abbrev written : Json → List ℕ
written = bin_codec.canonical.written

abbrev around : Tagged (Fields Json) → List ℕ
around = (bin_layer.codec bin_codec).canonical.written

seen_written : (x : Json) (v : Tagged (Fields Json)) → view x ≡ v → written x ≡ around v
seen_written x v e = written_around bin_nested x ∙ ap around e

pub written-Null : written J.Null ≡ little_endian 2 0 ++ []
written-Null = seen_written J.Null _ (ap opened out-Null)

pub written-Bool : (b : Bool) → written (J.Bool b) ≡ little_endian 2 1 ++ boolean_codec.canonical.written b
written-Bool b = seen_written (J.Bool b) _ (ap opened (out-Bool b))

pub written-U64 : (n : ℕ) → written (J.U64 n) ≡ little_endian 2 2 ++ little_endian 8 n
written-U64 n = seen_written (J.U64 n) _ (ap opened (out-U64 n))

pub written-I64 : (z : ℤ) → written (J.I64 z) ≡ written_integer z
written-I64 z = seen_written (J.I64 z) _ (ap opened (out-I64 z))

pub written-Text : (s : String Global) → written (J.Text s) ≡ little_endian 2 5 ++ string_codec.canonical.written s
written-Text s = seen_written (J.Text s) _ (ap opened (out-Text s))

seen_decimal : (s : String Global) (b : Bool) → is_decimal (string_bytes s) ≡ b
    → written (J.Decimal s) ≡ around (cond b (record { tag = 6; fields = s }) (record { tag = 3; fields = s }))
seen_decimal s b e =
    seen_written (J.Decimal s) _ (ap opened (out-Decimal s)
    ∙ ap (λ c. cond c (record { tag = 6; fields = s }) (record { tag = 3; fields = s })) e)

pub written_decimal : (s : String Global) → is_decimal (string_bytes s) ≡ true
    → written (J.Decimal s) ≡ little_endian 2 4 ++ string_codec.canonical.written s
written_decimal s e = seen_decimal s true e

pub written_no_decimal : (s : String Global) → is_decimal (string_bytes s) ≡ false
    → written (J.Decimal s) ≡ little_endian 2 5 ++ string_codec.canonical.written s
written_no_decimal s e = seen_decimal s false e

pub written-List : (xs : Vec Json Global) → written (J.List xs) ≡ little_endian 2 6 ++ written_list written xs.items
written-List xs = seen_written (J.List xs) _ (ap opened (out-List xs))

pub written-Object : (es : Vec (String Global × Json) Global)
    → written (J.Object es) ≡ little_endian 2 7 ++ written_list (written_pair string_codec.canonical.written written) es.items
written-Object es = seen_written (J.Object es) _ (ap opened (out-Object es))

-- ---- what is said of success holds of an error
pub no_success : {T E : Type 0} (P : Type 0) (r : Result T E) → is_err r ≡ true → OnOk r P
no_success P (Ok x) e = absurd (cc)
no_success P (Err x) e = tt
