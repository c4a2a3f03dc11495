-- A document of JSON: its alternatives, what it means, and how many levels it has below the first.
use Rattle.std.specs.Prelude.{◌≡◌, ◌⊎◌, ℕ, zero, suc, ℤ, pos, Bool, List}
use Rattle.std.specs.Prelude.{map, String, string_bytes, if◌then◌else◌}
use Rattle.std.specs.Global.{Global}
use Rattle.nano_value.specs.Meaning.{Meaning, number, whole, truth, text, nothing, listed, paired}
use Rattle.nano_meaning.specs.Sums.{tagged}
use Rattle.nano_levels.specs.Kinds.{Tagged}
use Rattle.nano_levels.specs.Layers.{greatest}
use Rattle.nano_json_tokens.specs.Token.{Token, null, bool, u64, i64, f64, str, block_open}
use Rattle.nano_json_tokens.specs.Token.{curly_open}
use Rattle.nano_document.specs.Decimals.{IsDecimal, is_decimal}
use Rattle.nano_document.specs.declared.json.Json.{Json}
use Rattle.nano_document.specs.declared.json.Json.TheOpen.{Json-F}
use Rattle.nano_document.specs.declared.json.Json.TheViews.{out-Json}
use Rattle.nano_document.specs.declared.json.Json.TheFolds.{fold-Json}

-- ---- the alternatives

-- the alternative that a token begins
abbrev pub kind : Token → ℕ
kind null = 0
kind (bool b) = 1
kind (u64 n) = 2
kind (i64 z) = 2
kind (str bytes) = 3
kind block_open = 4
kind curly_open = 5
kind (f64 run) = 6
kind _ = 7

-- what each of them holds
abbrev pub Fields : Type 0 → ℕ → Type 0
Fields X zero = Unit {0}
Fields X (suc zero) = Bool
Fields X (suc (suc zero)) = ℤ
Fields X (suc (suc (suc zero))) = String Global
Fields X (suc (suc (suc (suc zero)))) = List X
Fields X (suc (suc (suc (suc (suc zero))))) = List (String Global × X)
Fields X (suc (suc (suc (suc (suc (suc zero)))))) = String Global
Fields X (suc (suc (suc (suc (suc (suc (suc place))))))) = ⊥

-- a text that is no decimal is a text
abbrev pub opened : {X : Type 0} → Json-F X → Tagged (Fields X)
opened Json-F.Null = record { tag = 0; fields = tt }
opened (Json-F.Bool b) = record { tag = 1; fields = b }
opened (Json-F.U64 n) = record { tag = 2; fields = pos n }
opened (Json-F.I64 z) = record { tag = 2; fields = z }
opened (Json-F.Decimal s) =
    if is_decimal (string_bytes s)
    then record { tag = 6; fields = s }
    else record { tag = 3; fields = s }
opened (Json-F.Text s) = record { tag = 3; fields = s }
opened (Json-F.List xs) = record { tag = 4; fields = xs.items }
opened (Json-F.Object es) = record { tag = 5; fields = es.items }

-- a document by its alternative and what that holds
abbrev pub view : Json → Tagged (Fields Json)
view x = opened (out-Json x)

-- ---- what a document means

abbrev pub entry_means : {X : Type 0} → (X → Meaning) → String Global × X → Meaning
entry_means means e = paired (text (string_bytes e.0), means e.1)

-- the tag of a decimal, or of a text if it is none
abbrev pub text_tag : List ℕ → ℕ
text_tag bytes = if is_decimal bytes then 6 else 3

abbrev pub means_step : Json-F Meaning → Meaning
means_step Json-F.Null = tagged 0 nothing
means_step (Json-F.Bool b) = tagged 1 (truth b)
means_step (Json-F.U64 n) = tagged 2 (whole n)
means_step (Json-F.I64 z) = tagged 2 (number z)
means_step (Json-F.Decimal s) = tagged (text_tag (string_bytes s)) (text (string_bytes s))
means_step (Json-F.Text s) = tagged 3 (text (string_bytes s))
means_step (Json-F.List xs) = tagged 4 (listed xs.items)
means_step (Json-F.Object es) = tagged 5 (listed (map (entry_means (λ m. m)) es.items))

abbrev pub json_means : Json → Meaning
json_means = fold-Json Meaning means_step

-- ---- how deep a document is

abbrev pub depth_step : Json-F ℕ → ℕ
depth_step (Json-F.List xs) = greatest (map (λ n. suc n) xs.items)
depth_step (Json-F.Object es) = greatest (map (λ e. suc e.1) es.items)
depth_step _ = 0

-- the levels below the first: 0 of a scalar and of what holds nothing, and else one more than the
-- greatest of what it holds
abbrev pub depth : Json → ℕ
depth = fold-Json ℕ depth_step

-- how many levels a document may have that is read
abbrev pub most_levels : ℕ
most_levels = 128

-- ---- what a document holds

-- it is the whole number
abbrev pub IsNumber : Json → ℤ → Type 0
IsNumber x z = ((n : ℕ) × (x ≡ Json.U64 n) × (z ≡ pos n)) ⊎ (x ≡ Json.I64 z)

-- it is the decimal
abbrev pub IsDecimalOf : Json → String Global → Type 0
IsDecimalOf x s = (x ≡ Json.Decimal s) × IsDecimal (string_bytes s)

-- it is the text
abbrev pub IsTextOf : Json → String Global → Type 0
IsTextOf x s =
    (x ≡ Json.Text s) ⊎ ((x ≡ Json.Decimal s) × (IsDecimal (string_bytes s) → ⊥))
