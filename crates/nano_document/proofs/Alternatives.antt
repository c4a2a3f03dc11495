-- Which alternative a document is, by what it means.
use Rattle.std.proofs.Common.{◌≡◌, ◌⊎◌, ℕ, ℤ, pos, Bool, true, false, cond, String, Vec, Global, string_bytes, inl, inr, refl, sym, ◌∙◌, ap, arith}
use Rattle.nano_value.specs.Meaning.{Meaning, number, whole, text}
use Rattle.nano_meaning.specs.Sums.{tagged}
use Rattle.nano_meaning.proofs.MeaningLaws.{both_injective, whole_injective}
use Rattle.nano_levels.specs.Kinds.{Tagged}
use Rattle.nano_document.specs.Decimals.{is_decimal}
use Rattle.nano_document.specs.Documents.{Fields, opened, text_tag, json_means, IsNumber, IsTextOf, IsDecimalOf}
use Rattle.nano_document.proofs.Deciding.{decimal_is, no_decimal}
use Rattle.nano_document.specs.declared.json.Json as J
use Rattle.nano_document.specs.declared.json.Json.{Json}
use Rattle.nano_document.specs.declared.json.Json.TheOpen as O
use Rattle.nano_document.specs.declared.json.Json.TheOpen.{Json-F}
use Rattle.nano_document.specs.declared.json.Json.TheViews.{out-Json, roll-Json, roll-out-Json}
use Rattle.nano_document.proofs.Documents.{out-Null, out-Bool, out-U64, out-I64, out-Decimal, out-Text, out-List, out-Object}
use Rattle.nano_document.proofs.Documents.{means-Null, means-Bool, means-U64, means-I64, means-Decimal, means-Text, means-List, means-Object}

-- what is seen as the same is the same
pub from_out : (x y : Json) → out-Json x ≡ out-Json y → x ≡ y
from_out x y e = sym (roll-out-Json x) ∙ (ap roll-Json e ∙ roll-out-Json y)

-- the tag of a text that may be a decimal
decimal_tag : (s : String Global) → (opened {X = Json} (O.Decimal s)).tag ≡ text_tag (string_bytes s)
decimal_tag s = elim (is_decimal (string_bytes s)) as (λ b. tag_of (cond b (record { tag = 6; fields = s }) (record { tag = 3; fields = s })) ≡ cond b 6 3) [
  | true ↦ refl
  | false ↦ refl
] where
  tag_of : Tagged (Fields Json) → ℕ
  tag_of t = t.tag

chosen_tag : (b : Bool) (k : ℕ) → cond b 6 3 ≡ k → ((b ≡ true) × (k ≡ 6)) ⊎ ((b ≡ false) × (k ≡ 3))
chosen_tag true k e = inl (refl, sym e)
chosen_tag false k e = inr (refl, sym e)

tag_by : (s : String Global) (k : ℕ) → (opened {X = Json} (O.Decimal s)).tag ≡ k
    → ((is_decimal (string_bytes s) ≡ true) × (k ≡ 6)) ⊎ ((is_decimal (string_bytes s) ≡ false) × (k ≡ 3))
tag_by s k h = chosen_tag (is_decimal (string_bytes s)) k (sym (decimal_tag s) ∙ h)

no_tag : (s : String Global) (k : ℕ) → (k ≡ 6 → ⊥) → (k ≡ 3 → ⊥) → (opened {X = Json} (O.Decimal s)).tag ≡ k → ⊥
no_tag s k six three h = elim (tag_by s k h) [ inl e ↦ six e.1 | inr e ↦ three e.1 ]

other_tag : (s : String Global) → (opened {X = Json} (O.Decimal s)).tag ≡ 3 → is_decimal (string_bytes s) ≡ false
other_tag s h = elim (tag_by s 3 h) [ inl e ↦ absurd (omega (arith, e.1)) | inr e ↦ e.0 ]

own_tag : (s : String Global) → (opened {X = Json} (O.Decimal s)).tag ≡ 6 → is_decimal (string_bytes s) ≡ true
own_tag s h = elim (tag_by s 6 h) [ inl e ↦ e.0 | inr e ↦ absurd (omega (arith, e.1)) ]

-- the tag of what it means is that of what it is seen as
pub tag_seen : (x : Json) (v : Json-F Json) → out-Json x ≡ v
    → (m : Meaning) × (json_means x ≡ tagged (opened v).tag m)
tag_seen x O.Null e = (_, ap json_means (from_out x J.Null (e ∙ sym out-Null)) ∙ means-Null)
tag_seen x (O.Bool b) e = (_, ap json_means (from_out x (J.Bool b) (e ∙ sym (out-Bool b))) ∙ means-Bool b)
tag_seen x (O.U64 n) e = (_, ap json_means (from_out x (J.U64 n) (e ∙ sym (out-U64 n))) ∙ means-U64 n)
tag_seen x (O.I64 z) e = (_, ap json_means (from_out x (J.I64 z) (e ∙ sym (out-I64 z))) ∙ means-I64 z)
tag_seen x (O.Decimal s) e =
    (_, ap json_means (from_out x (J.Decimal s) (e ∙ sym (out-Decimal s))) ∙ (means-Decimal s ∙ ap (λ k. tagged k (text (string_bytes s))) (sym (decimal_tag s))))
tag_seen x (O.Text s) e = (_, ap json_means (from_out x (J.Text s) (e ∙ sym (out-Text s))) ∙ means-Text s)
tag_seen x (O.List xs) e = (_, ap json_means (from_out x (J.List xs) (e ∙ sym (out-List xs))) ∙ means-List xs)
tag_seen x (O.Object es) e = (_, ap json_means (from_out x (J.Object es) (e ∙ sym (out-Object es))) ∙ means-Object es)

pub tags_same : (i j : ℕ) (m n : Meaning) → tagged i m ≡ tagged j n → i ≡ j
tags_same i j m n e = whole_injective i j (both_injective (whole i) m (whole j) n e).0

pub content_same : (i j : ℕ) (m n : Meaning) → tagged i m ≡ tagged j n → m ≡ n
content_same i j m n e = (both_injective (whole i) m (whole j) n e).1

pub tag_is : (x : Json) (k : ℕ) (m : Meaning) → json_means x ≡ tagged k m → (opened (out-Json x)).tag ≡ k
tag_is x k m e =
    let seen = tag_seen x (out-Json x) refl in
    tags_same (opened (out-Json x)).tag k seen.0 m (sym seen.1 ∙ e)

-- ---- each alternative

view_null : (v : Json-F Json) → (opened v).tag ≡ 0 → v ≡ O.Null
view_null O.Null h = refl
view_null (O.Bool b) h = absurd (cc)
view_null (O.U64 n) h = absurd (cc)
view_null (O.I64 z) h = absurd (cc)
view_null (O.Decimal s) h = absurd (no_tag s 0 (λ e. omega (arith, e)) (λ e. omega (arith, e)) h)
view_null (O.Text s) h = absurd (cc)
view_null (O.List xs) h = absurd (cc)
view_null (O.Object es) h = absurd (cc)

view_bool : (v : Json-F Json) → (opened v).tag ≡ 1 → (b : Bool) × (v ≡ O.Bool b)
view_bool O.Null h = absurd (cc)
view_bool (O.Bool b) h = (b, refl)
view_bool (O.U64 n) h = absurd (cc)
view_bool (O.I64 z) h = absurd (cc)
view_bool (O.Decimal s) h = absurd (no_tag s 1 (λ e. omega (arith, e)) (λ e. omega (arith, e)) h)
view_bool (O.Text s) h = absurd (cc)
view_bool (O.List xs) h = absurd (cc)
view_bool (O.Object es) h = absurd (cc)

-- a text as a `Text`, or as a `Decimal` that is none
abbrev SeenText : Json-F Json → Type 0
SeenText v = (s : String Global) × ((v ≡ O.Text s) ⊎ ((v ≡ O.Decimal s) × (is_decimal (string_bytes s) ≡ false)))

view_text : (v : Json-F Json) → (opened v).tag ≡ 3 → SeenText v
view_text O.Null h = absurd (cc)
view_text (O.Bool b) h = absurd (cc)
view_text (O.U64 n) h = absurd (cc)
view_text (O.I64 z) h = absurd (cc)
view_text (O.Decimal s) h = (s, inr (refl, other_tag s h))
view_text (O.Text s) h = (s, inl refl)
view_text (O.List xs) h = absurd (cc)
view_text (O.Object es) h = absurd (cc)

view_decimal : (v : Json-F Json) → (opened v).tag ≡ 6 → (s : String Global) × (v ≡ O.Decimal s) × (is_decimal (string_bytes s) ≡ true)
view_decimal O.Null h = absurd (cc)
view_decimal (O.Bool b) h = absurd (cc)
view_decimal (O.U64 n) h = absurd (cc)
view_decimal (O.I64 z) h = absurd (cc)
view_decimal (O.Decimal s) h = (s, refl, own_tag s h)
view_decimal (O.Text s) h = absurd (cc)
view_decimal (O.List xs) h = absurd (cc)
view_decimal (O.Object es) h = absurd (cc)

view_list : (v : Json-F Json) → (opened v).tag ≡ 4 → (xs : Vec Json Global) × (v ≡ O.List xs)
view_list O.Null h = absurd (cc)
view_list (O.Bool b) h = absurd (cc)
view_list (O.U64 n) h = absurd (cc)
view_list (O.I64 z) h = absurd (cc)
view_list (O.Decimal s) h = absurd (no_tag s 4 (λ e. omega (arith, e)) (λ e. omega (arith, e)) h)
view_list (O.Text s) h = absurd (cc)
view_list (O.List xs) h = (xs, refl)
view_list (O.Object es) h = absurd (cc)

view_object : (v : Json-F Json) → (opened v).tag ≡ 5 → (es : Vec (String Global × Json) Global) × (v ≡ O.Object es)
view_object O.Null h = absurd (cc)
view_object (O.Bool b) h = absurd (cc)
view_object (O.U64 n) h = absurd (cc)
view_object (O.I64 z) h = absurd (cc)
view_object (O.Decimal s) h = absurd (no_tag s 5 (λ e. omega (arith, e)) (λ e. omega (arith, e)) h)
view_object (O.Text s) h = absurd (cc)
view_object (O.List xs) h = absurd (cc)
view_object (O.Object es) h = (es, refl)

-- a number as a `U64` or as an `I64`
abbrev pub Number : Json → Type 0
Number x = (z : ℤ) × (json_means x ≡ tagged 2 (number z)) × IsNumber x z

view_number : (x : Json) (v : Json-F Json) → out-Json x ≡ v → (opened v).tag ≡ 2 → Number x
view_number x O.Null e h = absurd (cc)
view_number x (O.Bool b) e h = absurd (cc)
view_number x (O.U64 n) e h =
    let is = from_out x (J.U64 n) (e ∙ sym (out-U64 n)) in
    (pos n, ap json_means is ∙ means-U64 n, inl (n, is, refl))
view_number x (O.I64 z) e h =
    let is = from_out x (J.I64 z) (e ∙ sym (out-I64 z)) in
    (z, ap json_means is ∙ means-I64 z, inr is)
view_number x (O.Decimal s) e h = absurd (no_tag s 2 (λ k. omega (arith, k)) (λ k. omega (arith, k)) h)
view_number x (O.Text s) e h = absurd (cc)
view_number x (O.List xs) e h = absurd (cc)
view_number x (O.Object es) e h = absurd (cc)

pub is_null_by : (x : Json) (m : Meaning) → json_means x ≡ tagged 0 m → x ≡ J.Null
is_null_by x m e = from_out x J.Null (view_null (out-Json x) (tag_is x 0 m e) ∙ sym out-Null)

pub is_bool_by : (x : Json) (m : Meaning) → json_means x ≡ tagged 1 m → (b : Bool) × (x ≡ J.Bool b)
is_bool_by x m e =
    let v = view_bool (out-Json x) (tag_is x 1 m e) in
    (v.0, from_out x (J.Bool v.0) (v.1 ∙ sym (out-Bool v.0)))

pub is_number_by : (x : Json) (m : Meaning) → json_means x ≡ tagged 2 m → Number x
is_number_by x m e = view_number x (out-Json x) refl (tag_is x 2 m e)

text_of : (x : Json) → SeenText (out-Json x) → (s : String Global) × IsTextOf x s
text_of x (s, inl e) = (s, inl (from_out x (J.Text s) (e ∙ sym (out-Text s))))
text_of x (s, inr e) =
    (s, inr (from_out x (J.Decimal s) (e.0 ∙ sym (out-Decimal s)), no_decimal (string_bytes s) e.1))

pub is_text_by : (x : Json) (m : Meaning) → json_means x ≡ tagged 3 m → (s : String Global) × IsTextOf x s
is_text_by x m e = text_of x (view_text (out-Json x) (tag_is x 3 m e))

pub is_decimal_by : (x : Json) (m : Meaning) → json_means x ≡ tagged 6 m → (s : String Global) × IsDecimalOf x s
is_decimal_by x m e =
    let v = view_decimal (out-Json x) (tag_is x 6 m e) in
    (v.0, (from_out x (J.Decimal v.0) (v.1 ∙ sym (out-Decimal v.0)), decimal_is (string_bytes v.0) v.2))

pub is_list_by : (x : Json) (m : Meaning) → json_means x ≡ tagged 4 m → (xs : Vec Json Global) × (x ≡ J.List xs)
is_list_by x m e =
    let v = view_list (out-Json x) (tag_is x 4 m e) in
    (v.0, from_out x (J.List v.0) (v.1 ∙ sym (out-List v.0)))

pub is_object_by : (x : Json) (m : Meaning) → json_means x ≡ tagged 5 m → (es : Vec (String Global × Json) Global) × (x ≡ J.Object es)
is_object_by x m e =
    let v = view_object (out-Json x) (tag_is x 5 m e) in
    (v.0, from_out x (J.Object v.0) (v.1 ∙ sym (out-Object v.0)))
