-- Which alternative a document is.
use Rattle.std.proofs.Common.{◌≡◌, ℕ, ℤ, pos, inl, inr, sym, ◌∙◌, ap}
use Rattle.nano_document.specs.Documents.{IsNumber}
use Rattle.nano_document.specs.declared.json.Json as J
use Rattle.nano_document.specs.declared.json.Json.{Json}
use Rattle.nano_document.specs.declared.json.Json.TheOpen as O
use Rattle.nano_document.specs.declared.json.Json.TheViews.{out-Json}
use Rattle.nano_document.proofs.Documents.{out-U64, out-I64}

u64_injective : (m n : ℕ) → J.U64 m ≡ J.U64 n → m ≡ n
u64_injective m n e =
    let seen : O.U64 m ≡ O.U64 n = sym (out-U64 m) ∙ (ap out-Json e ∙ out-U64 n) in
    cc seen

i64_injective : (y z : ℤ) → J.I64 y ≡ J.I64 z → y ≡ z
i64_injective y z e =
    let seen : O.I64 y ≡ O.I64 z = sym (out-I64 y) ∙ (ap out-Json e ∙ out-I64 z) in
    cc seen

apart : (n : ℕ) (z : ℤ) → J.U64 n ≡ J.I64 z → ⊥
apart n z e =
    let seen : O.U64 n ≡ O.I64 z = sym (out-U64 n) ∙ (ap out-Json e ∙ out-I64 z) in
    cc seen

-- the number of each of the two
pub number_of_u64 : (n : ℕ) (x : Json) (z : ℤ) → x ≡ J.U64 n → IsNumber x z → z ≡ pos n
number_of_u64 n x z is (inl h) =
    h.2 ∙ ap pos (sym (u64_injective n h.0 (sym is ∙ h.1)))
number_of_u64 n x z is (inr h) = absurd (apart n z (sym is ∙ h))

pub number_of_i64 : (y : ℤ) (x : Json) (z : ℤ) → x ≡ J.I64 y → IsNumber x z → z ≡ y
number_of_i64 y x z is (inl h) = absurd (apart h.0 y (sym h.1 ∙ is))
number_of_i64 y x z is (inr h) = sym (i64_injective y z (sym is ∙ h))

-- neither of the two
pub no_number : (x : Json) (z : ℤ) → ((n : ℕ) → x ≡ J.U64 n → ⊥) → ((y : ℤ) → x ≡ J.I64 y → ⊥) → IsNumber x z → ⊥
no_number x z u i (inl h) = u h.0 h.1
no_number x z u i (inr h) = i z h
