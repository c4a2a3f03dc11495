-- When two documents mean the same, by the alternative that one of them is.
use Rattle.std.proofs.Common.{◌≡◌, ◌↔◌, ◌<◌, ◌^◌, ℕ, ℤ, pos, Bool, FitsSigned, List, map, String, Vec, Global, string_bytes, Option, Some, None, MatchOption, inl, inr, sym, ◌∙◌, ap, subst, IsTrue, true, false, eqb, eq-eqb, true≢false}
use Rattle.std.specs.Int.{w64}
use Rattle.std.specs.Option.{option_eq}
use Rattle.std.specs.Ordering.{int_eq}
use Rattle.std.specs.Str.{bytes_eq}
use Rattle.std.proofs.lemmas.Slice.Eq.{bytes_eq-Decides}
use Rattle.std.proofs.lemmas.Bool.{eqb-true}
use Rattle.std.proofs.lemmas.Bool.Decides.{Decides-int_eq}
use Rattle.nano_value.specs.Meaning.{Meaning, number, text, listed}
use Rattle.nano_meaning.specs.Sums.{tagged}
use Rattle.nano_meaning.proofs.MeaningLaws.{number_injective, pos_injective, text_injective, listed_injective}
use Rattle.nano_document.specs.Documents.{json_means, entry_means, IsNumber, IsTextOf, IsDecimalOf}
use Rattle.nano_document.specs.declared.json.Json as J
use Rattle.nano_document.specs.declared.json.Json.{Json}
use Rattle.nano_document.proofs.Deciding.{decimal_tests, other_text}
use Rattle.nano_document.proofs.Documents.{means-U64, means-I64, means_decimal, means_no_decimal, means-Text, means-List, means-Object}
use Rattle.nano_document.proofs.Alternatives.{content_same, is_number_by, is_text_by, is_decimal_by, is_list_by, is_object_by}

-- what is not, on both sides
pub never : {P : Type 0} → (P → ⊥) → IsTrue false ↔ P
never other = (λ f. absurd (true≢false (sym f)), λ p. absurd (other p))

-- what `==` says of an optional number
pub u64_is : (o : Option ℕ) (n : ℕ) → (option_eq eqb o (Some n) ≡ true) ↔ (o ≡ Some n)
u64_is None n = (λ e. absurd (true≢false (sym e)), λ e. absurd (cc e))
u64_is (Some m) n = (λ e. ap Some (eqb-true m n e), λ e. let same : m ≡ n = cc e in eq-eqb m n same)

pub i64_is : (o : Option ℤ) (z : ℤ) → (option_eq int_eq o (Some z) ≡ true) ↔ (o ≡ Some z)
i64_is None z = (λ e. absurd (true≢false (sym e)), λ e. absurd (cc e))
i64_is (Some y) z = (λ e. ap Some ((Decides-int_eq y z).0 e), λ e. let same : y ≡ z = cc e in (Decides-int_eq y z).1 same)

module _ (y : Json) where
  pub means_of_text : (s : String Global) → IsTextOf y s → json_means y ≡ tagged 3 (text (string_bytes s))
  means_of_text s (inl is) = ap json_means is ∙ means-Text s
  means_of_text s (inr h) = ap json_means h.0 ∙ means_no_decimal s (other_text (string_bytes s) h.1)

  pub means_of_decimal : (s : String Global) → IsDecimalOf y s → json_means y ≡ tagged 6 (text (string_bytes s))
  means_of_decimal s h = ap json_means h.0 ∙ means_decimal s (decimal_tests (string_bytes s) h.1)

  -- what it means, against what the other one is found to be
  content_is : (place : ℕ) (a b : List ℕ) → json_means y ≡ tagged place (text b)
      → (a ≡ b) ↔ (json_means y ≡ tagged place (text a))
  content_is place a b my = (
    λ e. my ∙ ap (λ bytes. tagged place (text bytes)) (sym e),
    λ e. text_injective a b (content_same place place (text a) (text b) (sym e ∙ my)),
  )

  -- and by comparing the two texts
  pub compared : (place : ℕ) (a b : List ℕ) (r : Bool) → r ≡ bytes_eq a b → json_means y ≡ tagged place (text b)
      → IsTrue r ↔ (json_means y ≡ tagged place (text a))
  compared place a b r is my =
      let decides = bytes_eq-Decides a b in
      let same = content_is place a b my in
      (λ e. same.0 (decides.0 (sym is ∙ e)), λ e. is ∙ decides.1 (same.1 e))

  pub no_text : (a : List ℕ) → ((s : String Global) → IsTextOf y s → ⊥) → IsTrue false ↔ (json_means y ≡ tagged 3 (text a))
  no_text a other = never (λ e. let found = is_text_by y (text a) e in other found.0 found.1)

  pub no_decimal_of : (a : List ℕ) → ((s : String Global) → IsDecimalOf y s → ⊥) → IsTrue false ↔ (json_means y ≡ tagged 6 (text a))
  no_decimal_of a other = never (λ e. let found = is_decimal_by y (text a) e in other found.0 found.1)

module _ (x y : Json) where
  -- ---- numbers

  pub means_of_number : (z : ℤ) → IsNumber y z → json_means y ≡ tagged 2 (number z)
  means_of_number z (inl h) = ap json_means h.1 ∙ (means-U64 h.0 ∙ ap (λ k. tagged 2 (number k)) (sym h.2))
  means_of_number z (inr is) = ap json_means is ∙ means-I64 z

  number_same : (k z : ℤ) → json_means x ≡ tagged 2 (number k) → json_means y ≡ tagged 2 (number z)
      → json_means x ≡ json_means y → k ≡ z
  number_same k z mx my e = number_injective k z (content_same 2 2 (number k) (number z) (sym mx ∙ (e ∙ my)))

  -- the number of the other one, where both mean the same
  other_number : (k : ℤ) → json_means x ≡ tagged 2 (number k) → json_means x ≡ json_means y → IsNumber y k
  other_number k mx e =
      let found = is_number_by y (number k) (sym e ∙ mx) in
      subst (IsNumber y) (sym (number_same k found.0 mx found.1 e)) found.2

  pub u64_same : (n : ℕ) → n < 2 ^ 64 → x ≡ J.U64 n → (o : Option ℕ)
      → MatchOption o ((m : ℕ) → m < 2 ^ 64 → IsNumber y (pos m) → ⊥) (λ m. IsNumber y (pos m))
      → (o ≡ Some n) ↔ (json_means x ≡ json_means y)
  u64_same n small is None h =
      let mx = ap json_means is ∙ means-U64 n in
      (λ e. absurd (cc e), λ e. absurd (h n small (other_number (pos n) mx e)))
  u64_same n small is (Some m) h =
      let mx = ap json_means is ∙ means-U64 n in
      let my = means_of_number (pos m) h in (
        λ e. let same : m ≡ n = cc e in mx ∙ (ap (λ k. tagged 2 (number (pos k))) (sym same) ∙ sym my),
        λ e. ap Some (sym (pos_injective n m (number_same (pos n) (pos m) mx my e))),
      )

  pub i64_same : (k : ℤ) → FitsSigned w64 k → x ≡ J.I64 k → (o : Option ℤ)
      → MatchOption o ((z : ℤ) → FitsSigned w64 z → IsNumber y z → ⊥) (λ z. IsNumber y z)
      → (o ≡ Some k) ↔ (json_means x ≡ json_means y)
  i64_same k small is None h =
      let mx = ap json_means is ∙ means-I64 k in
      (λ e. absurd (cc e), λ e. absurd (h k small (other_number k mx e)))
  i64_same k small is (Some z) h =
      let mx = ap json_means is ∙ means-I64 k in
      let my = means_of_number z h in (
        λ e. let same : z ≡ k = cc e in mx ∙ (ap (λ w. tagged 2 (number w)) (sym same) ∙ sym my),
        λ e. ap Some (sym (number_same k z mx my e)),
      )

  -- ---- texts

  -- the other way around, and of what is the same
  pub turned : (m : Meaning) → json_means x ≡ m → {P : Type 0} → P ↔ (json_means y ≡ m) → P ↔ (json_means x ≡ json_means y)
  turned m mx h = (λ p. mx ∙ sym (h.0 p), λ e. h.1 (sym e ∙ mx))

  -- ---- lists and objects

  pub lists_same : (xs ys : Vec Json Global) → x ≡ J.List xs → y ≡ J.List ys
      → (map json_means xs.items ≡ map json_means ys.items) ↔ (json_means x ≡ json_means y)
  lists_same xs ys is js =
      let mx = ap json_means is ∙ means-List xs in
      let my = ap json_means js ∙ means-List ys in (
        λ e. mx ∙ (ap (λ ms. tagged 4 (listed ms)) e ∙ sym my),
        λ e. listed_injective (map json_means xs.items) (map json_means ys.items) (content_same 4 4 (listed (map json_means xs.items)) (listed (map json_means ys.items)) (sym mx ∙ (e ∙ my))),
      )

  pub no_list_same : (xs : Vec Json Global) → x ≡ J.List xs → ((ys : Vec Json Global) → y ≡ J.List ys → ⊥)
      → IsTrue false ↔ (json_means x ≡ json_means y)
  no_list_same xs is other = never (λ e.
      let found = is_list_by y (listed (map json_means xs.items)) (sym e ∙ (ap json_means is ∙ means-List xs)) in other found.0 found.1)

  pub objects_same : (es fs : Vec (String Global × Json) Global) → x ≡ J.Object es → y ≡ J.Object fs
      → (map (entry_means json_means) es.items ≡ map (entry_means json_means) fs.items) ↔ (json_means x ≡ json_means y)
  objects_same es fs is js =
      let mx = ap json_means is ∙ means-Object es in
      let my = ap json_means js ∙ means-Object fs in
      let ms = map (entry_means json_means) es.items in
      let ns = map (entry_means json_means) fs.items in (
        λ e. mx ∙ (ap (λ ks. tagged 5 (listed ks)) e ∙ sym my),
        λ e. listed_injective ms ns (content_same 5 5 (listed ms) (listed ns) (sym mx ∙ (e ∙ my))),
      )

  pub no_object_same : (es : Vec (String Global × Json) Global) → x ≡ J.Object es
      → ((fs : Vec (String Global × Json) Global) → y ≡ J.Object fs → ⊥)
      → IsTrue false ↔ (json_means x ≡ json_means y)
  no_object_same es is other = never (λ e.
      let found = is_object_by y (listed (map (entry_means json_means) es.items)) (sym e ∙ (ap json_means is ∙ means-Object es)) in other found.0 found.1)
