-- Equality of documents is an equivalence, since it decides whether they mean the same.
use Rattle.std.specs.Prelude.{◌≡◌, true}
use Rattle.std.specs.Bool.{Decides}
use Rattle.std.specs.Cmp.{IsPartialEquivalence, IsEquivalence, decided}
use Rattle.std.proofs.Common.{refl, sym, ap, ◌∙◌, true≢false}
use Rattle.std.proofs.lemmas.Bool.Decides.{Decides-int_eq}
use Rattle.std.proofs.lemmas.Slice.Eq.{bytes_eq-Decides}
use Rattle.std.proofs.lemmas.Bool.{and_parts, and_from}
use Rattle.nano_value.specs.Meaning.{Meaning, number, text, nothing, both}
use Rattle.nano_document.specs.Documents.{json_means}
use Rattle.nano_document.specs.Equality.{meaning_eq, json_eq}

pub meaning_eq_same : (a b : Meaning) → meaning_eq a b ≡ true → a ≡ b
meaning_eq_same (number y) (number z) h = ap number ((Decides-int_eq y z).0 h)
meaning_eq_same (text a) (text b) h = ap text ((bytes_eq-Decides a b).0 h)
meaning_eq_same nothing nothing h = refl
meaning_eq_same (both a b) (both c d) h =
    let parts = and_parts (meaning_eq a c) (meaning_eq b d) h in
    ap (λ m. both m b) (meaning_eq_same a c parts.0) ∙ ap (both c) (meaning_eq_same b d parts.1)
meaning_eq_same _ _ h = absurd (true≢false (sym h))

pub meaning_eq_refl : (a : Meaning) → meaning_eq a a ≡ true
meaning_eq_refl (number z) = (Decides-int_eq z z).1 refl
meaning_eq_refl (text a) = (bytes_eq-Decides a a).1 refl
meaning_eq_refl nothing = refl
meaning_eq_refl (both a b) = and_from _ _ (meaning_eq_refl a) (meaning_eq_refl b)

-- the test decides exactly whether two meanings are the same
pub meaning_eq-Decides : (a b : Meaning) → Decides (meaning_eq a b) (a ≡ b)
meaning_eq-Decides a b = (meaning_eq_same a b, λ e. ap (meaning_eq a) (sym e) ∙ meaning_eq_refl a)

-- it is symmetric and transitive
pub json_eq_laws : IsPartialEquivalence json_eq
json_eq_laws =
    let e = decided meaning_eq meaning_eq-Decides in
    record {
      symm = λ x y. e.symm (json_means x) (json_means y);
      trans = λ x y z p q. e.congr (json_means x) (json_means y) (json_means z) p ∙ q;
    }

-- and reflexive: an equivalence
pub json_eq_equiv : IsEquivalence json_eq
json_eq_equiv =
    let e = decided meaning_eq meaning_eq-Decides in
    record {
      refl = λ x. e.refl (json_means x);
      symm = λ x y. e.symm (json_means x) (json_means y);
      congr = λ x y z p. e.congr (json_means x) (json_means y) (json_means z) p;
    }
