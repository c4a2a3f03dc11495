-- Tests of a token and its brackets, and what a skipped field begins with and ends at.
use Rattle.std.proofs.Common.{◌≡◌, ◌≢◌, ◌≤◌, List, [], ◌∷◌, ◌++◌, inl, inr}
use Rattle.std.proofs.Common.{refl, ap, sym, ◌∙◌, subst, true, false, arith}
use Rattle.nano_grammar.proofs.FaultLaws.{LeadsTo}
use Rattle.nano_grammar.proofs.BracketLaws.{CutsBrackets, bracket_some, bracket_apart}
use Rattle.nano_grammar.proofs.BracketLaws.{first_opens, first_opens_in}
use Rattle.nano_json_tokens.specs.Token.{Token, str, u64, i64, f64, bool, null, curly_open}
use Rattle.nano_json_tokens.specs.Token.{block_open, end}
use Rattle.nano_json_tokens.specs.Cut.{Cut}
use Rattle.nano_json_tokens.specs.Scan.{is_scalar, is_opening, is_end}
use Rattle.nano_json_tokens.specs.Skipped.{SkippedField, BeginsField, IsScalar, opens, closes}
use Rattle.nano_json_tokens.specs.Skipped.{Brackets, Skips}
use Rattle.nano_json_tokens.proofs.Capacity.{cut_takes}

-- ---- the tests of a token

pub opens_at_most_one : (t : Token) → opens t ≤ 1
opens_at_most_one curly_open = omega arith
opens_at_most_one block_open = omega arith
opens_at_most_one _ = omega arith

pub opens_only : (t : Token) → opens t ≡ 1 → (closes t ≡ 0) × (t ≢ end)
opens_only curly_open e = (refl, λ x. cc x)
opens_only block_open e = (refl, λ x. cc x)
opens_only _ e = cc e

opens_opening : (t : Token) → opens t ≡ 1 → is_opening t ≡ true
opens_opening curly_open e = refl
opens_opening block_open e = refl
opens_opening _ e = cc e

pub opening_one : (t : Token) → is_opening t ≡ true → opens t ≡ 1
opening_one curly_open e = refl
opening_one block_open e = refl
opening_one _ e = cc e

pub scalar_is : (t : Token) → is_scalar t ≡ true → IsScalar t
scalar_is (str bs) e = tt
scalar_is (u64 n) e = tt
scalar_is (i64 z) e = tt
scalar_is (f64 run) e = tt
scalar_is (bool b) e = tt
scalar_is null e = tt
scalar_is _ e = cc e

scalar_true : (t : Token) → IsScalar t → is_scalar t ≡ true
scalar_true (str bs) e = refl
scalar_true (u64 n) e = refl
scalar_true (i64 z) e = refl
scalar_true (f64 run) e = refl
scalar_true (bool b) e = refl
scalar_true null e = refl
scalar_true _ e = absurd e

scalar_opens : (t : Token) → IsScalar t → opens t ≡ 1 → ⊥
scalar_opens (str bs) h e = cc e
scalar_opens (u64 n) h e = cc e
scalar_opens (i64 z) h e = cc e
scalar_opens (f64 run) h e = cc e
scalar_opens (bool b) h e = cc e
scalar_opens null h e = cc e
scalar_opens _ h e = absurd h

pub end_is : (t : Token) → is_end t ≡ true → t ≡ end
end_is end e = refl
end_is _ e = cc e

pub end_not : (t : Token) → is_end t ≡ false → t ≢ end
end_not t e x = let y = sym (ap is_end x) ∙ e in cc y

-- a field begins with a scalar or an opening bracket
pub field_begins : (t : Token) → is_scalar t ≡ false → is_opening t ≡ false → ¬ BeginsField t
field_begins t x y (inl h) = let e = sym (scalar_true t h) ∙ x in cc e
field_begins t x y (inr h) = let e = sym (opens_opening t h) ∙ y in cc e

-- what is known of JSON's tokens where their brackets are counted
abbrev pub brackets : CutsBrackets Cut opens closes end
brackets = record {
  at_most_one = opens_at_most_one;
  opening = opens_only;
  is_end = is_end;
  end_is = end_is;
  end_not = end_not;
  shorter = cut_takes;
}

-- ---- skipped fields

pub skipped_some : SkippedField [] → ⊥
skipped_some (inl h) = absurd (cc h.1)
skipped_some (inr b) = bracket_some brackets b

-- a skipped field begins with a token that begins one
pub skipped_begins : (t : Token) (us : List Token) → SkippedField (t ∷ us) → BeginsField t
skipped_begins t us (inl h) = let same : t ≡ h.0 = cc h.1 in inl (subst IsScalar (sym same) h.2)
skipped_begins t us (inr b) = inr (first_opens brackets (t ∷ us) us t b refl)

-- where a bracket is pending, only brackets are skipped
pub skipped_bracket : (pending : Token) → is_opening pending ≡ true → LeadsTo Skips Brackets [] pending
skipped_bracket pending opening us more rest next v (inl h) is =
    let joined = ap (λ (xs : List Token). xs ++ next ∷ more) (sym h.1) ∙ is in
    let same : h.0 ≡ pending = cc joined in
    absurd (scalar_opens h.0 h.2 (ap opens same ∙ opening_one pending opening))
skipped_bracket pending opening us more rest next v (inr b) is = (us, tt, next, more, b, is)

-- no skipped field is a proper beginning of another
pub skipped_apart : (us more : List Token) → SkippedField us → SkippedField (us ++ more) → more ≡ []
skipped_apart us more (inl h) (inl k) =
    let e = sym (ap (λ (xs : List Token). xs ++ more) h.1) ∙ k.1 in cc e
skipped_apart us more (inl h) (inr k) =
    let e = ap (λ (xs : List Token). xs ++ more) h.1 in
    absurd (scalar_opens h.0 h.2 (first_opens brackets (us ++ more) more h.0 k e))
skipped_apart us more (inr h) (inl k) =
    absurd (scalar_opens k.0 k.2 (first_opens_in brackets us more [] k.0 h k.1))
skipped_apart us more (inr h) (inr k) = bracket_apart brackets us more h k
