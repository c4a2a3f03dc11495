-- Tests of a token and its brackets.
use Rattle.std.proofs.Common.{◌≡◌, ◌≢◌, ℕ, ◌≤◌, List, inl, inr}
use Rattle.std.proofs.Common.{refl, ap, sym, ◌∙◌, true, false, arith}
use Rattle.nano_ron_tokens.specs.Token.{Token, ident, str, u64, i64, f64, bool, character}
use Rattle.nano_ron_tokens.specs.Token.{curly_open, paren_open, block_open, end, IsIdent}
use Rattle.nano_ron_tokens.specs.Scan.{is_scalar, is_opening, is_paren_open, is_end}
use Rattle.nano_ron_tokens.specs.Skipped.{BeginsField, IsScalar, OpensContent, opens, closes}

pub opens_at_most_one : (t : Token) → opens t ≤ 1
opens_at_most_one curly_open = omega arith
opens_at_most_one paren_open = omega arith
opens_at_most_one block_open = omega arith
opens_at_most_one _ = omega arith

pub opens_only : (t : Token) → opens t ≡ 1 → (closes t ≡ 0) × (t ≢ end)
opens_only curly_open e = (refl, λ x. cc x)
opens_only paren_open e = (refl, λ x. cc x)
opens_only block_open e = (refl, λ x. cc x)
opens_only _ e = cc e

opens_opening : (t : Token) → opens t ≡ 1 → is_opening t ≡ true
opens_opening curly_open e = refl
opens_opening paren_open e = refl
opens_opening block_open e = refl
opens_opening _ e = cc e

pub opening_one : (t : Token) → is_opening t ≡ true → opens t ≡ 1
opening_one curly_open e = refl
opening_one paren_open e = refl
opening_one block_open e = refl
opening_one _ e = cc e

pub scalar_is : (t : Token) → is_scalar t ≡ true → IsScalar t
scalar_is (ident name) e = tt
scalar_is (str bs) e = tt
scalar_is (u64 n) e = tt
scalar_is (i64 z) e = tt
scalar_is (f64 run) e = tt
scalar_is (bool b) e = tt
scalar_is (character c) e = tt
scalar_is _ e = cc e

scalar_true : (t : Token) → IsScalar t → is_scalar t ≡ true
scalar_true (ident name) e = refl
scalar_true (str bs) e = refl
scalar_true (u64 n) e = refl
scalar_true (i64 z) e = refl
scalar_true (f64 run) e = refl
scalar_true (bool b) e = refl
scalar_true (character c) e = refl
scalar_true _ e = absurd e

pub scalar_opens : (t : Token) → IsScalar t → opens t ≡ 1 → ⊥
scalar_opens (ident name) h e = cc e
scalar_opens (str bs) h e = cc e
scalar_opens (u64 n) h e = cc e
scalar_opens (i64 z) h e = cc e
scalar_opens (f64 run) h e = cc e
scalar_opens (bool b) h e = cc e
scalar_opens (character c) h e = cc e
scalar_opens _ h e = absurd h

-- the name of a word
pub word_is : (t : Token) → IsIdent t → (name : List ℕ) × (t ≡ ident name)
word_is (ident name) h = (name, refl)
word_is _ h = absurd h

pub word_scalar : (t : Token) → IsIdent t → IsScalar t
word_scalar (ident name) h = tt
word_scalar _ h = absurd h

-- and what opens its content
pub opens_content : (t next : Token) → IsIdent t → next ≡ paren_open → OpensContent t next
opens_content (ident name) next h is = is
opens_content _ next h is = absurd h

pub paren_open_is : (t : Token) → is_paren_open t ≡ true → t ≡ paren_open
paren_open_is paren_open e = refl
paren_open_is _ e = cc e

pub paren_open_not : (t : Token) → is_paren_open t ≡ false → t ≢ paren_open
paren_open_not t e x = let y = sym (ap is_paren_open x) ∙ e in cc y

pub end_is : (t : Token) → is_end t ≡ true → t ≡ end
end_is end e = refl
end_is _ e = cc e

pub end_not : (t : Token) → is_end t ≡ false → t ≢ end
end_not t e x = let y = sym (ap is_end x) ∙ e in cc y

-- a field begins with a scalar or an opening bracket
pub field_begins : (t : Token) → is_scalar t ≡ false → is_opening t ≡ false → ¬ BeginsField t
field_begins t x y (inl h) = let e = sym (scalar_true t h) ∙ x in cc e
field_begins t x y (inr h) = let e = sym (opens_opening t h) ∙ y in cc e
