-- Skipped fields: what they begin with, and how one goes on in another.
use Rattle.std.proofs.Common.{◌≡◌, ◌≢◌, ℕ, List, [], ◌∷◌, ◌++◌, inl, inr}
use Rattle.std.proofs.Common.{refl, ap, sym, ◌∙◌, subst, true}
use Rattle.nano_grammar.proofs.FaultLaws.{LeadsTo}
use Rattle.nano_grammar.proofs.BracketLaws.{CutsBrackets, bracket_some, bracket_apart}
use Rattle.nano_grammar.proofs.BracketLaws.{first_opens, first_opens_in}
use Rattle.nano_ron_tokens.specs.Token.{Token, ident, comma, paren_open, paren_close, end}
use Rattle.nano_ron_tokens.specs.Cut.{Cut}
use Rattle.nano_ron_tokens.specs.Scan.{is_opening, is_end}
use Rattle.nano_ron_tokens.specs.Skipped.{SkippedField, BeginsField, IsBracketed, IsScalar, opens}
use Rattle.nano_ron_tokens.specs.Skipped.{Brackets, Skips, closes}
use Rattle.nano_ron_tokens.proofs.BracketTokens.{opens_at_most_one, opens_only, opening_one}
use Rattle.nano_ron_tokens.proofs.BracketTokens.{scalar_opens, end_is, end_not}
use Rattle.nano_ron_tokens.proofs.Capacity.{cut_takes}

-- what is known of RON's tokens where their brackets are counted
abbrev pub brackets : CutsBrackets Cut opens closes end
brackets = record {
  at_most_one = opens_at_most_one;
  opening = opens_only;
  is_end = is_end;
  end_is = end_is;
  end_not = end_not;
  shorter = cut_takes;
}

pub skipped_some : SkippedField [] → ⊥
skipped_some (inl h) = absurd (cc h.1)
skipped_some (inr (inl b)) = bracket_some brackets b
skipped_some (inr (inr h)) = absurd (cc h.are)

-- a skipped field begins with a token that begins one
pub skipped_begins : (t : Token) (us : List Token) → SkippedField (t ∷ us) → BeginsField t
skipped_begins t us (inl h) = let same : t ≡ h.0 = cc h.1 in inl (subst IsScalar (sym same) h.2)
skipped_begins t us (inr (inl b)) = inr (first_opens brackets (t ∷ us) us t b refl)
skipped_begins t us (inr (inr h)) =
    let same : t ≡ ident h.name = cc h.are in inl (subst IsScalar (sym same) tt)

-- a word opens none
pub word_first : (name : List ℕ) (t : Token) → t ≡ ident name → opens t ≡ 1 → ⊥
word_first name t is opening = scalar_opens (ident name) tt (sym (ap opens is) ∙ opening)

-- where a bracket is pending, only brackets are skipped
pub skipped_bracket : (pending : Token) → is_opening pending ≡ true → LeadsTo Skips Brackets [] pending
skipped_bracket pending opening us more rest next v (inl h) is =
    let joined = ap (λ (xs : List Token). xs ++ next ∷ more) (sym h.1) ∙ is in
    let same : h.0 ≡ pending = cc joined in
    absurd (scalar_opens h.0 h.2 (ap opens same ∙ opening_one pending opening))
skipped_bracket pending opening us more rest next v (inr (inl b)) is = (us, tt, next, more, b, is)
skipped_bracket pending opening us more rest next v (inr (inr h)) is =
    let joined = ap (λ (xs : List Token). xs ++ next ∷ more) (sym h.are) ∙ is in
    let same : pending ≡ ident h.name = cc joined in
    absurd (word_first h.name pending same (opening_one pending opening))

-- no brackets are a proper beginning of others
bracket_ends : (us more : List Token) (t : Token) → IsBracketed us → IsBracketed (us ++ t ∷ more) → ⊥
bracket_ends us more t b k = let none = bracket_apart brackets us (t ∷ more) b k in cc none

-- a word alone
abbrev IsWord : List Token → Type 0
IsWord us = (name : List ℕ) × (us ≡ ident name ∷ [])

-- a skipped field goes on in another only as a word, with an opening parenthesis
pub word_goes_on : (us more : List Token) (t : Token) → SkippedField us → SkippedField (us ++ t ∷ more)
    → ((name : List ℕ) × (us ≡ ident name ∷ [])) × (t ≡ paren_open)
word_goes_on us more t (inl h) k = one h.0 us h.1 h.2 k where
  one : (u : Token) (us : List Token) → us ≡ u ∷ [] → IsScalar u → SkippedField (us ++ t ∷ more)
      → IsWord us × (t ≡ paren_open)
  one u us e is (inl k) = let x = sym (ap (λ (xs : List Token). xs ++ t ∷ more) e) ∙ k.1 in cc x
  one u us e is (inr (inl k)) =
      let x = ap (λ (xs : List Token). xs ++ t ∷ more) e in
      absurd (scalar_opens u is (first_opens brackets (us ++ t ∷ more) (t ∷ more) u k x))
  one u us e is (inr (inr k)) =
      let x = sym (ap (λ (xs : List Token). xs ++ t ∷ more) e) ∙ k.are in
      let same : u ≡ ident k.name = cc x in
      let next : t ≡ paren_open = cc x in
      ((k.name, e ∙ ap (λ (w : Token). w ∷ []) same), next)
word_goes_on us more t (inr (inl b)) (inl k) =
    absurd (scalar_opens k.0 k.2 (first_opens_in brackets us (t ∷ more) [] k.0 b k.1))
word_goes_on us more t (inr (inl b)) (inr (inl k)) = absurd (bracket_ends us more t b k)
word_goes_on us more t (inr (inl b)) (inr (inr k)) =
    let opening = first_opens_in brackets us (t ∷ more) (paren_open ∷ k.following) (ident k.name) b k.are in
    absurd (word_first k.name (ident k.name) refl opening)
word_goes_on us more t (inr (inr h)) (inl k) =
    let x = sym (ap (λ (xs : List Token). xs ++ t ∷ more) h.are) ∙ k.1 in cc x
word_goes_on us more t (inr (inr h)) (inr (inl k)) =
    let x = ap (λ (xs : List Token). xs ++ t ∷ more) h.are in
    let opening = first_opens brackets (us ++ t ∷ more) ((paren_open ∷ h.following) ++ t ∷ more) (ident h.name) k x in
    absurd (word_first h.name (ident h.name) refl opening)
word_goes_on us more t (inr (inr h)) (inr (inr k)) =
    let x = sym (ap (λ (xs : List Token). xs ++ t ∷ more) h.are) ∙ k.are in
    let same : paren_open ∷ k.following ≡ (paren_open ∷ h.following) ++ t ∷ more = cc x in
    absurd (bracket_ends (paren_open ∷ h.following) more t h.content (subst IsBracketed same k.content))

-- so with neither the comma nor the closing parenthesis of a list
pub skipped_goes_on : (us more : List Token) (t : Token) → SkippedField us → SkippedField (us ++ t ∷ more)
    → t ≡ paren_open
skipped_goes_on us more t h k = (word_goes_on us more t h k).1

pub not_comma : (us more : List Token) (t : Token) → SkippedField us → SkippedField (us ++ t ∷ more)
    → t ≢ comma
not_comma us more t h k e = let x = sym (skipped_goes_on us more t h k) ∙ e in cc x

pub not_closing : (us more : List Token) (t : Token) → SkippedField us → SkippedField (us ++ t ∷ more)
    → t ≢ paren_close
not_closing us more t h k e = let x = sym (skipped_goes_on us more t h k) ∙ e in cc x

pub skipped_in_list : (us more : List Token) (t : Token) → SkippedField us → SkippedField (us ++ t ∷ more)
    → (t ≢ comma) × (t ≢ paren_close)
skipped_in_list us more t h k = (not_comma us more t h k, not_closing us more t h k)

-- nothing goes on with a field that is no word, nor with a word where no parenthesis opens
pub ends_other : (us more : List Token) (t : Token) → SkippedField us
    → ((name : List ℕ) → us ≡ ident name ∷ [] → ⊥) → SkippedField (us ++ t ∷ more) → ⊥
ends_other us more t h other k = let w = (word_goes_on us more t h k).0 in other w.0 w.1

pub ends_word : (us more : List Token) (t : Token) → SkippedField us → t ≢ paren_open
    → SkippedField (us ++ t ∷ more) → ⊥
ends_word us more t h other k = other (skipped_goes_on us more t h k)
