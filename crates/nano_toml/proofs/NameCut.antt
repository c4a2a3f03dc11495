-- Where no name is cut from a text.
use Rattle.std.proofs.Common.{◌≡◌, ℕ, List, [], ◌∷◌, ◌++◌, ◌⊎◌, inl, inr, Bool, true, false, Option}
use Rattle.std.proofs.Common.{Some, None, IsSome, IfNone, Bor, String, Global, string_bytes, ap}
use Rattle.std.proofs.Common.{sym, ◌∙◌, subst, true≢false}
use Rattle.nano_toml.specs.Characters.{starts_word}
use Rattle.nano_toml.specs.Cut.{Cut, Lexeme, a_punctuator, a_word, a_string, a_number}
use Rattle.nano_toml.specs.Cut.{punctuator_token}
use Rattle.nano_toml.specs.Number.{Body, is_nan, is_infinity, is_decimal, is_date, is_integer}
use Rattle.nano_toml.specs.Number.{body_token, is_minus}
use Rattle.nano_toml.specs.Reading.{scalar_at, Next, a_token, token_of, Took}
use Rattle.nano_toml.specs.Scan.{Taken, after_gaps}
use Rattle.nano_toml.proofs.ByteTests.{next_after_gaps}
use Rattle.nano_toml.specs.Token.{begins, ident, comma, open_bracket, close_bracket, equals, IsWord}
use Rattle.nano_toml.specs.declared.token.TomlTok.{TomlTok}
use Rattle.nano_toml.specs.declared.token.TomlTok.TheVariants as tok
use Rattle.nano_toml.proofs.CutLaws.{at_lexeme, cut_scanned}
use Rattle.nano_toml.proofs.GapCut.{gaps_scanned}
use Rattle.nano_toml.proofs.LexemeCut.{lexeme_scanned, punctuator_cases}
use Rattle.nano_toml.proofs.NumberCut.{same_taken}

body_no_name : (minus : Bool) (body : Body) (name : List ℕ) → ident name ≡ body_token minus body → ⊥
body_no_name minus is_nan name e = cc
body_no_name minus is_infinity name e = cc
body_no_name minus (is_decimal whole part) name e = cc
body_no_name minus (is_date first more) name e = cc
body_no_name true (is_integer whole) name e = cc
body_no_name false (is_integer whole) name e = cc

punctuator_no_name : (c : ℕ) (name : List ℕ) → (c ≡ 44) ⊎ ((c ≡ 91) ⊎ ((c ≡ 93) ⊎ (c ≡ 61))) → punctuator_token c ≡ Some (ident name) → ⊥
punctuator_no_name c name (inl e) m = let clash : Some comma ≡ Some (ident name) = sym (ap punctuator_token e) ∙ m in cc clash
punctuator_no_name c name (inr (inl e)) m = let clash : Some open_bracket ≡ Some (ident name) = sym (ap punctuator_token e) ∙ m in cc clash
punctuator_no_name c name (inr (inr (inl e))) m = let clash : Some close_bracket ≡ Some (ident name) = sym (ap punctuator_token e) ∙ m in cc clash
punctuator_no_name c name (inr (inr (inr e))) m = let clash : Some equals ≡ Some (ident name) = sym (ap punctuator_token e) ∙ m in cc clash

word_begins : (word rest : List ℕ) → IsWord word → begins starts_word (word ++ rest) ≡ true
word_begins [] rest h = absurd h
word_begins (c ∷ cs) rest h = h.0

-- a name starts as a word
name_begins : (text name rest : List ℕ) → Lexeme text (ident name) rest → begins starts_word text ≡ true
name_begins text name rest (a_punctuator c m split) = absurd (punctuator_no_name c name (punctuator_cases c (ident name) m) m)
name_begins text name rest (a_word word w e split is) = ap (begins starts_word) split ∙ word_begins word rest w
name_begins text name rest (a_string chars s is) = absurd (cc is)
name_begins text name rest (a_number n) = absurd (body_no_name (is_minus n.sign) n.body name n.is)

pub no_word_no_name : (text now : List ℕ) → now ≡ after_gaps false text → begins starts_word now ≡ false → (name rest : List ℕ) → Cut text (ident name) rest → ⊥
no_word_no_name text now skipped none name rest h =
    let from = at_lexeme h.from _ (lexeme_scanned h.from rest (ident name) h.lexeme) in
    let here : now ≡ h.from = skipped ∙ (ap (after_gaps false) h.split ∙ (gaps_scanned h.gaps h.from h.are_gaps ∙ from.0)) in
    true≢false (sym (name_begins h.from name rest h.lexeme) ∙ (ap (begins starts_word) (sym here) ∙ none))

-- a word that is a value is no name
scalar_no_name : (n : Next) (name : List ℕ) → IsSome (scalar_at n) → n ≡ a_token (ident name) → ⊥
scalar_no_name n name value e = let clash : false ≡ true = subst (λ (m : Next). IsSome (scalar_at m)) e value in true≢false (sym clash)

pub value_no_name : (text now left : List ℕ) (n : Next) → now ≡ after_gaps false text → next_after_gaps now ≡ Some (record { next = n; rest = left }) → IsSome (scalar_at n) → (name rest : List ℕ) → Cut text (ident name) rest → ⊥
value_no_name text now left n skipped scanned value name rest h =
    let same : record { next = n; rest = left } ≡ record { next = a_token (ident name); rest = rest } =
    same_taken (sym scanned ∙ (ap next_after_gaps skipped ∙ cut_scanned text rest (ident name) h)) in
    scalar_no_name n name value (ap (λ (x : Taken). x.next) same)

-- ---- where a name was looked for

-- no name stands in the text, and nothing was taken of it
pub record NoName (text now : List ℕ) : Type 0 where
  pub same : now ≡ text
  pub none : (name rest : List ℕ) → Cut text (ident name) rest → ⊥

pub NoName-from : (found : Option (Bor (List ℕ))) (text now : List ℕ) → found ≡ None → IfNone found (now ≡ text) → IfNone found ((name rest : List ℕ) → Cut text (ident name) rest → ⊥) → NoName text now
NoName-from None text now e same none = record { same = same; none = none }
NoName-from (Some name) text now e same none = cc e

-- what is taken next is taken of the text, and is no name
pub Took-no_name : (text now rest : List ℕ) (n : Next) → NoName text now → Took now n rest → Took text n rest
Took-no_name text now rest n looked took = subst (λ (t : List ℕ). Took t n rest) looked.same took

pub not_name : (text now rest : List ℕ) (t : TomlTok) → NoName text now → Took now (token_of t) rest → (name : String Global) → t ≡ tok.Ident name → ⊥
not_name text now rest t looked took name e =
    looked.none (string_bytes name) rest (subst (λ (u : TomlTok). Took text (token_of u) rest) e (Took-no_name text now rest (token_of t) looked took))
