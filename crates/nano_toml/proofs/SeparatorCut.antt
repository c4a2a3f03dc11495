-- Where a bracket or an equals sign is cut from a text, and where none is.
use Rattle.std.proofs.Common.{◌≡◌, ℕ, List, [], ◌∷◌, ◌==◌, ◌⊎◌, inl, inr, Bool, true, false}
use Rattle.std.proofs.Common.{if◌then◌else◌, eqb-true, codes, bytes_eq, Option, Some, option_map}
use Rattle.std.proofs.Common.{refl, ap, sym, ◌∙◌, subst, true≢false}
use Rattle.nano_toml.specs.Characters.{starts_word, starts_number, is_quote}
use Rattle.nano_toml.specs.Cut.{Cut, Lexeme, a_punctuator, a_word, a_string, a_number}
use Rattle.nano_toml.specs.Cut.{punctuator_token}
use Rattle.nano_toml.specs.Number.{Body, is_nan, is_infinity, is_decimal, is_date, is_integer}
use Rattle.nano_toml.specs.Number.{body_token, is_minus}
use Rattle.nano_toml.specs.Scan.{tail, after_gaps}
use Rattle.nano_toml.proofs.ByteTests.{next_after_gaps}
use Rattle.nano_toml.specs.Token.{begins, Token, nan, infinity, boolean, ident, comma, open_bracket}
use Rattle.nano_toml.specs.Token.{close_bracket, equals, word_token}
use Rattle.nano_toml.specs.Reading.{a_token, token_of, Took}
use Rattle.nano_toml.specs.declared.token.TomlTok.{TomlTok}
use Rattle.nano_toml.specs.declared.token.TomlTok.TheVariants as tok
use Rattle.nano_toml.proofs.CutLaws.{at_lexeme, scanned_cut}
use Rattle.nano_toml.proofs.GapCut.{gaps_scanned}
use Rattle.nano_toml.proofs.LexemeCut.{lexeme_scanned, punctuator_cases}
use Rattle.nano_toml.proofs.NameCut.{NoName, Took-no_name}
use Rattle.nano_toml.proofs.BuildLemmas.{punctuator_next, punctuator_some}

-- ---- one that was taken

-- a bracket or an equals sign
abbrev pub IsSeparator : ℕ → Type 0
IsSeparator k = (k ≡ 91) ⊎ ((k ≡ 93) ⊎ (k ≡ 61))

begins_this : (k : ℕ) (now : List ℕ) → begins (λ d. d == k) now ≡ true → now ≡ k ∷ tail now
begins_this k [] h = cc h
begins_this k (c ∷ cs) h = ap (λ (d : ℕ). d ∷ cs) (eqb-true c k h)

separator_is_punctuator : (k : ℕ) → IsSeparator k → (starts_word k ≡ false) × (starts_number k ≡ false) × (is_quote k ≡ false)
separator_is_punctuator k (inl e) = rw e (refl, refl, refl)
separator_is_punctuator k (inr (inl e)) = rw e (refl, refl, refl)
separator_is_punctuator k (inr (inr e)) = rw e (refl, refl, refl)

pub taken_separator : (text now rest : List ℕ) (k : ℕ) (found : Bool) (token : Token) → now ≡ after_gaps false text → found ≡ begins (λ d. d == k) now → rest ≡ (if found then tail now else now)
    → found ≡ true → IsSeparator k → punctuator_token k ≡ Some token → Cut text token rest
taken_separator text now rest k found token skipped reports left is_here bracket punctuator =
    let here : now ≡ k ∷ tail now = begins_this k now (sym reports ∙ is_here) in
    let following : rest ≡ tail now = subst (λ (b : Bool). rest ≡ (if b then tail now else now)) is_here left in
    let odd = separator_is_punctuator k bracket in
    let some : Some (a_token token) ≡ option_map (λ t. a_token t) (punctuator_token k) = sym (ap (λ (m : Option Token). option_map (λ t. a_token t) m) punctuator) in
    let at : next_after_gaps now ≡ Some (record { next = a_token token; rest = tail now }) =
    punctuator_next now (tail now) k here odd.0 odd.1 odd.2 ∙ punctuator_some (punctuator_token k) (tail now) (a_token token) some in
    scanned_cut text (record { next = a_token token; rest = rest })
    (ap next_after_gaps (sym skipped) ∙ (at ∙ ap (λ (t : List ℕ). Some (record { next = a_token token; rest = t })) (sym following)))

-- ---- where none stands

abbrev is_separator : Token → Bool
is_separator open_bracket = true
is_separator close_bracket = true
is_separator equals = true
is_separator t = false

punctuator_is_separator : (k : ℕ) (token : Token) → IsSeparator k → punctuator_token k ≡ Some token → true ≡ is_separator token
punctuator_is_separator k token (inl o) m = let some : Some open_bracket ≡ Some token = sym (ap punctuator_token o) ∙ m in let same : open_bracket ≡ token = cc some in ap is_separator same
punctuator_is_separator k token (inr (inl o)) m = let some : Some close_bracket ≡ Some token = sym (ap punctuator_token o) ∙ m in let same : close_bracket ≡ token = cc some in ap is_separator same
punctuator_is_separator k token (inr (inr o)) m = let some : Some equals ≡ Some token = sym (ap punctuator_token o) ∙ m in let same : equals ≡ token = cc some in ap is_separator same

value_no_separator : (t f i n : Bool) (word : List ℕ) → is_separator (if t then boolean true else if f then boolean false else if i then infinity false else if n then nan false else ident word) ≡ false
value_no_separator true f i n word = refl
value_no_separator false true i n word = refl
value_no_separator false false true n word = refl
value_no_separator false false false true word = refl
value_no_separator false false false false word = refl

word_no_separator : (word : List ℕ) → is_separator (word_token word) ≡ false
word_no_separator word = value_no_separator (bytes_eq word (codes "true")) (bytes_eq word (codes "false")) (bytes_eq word (codes "inf")) (bytes_eq word (codes "nan")) word

body_no_separator : (minus : Bool) (body : Body) → is_separator (body_token minus body) ≡ false
body_no_separator minus is_nan = refl
body_no_separator minus is_infinity = refl
body_no_separator minus (is_decimal whole part) = refl
body_no_separator minus (is_date first more) = refl
body_no_separator true (is_integer whole) = refl
body_no_separator false (is_integer whole) = refl

same_separator : (c k : ℕ) → IsSeparator k → (c ≡ 44) ⊎ ((c ≡ 91) ⊎ ((c ≡ 93) ⊎ (c ≡ 61))) → punctuator_token k ≡ punctuator_token c → (c == k) ≡ true
same_separator c k (inl o) (inl e) m = let clash : Some open_bracket ≡ Some comma = sym (ap punctuator_token o) ∙ (m ∙ ap punctuator_token e) in cc clash
same_separator c k (inl o) (inr (inl e)) m = rw (e, o) refl
same_separator c k (inl o) (inr (inr (inl e))) m = let clash : Some open_bracket ≡ Some close_bracket = sym (ap punctuator_token o) ∙ (m ∙ ap punctuator_token e) in cc clash
same_separator c k (inl o) (inr (inr (inr e))) m = let clash : Some open_bracket ≡ Some equals = sym (ap punctuator_token o) ∙ (m ∙ ap punctuator_token e) in cc clash
same_separator c k (inr (inl o)) (inl e) m = let clash : Some close_bracket ≡ Some comma = sym (ap punctuator_token o) ∙ (m ∙ ap punctuator_token e) in cc clash
same_separator c k (inr (inl o)) (inr (inl e)) m = let clash : Some close_bracket ≡ Some open_bracket = sym (ap punctuator_token o) ∙ (m ∙ ap punctuator_token e) in cc clash
same_separator c k (inr (inl o)) (inr (inr (inl e))) m = rw (e, o) refl
same_separator c k (inr (inl o)) (inr (inr (inr e))) m = let clash : Some close_bracket ≡ Some equals = sym (ap punctuator_token o) ∙ (m ∙ ap punctuator_token e) in cc clash
same_separator c k (inr (inr o)) (inl e) m = let clash : Some equals ≡ Some comma = sym (ap punctuator_token o) ∙ (m ∙ ap punctuator_token e) in cc clash
same_separator c k (inr (inr o)) (inr (inl e)) m = let clash : Some equals ≡ Some open_bracket = sym (ap punctuator_token o) ∙ (m ∙ ap punctuator_token e) in cc clash
same_separator c k (inr (inr o)) (inr (inr (inl e))) m = let clash : Some equals ≡ Some close_bracket = sym (ap punctuator_token o) ∙ (m ∙ ap punctuator_token e) in cc clash
same_separator c k (inr (inr o)) (inr (inr (inr e))) m = rw (e, o) refl

separator_begins : (text rest : List ℕ) (k : ℕ) (token : Token) → IsSeparator k → punctuator_token k ≡ Some token → Lexeme text token rest → begins (λ d. d == k) text ≡ true
separator_begins text rest k token b punctuator (a_punctuator c m split) = ap (begins (λ d. d == k)) split ∙ same_separator c k b (punctuator_cases c token m) (punctuator ∙ sym m)
separator_begins text rest k token b punctuator (a_word word w e split is) = absurd (true≢false (punctuator_is_separator k token b punctuator ∙ (ap is_separator is ∙ word_no_separator word)))
separator_begins text rest k token b punctuator (a_string chars s is) = absurd (true≢false (punctuator_is_separator k token b punctuator ∙ ap is_separator is))
separator_begins text rest k token b punctuator (a_number n) = absurd (true≢false (punctuator_is_separator k token b punctuator ∙ (ap is_separator n.is ∙ body_no_separator (is_minus n.sign) n.body)))

pub no_separator_cut : (text now : List ℕ) (k : ℕ) (token : Token) → now ≡ after_gaps false text → begins (λ d. d == k) now ≡ false → IsSeparator k → punctuator_token k ≡ Some token
    → (rest : List ℕ) → Cut text token rest → ⊥
no_separator_cut text now k token skipped none b punctuator rest h =
    let from = at_lexeme h.from _ (lexeme_scanned h.from rest token h.lexeme) in
    let here : now ≡ h.from = skipped ∙ (ap (after_gaps false) h.split ∙ (gaps_scanned h.gaps h.from h.are_gaps ∙ from.0)) in
    true≢false (sym (separator_begins h.from rest k token b punctuator h.lexeme) ∙ (ap (begins (λ d. d == k)) (sym here) ∙ none))

-- ---- where a name was looked for, and then an opening bracket

-- neither stands in the text, and nothing was taken of it
pub record NoOpening (text now : List ℕ) : Type 0 where
  pub no_name : NoName text now
  pub no_bracket : (rest : List ℕ) → Cut text open_bracket rest → ⊥

pub NoOpening-from : (text here now : List ℕ) → NoName text here → now ≡ here → ((rest : List ℕ) → Cut here open_bracket rest → ⊥) → NoOpening text now
NoOpening-from text here now looked unchanged none = record {
  no_name = record { same = unchanged ∙ looked.same; none = looked.none };
  no_bracket = subst (λ (t : List ℕ). (rest : List ℕ) → Cut t open_bracket rest → ⊥) looked.same none;
}

-- what is taken next is no opening bracket
pub not_open : (text now rest : List ℕ) (t : TomlTok) → NoOpening text now → Took now (token_of t) rest → t ≡ tok.BlockOpen → ⊥
not_open text now rest t looked took e =
    looked.no_bracket rest (subst (λ (u : TomlTok). Took text (token_of u) rest) e (Took-no_name text now rest (token_of t) looked.no_name took))
