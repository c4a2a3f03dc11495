-- Where no token is cut from a text, a reader goes to one place.
use Rattle.std.proofs.Common.{◌≡◌, ℕ, List, [], ◌∷◌, inl, inr, true, false, refl, sym, ap, ◌∙◌, subst}
use Rattle.std.proofs.Common.{arith, None, ◌==◌, eqb-true}
use Rattle.std.specs.Char.{is_ascii_digit}
use Rattle.std.proofs.lemmas.Bool.{or_cases}
use Rattle.std.proofs.lemmas.Bool.Decides.{nat_tests}
use Rattle.nano_text.specs.Breaks.{is_quote}
use Rattle.nano_text.specs.Characters.{first_is, following, is_space}
use Rattle.nano_text.specs.Number.{is_sign}
use Rattle.nano_text.proofs.BreaksOnce.{number_once, string_once, number_apart, string_apart}
use Rattle.nano_text.proofs.BreaksOnce.{signed_decimal, digit_decimal}
use Rattle.nano_text.proofs.Prefixes.{prefix_all}
use Rattle.nano_json_tokens.specs.Breaks.{BreaksWord, BreaksCharacter, BreaksLexeme, Breaks, character}
use Rattle.nano_json_tokens.specs.Breaks.{number as bad_number, quoted as bad_string, word as bad_word}
use Rattle.nano_json_tokens.specs.Cut.{is_word, starts_number, IsLexeme, IsWord, number, quoted, Cut}
use Rattle.nano_json_tokens.specs.Scan.{punctuator_of}
use Rattle.nano_json_tokens.specs.Token.{Token, str, f64}
use Rattle.nano_json_tokens.proofs.Cuts.{cut_lexeme, word_prefix, run_number, quoted_string}
use Rattle.nano_json_tokens.proofs.LexemeKinds.{kind_of, kind_at, a_string, a_word, kind_string, kind_word}
use Rattle.nano_json_tokens.proofs.LexemeKinds.{number_kind, only_number, only_quoted, only_word}
use Rattle.nano_json_tokens.proofs.Scanning.{breaks_lexeme}

-- ---- what the first character says

quote_kind : (text : List ℕ) → first_is is_quote text ≡ true → kind_at text ≡ a_string
quote_kind [] h = cc h
quote_kind (c ∷ cs) h = ap kind_of (eqb-true c 34 h) ∙ kind_string

letter_kind : (c : ℕ) → is_word c ≡ true → kind_of c ≡ a_word
letter_kind c h =
    let e58 : c == 58 ≡ false = grind (arith, nat_tests) in
    let e44 : c == 44 ≡ false = grind (arith, nat_tests) in
    let e91 : c == 91 ≡ false = grind (arith, nat_tests) in
    let e93 : c == 93 ≡ false = grind (arith, nat_tests) in
    let e123 : c == 123 ≡ false = grind (arith, nat_tests) in
    let e125 : c == 125 ≡ false = grind (arith, nat_tests) in
    let e34 : c == 34 ≡ false = grind (arith, nat_tests) in
    let no_number : starts_number c ≡ false = grind (arith, nat_tests) in
    let no_punctuator : punctuator_of c ≡ None = rw (e58, e44, e91, e93, e123, e125) refl in
    kind_word c no_punctuator no_number e34 h

letters_kind : (text : List ℕ) → first_is is_word text ≡ true → kind_at text ≡ a_word
letters_kind [] h = cc h
letters_kind (c ∷ cs) h = letter_kind c h

-- ---- where a character breaks, nothing else does

no_number : (text rest : List ℕ) → first_is starts_number text ≡ true → BreaksCharacter text rest → ⊥
no_number text rest starts h =
    let first : starts_number h.first ≡ true = subst (λ (l : List ℕ). first_is starts_number l ≡ true) h.is starts in
    elim (or_cases (is_sign h.first) (is_ascii_digit h.first) first) [
      | inl s ↦ h.none (f64 (h.first ∷ 48 ∷ 46 ∷ [])) (48 ∷ 46 ∷ []) [] (number first (signed_decimal h.first s))
      | inr d ↦ h.none (f64 (h.first ∷ 46 ∷ [])) (46 ∷ []) [] (number first (digit_decimal h.first d))
    ]

no_string : (text rest : List ℕ) → first_is is_quote text ≡ true → BreaksCharacter text rest → ⊥
no_string text rest starts h =
    let first : h.first ≡ 34 = eqb-true h.first 34 (subst (λ (l : List ℕ). first_is is_quote l ≡ true) h.is starts) in
    h.none (str []) (34 ∷ []) []
    (quoted ([], record { pieces = []; good = tt; split = ap (λ (c : ℕ). c ∷ 34 ∷ []) first; characters_are = refl }, refl))

no_letters : (text rest : List ℕ) → first_is is_word text ≡ true → BreaksCharacter text rest → ⊥
no_letters text rest starts h =
    let first : is_word h.first ≡ true = subst (λ (l : List ℕ). first_is is_word l ≡ true) h.is starts in
    let both = sym first ∙ h.no_word in cc both

-- ---- one place

word_after : (text rest : List ℕ) → BreaksWord text rest → following is_word text ≡ rest
word_after text rest h = ap (following is_word) h.is.0 ∙ (prefix_all is_word h.word rest h.letters h.is.1).1

lexeme_once : (text a b : List ℕ) → BreaksLexeme text a → BreaksLexeme text b → a ≡ b
lexeme_once text a b (bad_number s h) (bad_number t k) = number_once text a b h k
lexeme_once text a b (bad_number s h) (bad_string t k) = let e = sym (number_kind text s) ∙ quote_kind text t in cc e
lexeme_once text a b (bad_number s h) (bad_word t k) = let e = sym (number_kind text s) ∙ letters_kind text t in cc e
lexeme_once text a b (bad_number s h) (character k) = absurd (no_number text b s k)
lexeme_once text a b (bad_string s h) (bad_number t k) = let e = sym (quote_kind text s) ∙ number_kind text t in cc e
lexeme_once text a b (bad_string s h) (bad_string t k) = string_once text a b h k
lexeme_once text a b (bad_string s h) (bad_word t k) = let e = sym (quote_kind text s) ∙ letters_kind text t in cc e
lexeme_once text a b (bad_string s h) (character k) = absurd (no_string text b s k)
lexeme_once text a b (bad_word s h) (bad_number t k) = let e = sym (letters_kind text s) ∙ number_kind text t in cc e
lexeme_once text a b (bad_word s h) (bad_string t k) = let e = sym (letters_kind text s) ∙ quote_kind text t in cc e
lexeme_once text a b (bad_word s h) (bad_word t k) = sym (word_after text a h) ∙ word_after text b k
lexeme_once text a b (bad_word s h) (character k) = absurd (no_letters text b s k)
lexeme_once text a b (character h) (bad_number t k) = absurd (no_number text a t h)
lexeme_once text a b (character h) (bad_string t k) = absurd (no_string text a t h)
lexeme_once text a b (character h) (bad_word t k) = absurd (no_letters text a t h)
lexeme_once text a b (character h) (character k) = h.all ∙ sym k.all

pub breaks_once : (text a b : List ℕ) → Breaks text a → Breaks text b → a ≡ b
breaks_once text a b h k = lexeme_once (following is_space text) a b (breaks_lexeme text a h) (breaks_lexeme text b k)

-- ---- and no lexeme stands there

lexeme_apart : (text rest left : List ℕ) (t : Token) → BreaksLexeme text rest → IsLexeme t text left → ⊥
lexeme_apart text rest left t (bad_number s h) lexeme =
    let run = run_number t text left (only_number t text left (number_kind text s) lexeme) in
    number_apart text rest left run.1 run.0 h run.2
lexeme_apart text rest left t (bad_string s h) lexeme =
    let string = quoted_string t text left (only_quoted t text left (quote_kind text s) lexeme) in
    string_apart text rest left string.0 h string.1
lexeme_apart text rest left t (bad_word s h) lexeme =
    let is = only_word t text left (letters_kind text s) lexeme in
    let same : left ≡ rest = sym (word_prefix t text left is).1 ∙ word_after text rest h in
    h.none t (subst (λ (l : List ℕ). IsWord t text l) same is)
lexeme_apart text rest left t (character h) lexeme =
    h.none t h.after left (subst (λ (l : List ℕ). IsLexeme t l left) h.is lexeme)

pub breaks_or_cuts : (text rest left : List ℕ) (t : Token) → Breaks text rest → Cut text t left → ⊥
breaks_or_cuts text rest left t h cut =
    lexeme_apart (following is_space text) rest left t (breaks_lexeme text rest h) (cut_lexeme text t left cut)
