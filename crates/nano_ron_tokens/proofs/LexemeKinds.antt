-- What the first character of a text says of the lexeme that the text begins with.
use Rattle.std.proofs.Common.{◌≡◌, ◌≢◌, ℕ, List, [], ◌∷◌, ◌++◌, inl, inr, Bool, true, false, cond}
use Rattle.std.proofs.Common.{refl, ap, sym, ◌∙◌, None, is_some, arith, nat_eq, ◌==◌, ◌≤◌, eqb-true}
use Rattle.std.proofs.Common.{ne_eqb, subst}
use Rattle.std.specs.Char.{is_ascii_digit}
use Rattle.std.specs.declared.str.Chars.{Chars}
use Rattle.std.proofs.lemmas.Bool.{or_cases}
use Rattle.std.proofs.lemmas.Bool.Decides.{nat_tests}
use Rattle.nano_text.proofs.Runs.{digit_range}
use Rattle.nano_text.specs.Characters.{first_is}
use Rattle.nano_text.specs.Number.{is_sign}
use Rattle.nano_text.specs.Place.{held, remaining, before_nul}
use Rattle.nano_ron_tokens.specs.Token.{Token, ident, str, bool, character, colon, curly_open}
use Rattle.nano_ron_tokens.specs.Token.{curly_close, paren_open, paren_close, block_open}
use Rattle.nano_ron_tokens.specs.Token.{block_close, comma, end}
use Rattle.nano_ron_tokens.specs.Cut.{starts_word, starts_number, IsPunctuator, IsWord, IsRunOf}
use Rattle.nano_ron_tokens.specs.Cut.{IsQuoted, IsCharacter, IsEnd, IsLexeme, punctuator, word}
use Rattle.nano_text.specs.Characters.{is_space}
use Rattle.nano_ron_tokens.specs.Cut.{number, quoted, single, nothing, IsUnended}
use Rattle.nano_ron_tokens.specs.Scan.{punctuator_of, starts_gap, IsStop}
use Rattle.nano_ron_tokens.proofs.Skipping.{first_stops, unended_stops}

pub data Kind : Type 0 where
  a_punctuator : Kind
  a_number : Kind
  a_string : Kind
  a_character : Kind
  a_word : Kind
  the_end : Kind
  no_token : Kind

-- the kind of lexeme that a character begins, NUL being the end, and a slash where no comment ends
unfoldable pub kind_of : ℕ → Kind
kind_of c = cond (is_some (punctuator_of c)) a_punctuator (cond (starts_number c) a_number (cond (nat_eq c 34) a_string (cond (nat_eq c 39) a_character (cond (starts_word c) a_word (cond (nat_eq c 0) the_end (cond (nat_eq c 47) the_end no_token))))))

-- the kind of lexeme that a text begins with
abbrev pub kind_at : List ℕ → Kind
kind_at [] = the_end
kind_at (c ∷ cs) = kind_of c

pub kind_remaining : (cur : ℕ) (i : Chars) → kind_at (remaining cur i) ≡ kind_of cur
unfolding remaining kind_of
kind_remaining cur i = elim (nat_eq cur 0) as (λ (b : Bool). nat_eq cur 0 ≡ b → kind_at (cond b [] (cur ∷ before_nul (held i))) ≡ kind_of cur) [
  | true ↦ λ e. sym (ap kind_of (eqb-true cur 0 e))
  | false ↦ λ e. refl
] refl

digit_no_punctuator : (c : ℕ) → 48 ≤ c → c ≤ 57 → punctuator_of c ≡ None
digit_no_punctuator c l h = rw (ne_eqb c 58 (λ e. omega arith), ne_eqb c 44 (λ e. omega arith), ne_eqb c 91 (λ e. omega arith), ne_eqb c 93 (λ e. omega arith), ne_eqb c 40 (λ e. omega arith), ne_eqb c 41 (λ e. omega arith), ne_eqb c 123 (λ e. omega arith), ne_eqb c 125 (λ e. omega arith)) refl

number_no_punctuator : (c : ℕ) → starts_number c ≡ true → punctuator_of c ≡ None
number_no_punctuator c h =
    elim (or_cases _ _ h) [
      | inr e ↦ rw (eqb-true c 46 e) refl
      | inl n ↦ elim (or_cases (is_sign c) (is_ascii_digit c) n) [
        | inl s ↦ elim (or_cases _ _ s) [ inl e ↦ rw (eqb-true c 43 e) refl | inr e ↦ rw (eqb-true c 45 e) refl ]
        | inr d ↦ let r = digit_range c d in digit_no_punctuator c r.0 r.1
      ]
    ]

pub kind_number : (c : ℕ) → starts_number c ≡ true → kind_of c ≡ a_number
unfolding kind_of
kind_number c h = rw (number_no_punctuator c h, h) refl

pub kind_string : kind_of 34 ≡ a_string
unfolding kind_of
kind_string = refl

pub kind_single : kind_of 39 ≡ a_character
unfolding kind_of
kind_single = refl

pub kind_word : (c : ℕ) → starts_word c ≡ true → kind_of c ≡ a_word
unfolding kind_of
kind_word c h =
    let e58 : c == 58 ≡ false = grind (arith, nat_tests) in
    let e44 : c == 44 ≡ false = grind (arith, nat_tests) in
    let e91 : c == 91 ≡ false = grind (arith, nat_tests) in
    let e93 : c == 93 ≡ false = grind (arith, nat_tests) in
    let e40 : c == 40 ≡ false = grind (arith, nat_tests) in
    let e41 : c == 41 ≡ false = grind (arith, nat_tests) in
    let e123 : c == 123 ≡ false = grind (arith, nat_tests) in
    let e125 : c == 125 ≡ false = grind (arith, nat_tests) in
    let e34 : c == 34 ≡ false = grind (arith, nat_tests) in
    let e39 : c == 39 ≡ false = grind (arith, nat_tests) in
    let number : starts_number c ≡ false = grind (arith, nat_tests) in
    rw (e58, e44, e91, e93, e40, e41, e123, e125, number, e34, e39, h) refl

pub kind_slash : kind_of 47 ≡ the_end
unfolding kind_of
kind_slash = refl

pub kind_none : (c : ℕ) → punctuator_of c ≡ None → starts_number c ≡ false → nat_eq c 34 ≡ false → nat_eq c 39 ≡ false → starts_word c ≡ false → nat_eq c 0 ≡ false → nat_eq c 47 ≡ false → kind_of c ≡ no_token
unfolding kind_of
kind_none c m n q s w z g = rw (m, n, q, s, w, z, g) refl

pub punctuator_kind : (t : Token) (text rest : List ℕ) → IsPunctuator t text rest → kind_at text ≡ a_punctuator
unfolding kind_of
punctuator_kind colon text rest h = rw h refl
punctuator_kind comma text rest h = rw h refl
punctuator_kind block_open text rest h = rw h refl
punctuator_kind block_close text rest h = rw h refl
punctuator_kind paren_open text rest h = rw h refl
punctuator_kind paren_close text rest h = rw h refl
punctuator_kind curly_open text rest h = rw h refl
punctuator_kind curly_close text rest h = rw h refl
punctuator_kind _ text rest h = absurd h

name_kind : (name rest : List ℕ) → first_is starts_word name ≡ true → (text : List ℕ) → text ≡ name ++ rest → kind_at text ≡ a_word
name_kind [] rest h text e = cc h
name_kind (c ∷ cs) rest h text e = ap kind_at e ∙ kind_word c h

pub word_kind : (t : Token) (text rest : List ℕ) → IsWord t text rest → kind_at text ≡ a_word
word_kind (bool true) text rest h = ap kind_at h.0 ∙ kind_word 116 refl
word_kind (bool false) text rest h = ap kind_at h.0 ∙ kind_word 102 refl
word_kind (ident name) text rest h = name_kind name rest h.0.starts text h.1.0
word_kind _ text rest h = absurd h

pub number_kind : (text : List ℕ) → first_is starts_number text ≡ true → kind_at text ≡ a_number
number_kind [] h = cc h
number_kind (c ∷ cs) h = kind_number c h

pub quoted_kind : (t : Token) (text rest : List ℕ) → IsQuoted t text rest → kind_at text ≡ a_string
quoted_kind (str bytes) text rest h = rw h.1.split kind_string
quoted_kind _ text rest h = absurd h

pub single_kind : (t : Token) (text rest : List ℕ) → IsCharacter t text rest → kind_at text ≡ a_character
single_kind (character c) text rest h = elim h.1 [
  | inl p ↦ ap kind_at p.1 ∙ kind_single
  | inr p ↦ ap kind_at p ∙ kind_single
]
single_kind _ text rest h = absurd h

pub unended_kind : (text : List ℕ) → IsUnended text → kind_at text ≡ the_end
unended_kind text h = elim h [
  | inl empty ↦ ap kind_at empty
  | inr r ↦ elim r [
    | inl l ↦ ap kind_at l.1 ∙ kind_slash
    | inr b ↦ ap kind_at b.1 ∙ kind_slash
  ]
]

pub end_kind : (t : Token) (text rest : List ℕ) → IsEnd t text rest → kind_at text ≡ the_end
end_kind end text rest h = unended_kind text h.0
end_kind _ text rest h = absurd h

-- the kind of the first character is the kind of the lexeme
pub only_punctuator : (t : Token) (text rest : List ℕ) → kind_at text ≡ a_punctuator → IsLexeme t text rest → IsPunctuator t text rest
only_punctuator t text rest k (punctuator h) = h
only_punctuator t text rest k (word h) = let e = sym (word_kind t text rest h) ∙ k in cc e
only_punctuator t text rest k (number s h) = let e = sym (number_kind text s) ∙ k in cc e
only_punctuator t text rest k (quoted h) = let e = sym (quoted_kind t text rest h) ∙ k in cc e
only_punctuator t text rest k (single h) = let e = sym (single_kind t text rest h) ∙ k in cc e
only_punctuator t text rest k (nothing h) = let e = sym (end_kind t text rest h) ∙ k in cc e

pub only_word : (t : Token) (text rest : List ℕ) → kind_at text ≡ a_word → IsLexeme t text rest → IsWord t text rest
only_word t text rest k (punctuator h) = let e = sym (punctuator_kind t text rest h) ∙ k in cc e
only_word t text rest k (word h) = h
only_word t text rest k (number s h) = let e = sym (number_kind text s) ∙ k in cc e
only_word t text rest k (quoted h) = let e = sym (quoted_kind t text rest h) ∙ k in cc e
only_word t text rest k (single h) = let e = sym (single_kind t text rest h) ∙ k in cc e
only_word t text rest k (nothing h) = let e = sym (end_kind t text rest h) ∙ k in cc e

pub only_number : (t : Token) (text rest : List ℕ) → kind_at text ≡ a_number → IsLexeme t text rest → IsRunOf t text rest
only_number t text rest k (punctuator h) = let e = sym (punctuator_kind t text rest h) ∙ k in cc e
only_number t text rest k (word h) = let e = sym (word_kind t text rest h) ∙ k in cc e
only_number t text rest k (number s h) = h
only_number t text rest k (quoted h) = let e = sym (quoted_kind t text rest h) ∙ k in cc e
only_number t text rest k (single h) = let e = sym (single_kind t text rest h) ∙ k in cc e
only_number t text rest k (nothing h) = let e = sym (end_kind t text rest h) ∙ k in cc e

pub only_quoted : (t : Token) (text rest : List ℕ) → kind_at text ≡ a_string → IsLexeme t text rest → IsQuoted t text rest
only_quoted t text rest k (punctuator h) = let e = sym (punctuator_kind t text rest h) ∙ k in cc e
only_quoted t text rest k (word h) = let e = sym (word_kind t text rest h) ∙ k in cc e
only_quoted t text rest k (number s h) = let e = sym (number_kind text s) ∙ k in cc e
only_quoted t text rest k (quoted h) = h
only_quoted t text rest k (single h) = let e = sym (single_kind t text rest h) ∙ k in cc e
only_quoted t text rest k (nothing h) = let e = sym (end_kind t text rest h) ∙ k in cc e

pub only_single : (t : Token) (text rest : List ℕ) → kind_at text ≡ a_character → IsLexeme t text rest → IsCharacter t text rest
only_single t text rest k (punctuator h) = let e = sym (punctuator_kind t text rest h) ∙ k in cc e
only_single t text rest k (word h) = let e = sym (word_kind t text rest h) ∙ k in cc e
only_single t text rest k (number s h) = let e = sym (number_kind text s) ∙ k in cc e
only_single t text rest k (quoted h) = let e = sym (quoted_kind t text rest h) ∙ k in cc e
only_single t text rest k (single h) = h
only_single t text rest k (nothing h) = let e = sym (end_kind t text rest h) ∙ k in cc e

pub only_end : (t : Token) (text rest : List ℕ) → kind_at text ≡ the_end → IsLexeme t text rest → IsEnd t text rest
only_end t text rest k (punctuator h) = let e = sym (punctuator_kind t text rest h) ∙ k in cc e
only_end t text rest k (word h) = let e = sym (word_kind t text rest h) ∙ k in cc e
only_end t text rest k (number s h) = let e = sym (number_kind text s) ∙ k in cc e
only_end t text rest k (quoted h) = let e = sym (quoted_kind t text rest h) ∙ k in cc e
only_end t text rest k (single h) = let e = sym (single_kind t text rest h) ∙ k in cc e
only_end t text rest k (nothing h) = h

pub only_none : (t : Token) (text rest : List ℕ) → kind_at text ≡ no_token → IsLexeme t text rest → ⊥
only_none t text rest k (punctuator h) = let e = sym (punctuator_kind t text rest h) ∙ k in cc e
only_none t text rest k (word h) = let e = sym (word_kind t text rest h) ∙ k in cc e
only_none t text rest k (number s h) = let e = sym (number_kind text s) ∙ k in cc e
only_none t text rest k (quoted h) = let e = sym (quoted_kind t text rest h) ∙ k in cc e
only_none t text rest k (single h) = let e = sym (single_kind t text rest h) ∙ k in cc e
only_none t text rest k (nothing h) = let e = sym (end_kind t text rest h) ∙ k in cc e

-- white space begins no lexeme
space_kind : (c : ℕ) → is_space c ≡ true → kind_of c ≡ no_token
unfolding kind_of
space_kind c s =
    elim (or_cases _ _ s) [
      | inr d ↦ rw (eqb-true c 32 d) refl
      | inl s ↦ elim (or_cases _ _ s) [
        | inr d ↦ rw (eqb-true c 9 d) refl
        | inl s ↦ elim (or_cases _ _ s) [
          | inr d ↦ rw (eqb-true c 13 d) refl
          | inl d ↦ rw (eqb-true c 10 d) refl
        ]
      ]
    ]

pub no_slash : (c : ℕ) → starts_gap c ≡ false → nat_eq c 47 ≡ false
no_slash c h = ne_eqb c 47 (λ e. let no = subst (λ c. starts_gap c ≡ false) e h in cc no)

-- a text of another kind begins with no gap
no_gap_first : (text : List ℕ) → kind_at text ≢ no_token → kind_at text ≢ the_end → first_is starts_gap text ≡ false
no_gap_first [] some other = refl
no_gap_first (c ∷ cs) some other = elim (starts_gap c) as (λ (b : Bool). starts_gap c ≡ b → b ≡ false) [
  | true ↦ λ e. elim (or_cases _ _ e) [
    | inl s ↦ absurd (some (space_kind c s))
    | inr s ↦ absurd (other (ap kind_of (eqb-true c 47 s) ∙ kind_slash))
  ]
  | false ↦ λ e. refl
] refl

pub stops_by : (text : List ℕ) (k : Kind) → kind_at text ≡ k → k ≢ no_token → k ≢ the_end → IsStop text
stops_by text k is some other = first_stops text (no_gap_first text (λ e. some (sym is ∙ e)) (λ e. other (sym is ∙ e)))

-- a lexeme does not begin with what is skipped
pub lexeme_stops : (t : Token) (text rest : List ℕ) → IsLexeme t text rest → IsStop text
lexeme_stops t text rest (punctuator h) = stops_by text a_punctuator (punctuator_kind t text rest h) (λ e. cc e) (λ e. cc e)
lexeme_stops t text rest (word h) = stops_by text a_word (word_kind t text rest h) (λ e. cc e) (λ e. cc e)
lexeme_stops t text rest (number s h) = stops_by text a_number (number_kind text s) (λ e. cc e) (λ e. cc e)
lexeme_stops t text rest (quoted h) = stops_by text a_string (quoted_kind t text rest h) (λ e. cc e) (λ e. cc e)
lexeme_stops t text rest (single h) = stops_by text a_character (single_kind t text rest h) (λ e. cc e) (λ e. cc e)
lexeme_stops t text rest (nothing h) = unended_stops text (is_unended t text rest h) where
  is_unended : (t : Token) (text rest : List ℕ) → IsEnd t text rest → IsUnended text
  is_unended end text rest h = h.0
  is_unended _ text rest h = absurd h
