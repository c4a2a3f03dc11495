-- What the first character of a text says of the lexeme that the text begins with.
use Rattle.std.proofs.Common.{◌≡◌, ℕ, List, [], ◌∷◌, inl, inr, Bool, true, false, cond, refl, ap}
use Rattle.std.proofs.Common.{sym, ◌∙◌, None, is_some, arith, nat_eq, ◌≤◌, eqb-true, ne_eqb}
use Rattle.std.specs.Char.{is_ascii_digit}
use Rattle.std.specs.declared.str.Chars.{Chars}
use Rattle.std.proofs.lemmas.Bool.{or_cases}
use Rattle.nano_text.proofs.Runs.{digit_range}
use Rattle.nano_text.specs.Characters.{first_is}
use Rattle.nano_text.specs.Number.{is_sign}
use Rattle.nano_text.specs.Place.{held, remaining, before_nul}
use Rattle.nano_json_tokens.specs.Token.{Token, str, bool, null, colon, curly_open, curly_close}
use Rattle.nano_json_tokens.specs.Token.{block_open, block_close, comma, end}
use Rattle.nano_text.specs.Characters.{is_space}
use Rattle.nano_json_tokens.specs.Cut.{is_word, starts_number, IsPunctuator, IsWord}
use Rattle.nano_json_tokens.specs.Cut.{IsRunOf, IsQuoted, IsEnd, IsLexeme, punctuator, word, number}
use Rattle.nano_json_tokens.specs.Cut.{quoted, nothing}
use Rattle.nano_json_tokens.specs.Scan.{punctuator_of}

pub data Kind : Type 0 where
  a_punctuator : Kind
  a_number : Kind
  a_string : Kind
  a_word : Kind
  the_end : Kind
  no_token : Kind

-- the kind of lexeme that a character begins, NUL being the end
unfoldable pub kind_of : ℕ → Kind
kind_of c = cond (is_some (punctuator_of c)) a_punctuator (cond (starts_number c) a_number (cond (nat_eq c 34) a_string (cond (is_word c) a_word (cond (nat_eq c 0) the_end no_token))))

-- the kind of lexeme that a text begins with
abbrev pub kind_at : List ℕ → Kind
kind_at [] = the_end
kind_at (c ∷ cs) = kind_of c

pub kind_remaining : (cur : ℕ) (i : Chars) → kind_at (remaining cur i) ≡ kind_of cur
unfolding remaining kind_of
kind_remaining cur i = elim (nat_eq cur 0) as (λ (b : Bool). nat_eq cur 0 ≡ b → kind_at (cond b [] (cur ∷ before_nul (held i))) ≡ kind_of cur) [
  | true ↦ λ e. sym (ap kind_of (eqb-true cur 0 e))
  | false ↦ λ e. refl
] refl

digit_no_punctuator : (c : ℕ) → 48 ≤ c → c ≤ 57 → punctuator_of c ≡ None
digit_no_punctuator c l h = rw (ne_eqb c 58 (λ e. omega arith), ne_eqb c 44 (λ e. omega arith), ne_eqb c 91 (λ e. omega arith), ne_eqb c 93 (λ e. omega arith), ne_eqb c 123 (λ e. omega arith), ne_eqb c 125 (λ e. omega arith)) refl

number_no_punctuator : (c : ℕ) → starts_number c ≡ true → punctuator_of c ≡ None
number_no_punctuator c h =
    elim (or_cases (is_sign c) (is_ascii_digit c) h) [
      | inl s ↦ elim (or_cases _ _ s) [ inl e ↦ rw (eqb-true c 43 e) refl | inr e ↦ rw (eqb-true c 45 e) refl ]
      | inr d ↦ let r = digit_range c d in digit_no_punctuator c r.0 r.1
    ]

pub kind_number : (c : ℕ) → starts_number c ≡ true → kind_of c ≡ a_number
unfolding kind_of
kind_number c h = rw (number_no_punctuator c h, h) refl

pub kind_string : kind_of 34 ≡ a_string
unfolding kind_of
kind_string = refl

pub kind_word : (c : ℕ) → punctuator_of c ≡ None → starts_number c ≡ false → nat_eq c 34 ≡ false → is_word c ≡ true → kind_of c ≡ a_word
unfolding kind_of
kind_word c m n q w = rw (m, n, q, w) refl

pub kind_none : (c : ℕ) → punctuator_of c ≡ None → starts_number c ≡ false → nat_eq c 34 ≡ false → is_word c ≡ false → nat_eq c 0 ≡ false → kind_of c ≡ no_token
unfolding kind_of
kind_none c m n q w z = rw (m, n, q, w, z) refl

pub punctuator_kind : (t : Token) (text rest : List ℕ) → IsPunctuator t text rest → kind_at text ≡ a_punctuator
unfolding kind_of
punctuator_kind colon text rest h = rw h refl
punctuator_kind comma text rest h = rw h refl
punctuator_kind block_open text rest h = rw h refl
punctuator_kind block_close text rest h = rw h refl
punctuator_kind curly_open text rest h = rw h refl
punctuator_kind curly_close text rest h = rw h refl
punctuator_kind _ text rest h = absurd h

pub word_kind : (t : Token) (text rest : List ℕ) → IsWord t text rest → kind_at text ≡ a_word
unfolding kind_of
word_kind (bool true) text rest h = rw h.0 refl
word_kind (bool false) text rest h = rw h.0 refl
word_kind null text rest h = rw h.0 refl
word_kind _ text rest h = absurd h

pub number_kind : (text : List ℕ) → first_is starts_number text ≡ true → kind_at text ≡ a_number
number_kind [] h = cc h
number_kind (c ∷ cs) h = kind_number c h

pub quoted_kind : (t : Token) (text rest : List ℕ) → IsQuoted t text rest → kind_at text ≡ a_string
quoted_kind (str bytes) text rest h = rw h.1.split kind_string
quoted_kind _ text rest h = absurd h

pub end_kind : (t : Token) (text rest : List ℕ) → IsEnd t text rest → kind_at text ≡ the_end
end_kind end text rest h = rw h.0 refl
end_kind _ text rest h = absurd h

-- the kind of the first character is the kind of the lexeme
pub only_punctuator : (t : Token) (text rest : List ℕ) → kind_at text ≡ a_punctuator → IsLexeme t text rest → IsPunctuator t text rest
only_punctuator t text rest k (punctuator h) = h
only_punctuator t text rest k (word h) = let e = sym (word_kind t text rest h) ∙ k in cc e
only_punctuator t text rest k (number s h) = let e = sym (number_kind text s) ∙ k in cc e
only_punctuator t text rest k (quoted h) = let e = sym (quoted_kind t text rest h) ∙ k in cc e
only_punctuator t text rest k (nothing h) = let e = sym (end_kind t text rest h) ∙ k in cc e

pub only_word : (t : Token) (text rest : List ℕ) → kind_at text ≡ a_word → IsLexeme t text rest → IsWord t text rest
only_word t text rest k (punctuator h) = let e = sym (punctuator_kind t text rest h) ∙ k in cc e
only_word t text rest k (word h) = h
only_word t text rest k (number s h) = let e = sym (number_kind text s) ∙ k in cc e
only_word t text rest k (quoted h) = let e = sym (quoted_kind t text rest h) ∙ k in cc e
only_word t text rest k (nothing h) = let e = sym (end_kind t text rest h) ∙ k in cc e

pub only_number : (t : Token) (text rest : List ℕ) → kind_at text ≡ a_number → IsLexeme t text rest → IsRunOf t text rest
only_number t text rest k (punctuator h) = let e = sym (punctuator_kind t text rest h) ∙ k in cc e
only_number t text rest k (word h) = let e = sym (word_kind t text rest h) ∙ k in cc e
only_number t text rest k (number s h) = h
only_number t text rest k (quoted h) = let e = sym (quoted_kind t text rest h) ∙ k in cc e
only_number t text rest k (nothing h) = let e = sym (end_kind t text rest h) ∙ k in cc e

pub only_quoted : (t : Token) (text rest : List ℕ) → kind_at text ≡ a_string → IsLexeme t text rest → IsQuoted t text rest
only_quoted t text rest k (punctuator h) = let e = sym (punctuator_kind t text rest h) ∙ k in cc e
only_quoted t text rest k (word h) = let e = sym (word_kind t text rest h) ∙ k in cc e
only_quoted t text rest k (number s h) = let e = sym (number_kind text s) ∙ k in cc e
only_quoted t text rest k (quoted h) = h
only_quoted t text rest k (nothing h) = let e = sym (end_kind t text rest h) ∙ k in cc e

pub only_end : (t : Token) (text rest : List ℕ) → kind_at text ≡ the_end → IsLexeme t text rest → IsEnd t text rest
only_end t text rest k (punctuator h) = let e = sym (punctuator_kind t text rest h) ∙ k in cc e
only_end t text rest k (word h) = let e = sym (word_kind t text rest h) ∙ k in cc e
only_end t text rest k (number s h) = let e = sym (number_kind text s) ∙ k in cc e
only_end t text rest k (quoted h) = let e = sym (quoted_kind t text rest h) ∙ k in cc e
only_end t text rest k (nothing h) = h

pub only_none : (t : Token) (text rest : List ℕ) → kind_at text ≡ no_token → IsLexeme t text rest → ⊥
only_none t text rest k (punctuator h) = let e = sym (punctuator_kind t text rest h) ∙ k in cc e
only_none t text rest k (word h) = let e = sym (word_kind t text rest h) ∙ k in cc e
only_none t text rest k (number s h) = let e = sym (number_kind text s) ∙ k in cc e
only_none t text rest k (quoted h) = let e = sym (quoted_kind t text rest h) ∙ k in cc e
only_none t text rest k (nothing h) = let e = sym (end_kind t text rest h) ∙ k in cc e

-- white space begins no lexeme
space_kind : (c : ℕ) → is_space c ≡ true → kind_of c ≡ no_token
unfolding kind_of
space_kind c s =
    elim (or_cases _ _ s) [
      | inr d ↦ rw (eqb-true c 32 d) refl
      | inl s ↦ elim (or_cases _ _ s) [
        | inr d ↦ rw (eqb-true c 9 d) refl
        | inl s ↦ elim (or_cases _ _ s) [
          | inr d ↦ rw (eqb-true c 13 d) refl
          | inl d ↦ rw (eqb-true c 10 d) refl
        ]
      ]
    ]

pub lexeme_no_space : (t : Token) (text rest : List ℕ) → IsLexeme t text rest → first_is is_space text ≡ false
lexeme_no_space t [] rest h = refl
lexeme_no_space t (c ∷ cs) rest h =
    elim (is_space c) as (λ (b : Bool). is_space c ≡ b → is_space c ≡ false) [
      | true ↦ λ s. absurd (only_none t (c ∷ cs) rest (space_kind c s) h)
      | false ↦ λ s. s
    ] refl
