-- A token is cut exactly where its lexeme follows the white space, and in only one way.
use Rattle.std.proofs.Common.{◌≡◌, ℕ, List, [], ◌∷◌, ◌++◌, ◌⊎◌, inl, inr, Bool, true, false, cond}
use Rattle.std.proofs.Common.{refl, ap, sym, ◌∙◌, subst, Some, codes, bytes_eq, nat_eq, eqb-true}
use Rattle.std.proofs.Common.{encode_utf8_all, append-nil, ◌↔◌}
use Rattle.std.proofs.lemmas.Slice.Eq.{bytes_eq-Decides}
use Rattle.std.specs.List.{AllByRecursion}
use Rattle.nano_text.proofs.Prefixes.{prefix_all, prefix_split, prefix_stop, after_stop}
use Rattle.nano_text.proofs.Numbers.{IsNumber-unique}
use Rattle.nano_text.proofs.Strings.{IsString-unique}
use Rattle.nano_text.specs.declared.number.Number.{Number}
use Rattle.nano_text.specs.declared.number.Number.TheVariants.{U64, I64, Dec}
use Rattle.nano_text.specs.Characters.{prefix, following}
use Rattle.nano_text.specs.Number.{IsNumber}
use Rattle.nano_text.specs.String.{IsString}
use Rattle.nano_grammar.specs.Tokens.{IsOneWay}
use Rattle.nano_json_tokens.specs.Token.{Token, str, u64, i64, f64, bool, null, colon, curly_open}
use Rattle.nano_json_tokens.specs.Token.{curly_close, block_open, block_close, comma, end}
use Rattle.nano_text.specs.Characters.{is_space}
use Rattle.nano_json_tokens.specs.Cut.{is_word, BeginsWithWord, IsPunctuator, IsWord}
use Rattle.nano_json_tokens.specs.Cut.{IsRunOf, IsQuoted, IsEnd, IsLexeme, punctuator, word, number}
use Rattle.nano_json_tokens.specs.Cut.{quoted, nothing, Cut}
use Rattle.nano_json_tokens.specs.Scan.{punctuator_of, word_token}
use Rattle.nano_json_tokens.proofs.LexemeKinds.{punctuator_kind, word_kind, number_kind}
use Rattle.nano_json_tokens.proofs.LexemeKinds.{quoted_kind, end_kind, only_punctuator, only_word}
use Rattle.nano_json_tokens.proofs.LexemeKinds.{only_number, only_quoted, only_end, lexeme_no_space}
use Rattle.nano_grammar.proofs.OptionsLaws.{some_injective}

pick : {A : Type 0} (b : Bool) (x y z : A) → cond b x y ≡ z → ((b ≡ true) × (x ≡ z)) ⊎ ((b ≡ false) × (y ≡ z))
pick true x y z e = inl (refl, e)
pick false x y z e = inr (refl, e)

bytes_same : (xs ys : List ℕ) → bytes_eq xs ys ≡ true → xs ≡ ys
bytes_same xs ys e = (bytes_eq-Decides xs ys).0 e

-- a character that is a punctuator is that token's lexeme
pub punctuator_lexeme : (c : ℕ) (cs : List ℕ) (t : Token) → punctuator_of c ≡ Some t → IsPunctuator t (c ∷ cs) cs
punctuator_lexeme c cs t e =
    elim (pick (nat_eq c 58) _ _ _ e) [
      | inl p ↦ subst (λ (u : Token). IsPunctuator u (c ∷ cs) cs) (some_injective colon t p.1) (ap (λ (x : ℕ). x ∷ cs) (eqb-true c 58 p.0))
      | inr n ↦ elim (pick (nat_eq c 44) _ _ _ n.1) [
        | inl p ↦ subst (λ (u : Token). IsPunctuator u (c ∷ cs) cs) (some_injective comma t p.1) (ap (λ (x : ℕ). x ∷ cs) (eqb-true c 44 p.0))
        | inr n ↦ elim (pick (nat_eq c 91) _ _ _ n.1) [
          | inl p ↦ subst (λ (u : Token). IsPunctuator u (c ∷ cs) cs) (some_injective block_open t p.1) (ap (λ (x : ℕ). x ∷ cs) (eqb-true c 91 p.0))
          | inr n ↦ elim (pick (nat_eq c 93) _ _ _ n.1) [
            | inl p ↦ subst (λ (u : Token). IsPunctuator u (c ∷ cs) cs) (some_injective block_close t p.1) (ap (λ (x : ℕ). x ∷ cs) (eqb-true c 93 p.0))
            | inr n ↦ elim (pick (nat_eq c 123) _ _ _ n.1) [
              | inl p ↦ subst (λ (u : Token). IsPunctuator u (c ∷ cs) cs) (some_injective curly_open t p.1) (ap (λ (x : ℕ). x ∷ cs) (eqb-true c 123 p.0))
              | inr n ↦ elim (pick (nat_eq c 125) _ _ _ n.1) [
                | inl p ↦ subst (λ (u : Token). IsPunctuator u (c ∷ cs) cs) (some_injective curly_close t p.1) (ap (λ (x : ℕ). x ∷ cs) (eqb-true c 125 p.0))
                | inr n ↦ cc n.1
              ]
            ]
          ]
        ]
      ]
    ]

-- a punctuator is cut where it stands
pub punctuator_cut : (c : ℕ) (cs : List ℕ) (t : Token) → punctuator_of c ≡ Some t → Cut (c ∷ cs) t cs
punctuator_cut c cs t e =
    record { space = []; body = c ∷ cs; split = refl; skipped = tt; lexeme = punctuator (punctuator_lexeme c cs t e) }

-- NUL is no punctuator
pub punctuator_some : (c : ℕ) (t : Token) → punctuator_of c ≡ Some t → c ≡ 0 → ⊥
punctuator_some c t e zero = let none = sym (ap punctuator_of zero) ∙ e in cc none

-- a punctuator is one character, which says which token it is
punctuator_first : (t : Token) (text rest : List ℕ) → IsPunctuator t text rest → (c : ℕ) × (text ≡ c ∷ rest) × (punctuator_of c ≡ Some t)
punctuator_first colon text rest h = (58, h, refl)
punctuator_first comma text rest h = (44, h, refl)
punctuator_first block_open text rest h = (91, h, refl)
punctuator_first block_close text rest h = (93, h, refl)
punctuator_first curly_open text rest h = (123, h, refl)
punctuator_first curly_close text rest h = (125, h, refl)
punctuator_first _ text rest h = absurd h

punctuator_one_way : (t u : Token) (text r q : List ℕ) → IsPunctuator t text r → IsPunctuator u text q → (t ≡ u) × (r ≡ q)
punctuator_one_way t u text r q h k =
    let a = punctuator_first t text r h in
    let b = punctuator_first u text q k in
    let e = sym a.1 ∙ b.1 in
    let first : a.0 ≡ b.0 = cc e in
    let rest : r ≡ q = cc e in
    (some_injective t u (sym a.2 ∙ (ap punctuator_of first ∙ b.2)), rest)

-- a word of the language, with no further word character after it, is a lexeme
pub word_lexeme : (text : List ℕ) (t : Token) → word_token (prefix is_word text) ≡ Some t → IsWord t text (following is_word text)
word_lexeme text t e =
    let s = prefix_split is_word text in
    elim (pick (bytes_eq (prefix is_word text) (codes "true")) _ _ _ e) [
      | inl p ↦ subst (λ (u : Token). IsWord u text (following is_word text)) (some_injective (bool true) t p.1) (s.0 ∙ ap (λ (x : List ℕ). x ++ following is_word text) (bytes_same (prefix is_word text) (codes "true") p.0), s.2)
      | inr n ↦ elim (pick (bytes_eq (prefix is_word text) (codes "false")) _ _ _ n.1) [
        | inl p ↦ subst (λ (u : Token). IsWord u text (following is_word text)) (some_injective (bool false) t p.1) (s.0 ∙ ap (λ (x : List ℕ). x ++ following is_word text) (bytes_same (prefix is_word text) (codes "false") p.0), s.2)
        | inr n ↦ elim (pick (bytes_eq (prefix is_word text) (codes "null")) _ _ _ n.1) [
          | inl p ↦ subst (λ (u : Token). IsWord u text (following is_word text)) (some_injective null t p.1) (s.0 ∙ ap (λ (x : List ℕ). x ++ following is_word text) (bytes_same (prefix is_word text) (codes "null") p.0), s.2)
          | inr n ↦ cc n.1
        ]
      ]
    ]

pub word_itself : (w text rest : List ℕ) → AllByRecursion (λ c. is_word c ≡ true) w → BeginsWithWord w text rest
    → prefix is_word text ≡ w
word_itself w text rest all h = rw h.0 (prefix_all is_word w rest all h.1).0

-- the word of a lexeme is the longest prefix
pub word_prefix : (t : Token) (text rest : List ℕ) → IsWord t text rest → (word_token (prefix is_word text) ≡ Some t) × (following is_word text ≡ rest)
word_prefix (bool true) text rest h = rw (h.0, prefix_stop is_word rest h.1, after_stop is_word rest h.1) (refl, refl)
word_prefix (bool false) text rest h = rw (h.0, prefix_stop is_word rest h.1, after_stop is_word rest h.1) (refl, refl)
word_prefix null text rest h = rw (h.0, prefix_stop is_word rest h.1, after_stop is_word rest h.1) (refl, refl)
word_prefix _ text rest h = absurd h

word_one_way : (t u : Token) (text r q : List ℕ) → IsWord t text r → IsWord u text q → (t ≡ u) × (r ≡ q)
word_one_way t u text r q h k =
    let a = word_prefix t text r h in
    let b = word_prefix u text q k in
    (some_injective t u (sym a.0 ∙ b.0), sym a.1 ∙ b.1)

number_again : (t u : Token) (text r q : List ℕ) → IsRunOf t text r → IsRunOf u text q → (t ≡ u) × (r ≡ q)
number_again (u64 n) (u64 m) text r q h k = let e = IsNumber-unique text (U64 n) (U64 m) h.0 k.0 r q h.1 k.1 in let same : n ≡ m = cc e.0 in (ap u64 same, e.2)
number_again (i64 n) (i64 m) text r q h k = let e = IsNumber-unique text (I64 n) (I64 m) h.0 k.0 r q h.1 k.1 in let same : n ≡ m = cc e.0 in (ap i64 same, e.2)
number_again (f64 x) (f64 y) text r q h k = let e = IsNumber-unique text Dec Dec x y r q h k in (ap f64 e.1, e.2)
number_again (u64 n) (i64 m) text r q h k = let e = IsNumber-unique text (U64 n) (I64 m) h.0 k.0 r q h.1 k.1 in cc e.0
number_again (u64 n) (f64 y) text r q h k = let e = IsNumber-unique text (U64 n) Dec h.0 y r q h.1 k in cc e.0
number_again (i64 n) (u64 m) text r q h k = let e = IsNumber-unique text (I64 n) (U64 m) h.0 k.0 r q h.1 k.1 in cc e.0
number_again (i64 n) (f64 y) text r q h k = let e = IsNumber-unique text (I64 n) Dec h.0 y r q h.1 k in cc e.0
number_again (f64 x) (u64 m) text r q h k = let e = IsNumber-unique text Dec (U64 m) x k.0 r q h k.1 in cc e.0
number_again (f64 x) (i64 m) text r q h k = let e = IsNumber-unique text Dec (I64 m) x k.0 r q h k.1 in cc e.0
number_again (f64 x) _ text r q h k = absurd k
number_again (u64 x) _ text r q h k = absurd k
number_again (i64 x) _ text r q h k = absurd k
number_again _ u text r q h k = absurd h

quoted_one_way : (t u : Token) (text r q : List ℕ) → IsQuoted t text r → IsQuoted u text q → (t ≡ u) × (r ≡ q)
quoted_one_way (str x) (str y) text r q h k =
    let e = IsString-unique text h.0 k.0 r q h.1 k.1 in
    (ap str (h.2 ∙ (ap encode_utf8_all e.0 ∙ sym k.2)), e.1)
quoted_one_way (str x) _ text r q h k = absurd k
quoted_one_way _ u text r q h k = absurd h

end_one_way : (t u : Token) (text r q : List ℕ) → IsEnd t text r → IsEnd u text q → (t ≡ u) × (r ≡ q)
end_one_way end end text r q h k = (refl, h.1 ∙ sym k.1)
end_one_way end _ text r q h k = absurd k
end_one_way _ u text r q h k = absurd h

-- a text begins with one lexeme at most
lexeme_one_way : (t u : Token) (text r q : List ℕ) → IsLexeme t text r → IsLexeme u text q → (t ≡ u) × (r ≡ q)
lexeme_one_way t u text r q (punctuator h) k = punctuator_one_way t u text r q h (only_punctuator u text q (punctuator_kind t text r h) k)
lexeme_one_way t u text r q (word h) k = word_one_way t u text r q h (only_word u text q (word_kind t text r h) k)
lexeme_one_way t u text r q (number s h) k = number_again t u text r q h (only_number u text q (number_kind text s) k)
lexeme_one_way t u text r q (quoted h) k = quoted_one_way t u text r q h (only_quoted u text q (quoted_kind t text r h) k)
lexeme_one_way t u text r q (nothing h) k = end_one_way t u text r q h (only_end u text q (end_kind t text r h) k)

-- after the white space of a cut comes what follows all white space
pub cut_lexeme : (text : List ℕ) (t : Token) (rest : List ℕ) → Cut text t rest → IsLexeme t (following is_space text) rest
cut_lexeme text t rest h =
    let all = prefix_all is_space h.space h.body h.skipped (lexeme_no_space t h.body rest h.lexeme) in
    subst (λ (body : List ℕ). IsLexeme t body rest) (sym (ap (following is_space) h.split ∙ all.1)) h.lexeme

pub lexeme_cut : (text : List ℕ) (t : Token) (rest : List ℕ) → IsLexeme t (following is_space text) rest → Cut text t rest
lexeme_cut text t rest h =
    let s = prefix_split is_space text in
    record { space = prefix is_space text; body = following is_space text; split = s.0; skipped = s.1; lexeme = h }

-- white space that was passed changes no token
pub cut_spaced : (text after : List ℕ) → after ≡ following is_space text → (t : Token) (rest : List ℕ) → Cut after t rest ↔ Cut text t rest
cut_spaced text after e t rest =
    let still : following is_space after ≡ following is_space text =
    ap (following is_space) e ∙ after_stop is_space (following is_space text) (prefix_split is_space text).2 in (
      λ h. lexeme_cut text t rest (subst (λ (l : List ℕ). IsLexeme t l rest) still (cut_lexeme after t rest h)),
      λ h. lexeme_cut after t rest (subst (λ (l : List ℕ). IsLexeme t l rest) (sym still) (cut_lexeme text t rest h)),
    )

-- a text is cut in one way
pub cut_one_way : IsOneWay Cut
cut_one_way text t u r q h k = lexeme_one_way t u (following is_space text) r q (cut_lexeme text t r h) (cut_lexeme text u q k)

-- the end is no lexeme of another kind
end_lexeme : (text rest : List ℕ) → IsLexeme end text rest → IsEnd end text rest
end_lexeme text rest (punctuator h) = absurd h
end_lexeme text rest (word h) = absurd h
end_lexeme text rest (number s h) = absurd h
end_lexeme text rest (quoted h) = absurd h
end_lexeme text rest (nothing h) = h

-- the end is cut from white space alone
pub end_cut : (text rest : List ℕ) → Cut text end rest ↔ (AllByRecursion (λ c. is_space c ≡ true) text × (rest ≡ []))
end_cut text rest = (
  λ h.
      let stop = end_lexeme h.body rest h.lexeme in
      let space = h.split ∙ (ap (λ (l : List ℕ). h.space ++ l) stop.0 ∙ append-nil h.space) in
      (subst (AllByRecursion (λ c. is_space c ≡ true)) (sym space) h.skipped, stop.1),
  λ h. record { space = text; body = []; split = sym (append-nil text); skipped = h.0; lexeme = nothing (refl, h.1) },
)

-- what is a number is a run
pub run_number : (t : Token) (text rest : List ℕ) → IsRunOf t text rest → (n : Number) × (run : List ℕ) × IsNumber text n run rest
run_number (u64 n) text rest h = (U64 n, h.0, h.1)
run_number (i64 n) text rest h = (I64 n, h.0, h.1)
run_number (f64 run) text rest h = (Dec, run, h)
run_number _ text rest h = absurd h

pub quoted_string : (t : Token) (text rest : List ℕ) → IsQuoted t text rest → (characters : List ℕ) × IsString text characters rest
quoted_string (str bytes) text rest h = (h.0, h.1)
quoted_string _ text rest h = absurd h
