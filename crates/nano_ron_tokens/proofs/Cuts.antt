-- A token is cut exactly where its lexeme comes after a gap, and in one way.
use Rattle.std.proofs.Common.{◌≡◌, ◌≢◌, ℕ, List, [], ◌∷◌, ◌++◌, ◌⊎◌, inl, inr, Bool, true, false}
use Rattle.std.proofs.Common.{cond, refl, ap, sym, ◌∙◌, subst, Some, codes, bytes_eq, nat_eq}
use Rattle.std.proofs.Common.{eqb-true, encode_utf8_all, ◌↔◌}
use Rattle.std.proofs.lemmas.Bool.{or_left}
use Rattle.std.proofs.lemmas.Slice.Eq.{bytes_eq-Decides}
use Rattle.std.specs.List.{AllByRecursion}
use Rattle.nano_text.proofs.Prefixes.{prefix_all, prefix_split, prefix_stop, after_stop}
use Rattle.nano_text.proofs.Numbers.{IsNumber-unique}
use Rattle.nano_text.proofs.Strings.{IsString-unique}
use Rattle.nano_text.specs.declared.number.Number.{Number}
use Rattle.nano_text.specs.declared.number.Number.TheVariants.{U64, I64, Dec}
use Rattle.nano_text.specs.Characters.{first_is, prefix, following}
use Rattle.nano_text.specs.Number.{IsNumber}
use Rattle.nano_text.specs.String.{IsString}
use Rattle.nano_grammar.specs.Tokens.{IsOneWay}
use Rattle.nano_ron_tokens.specs.Token.{Token, ident, str, u64, i64, f64, bool, character, colon}
use Rattle.nano_ron_tokens.specs.Token.{curly_open, curly_close, paren_open, paren_close}
use Rattle.nano_ron_tokens.specs.Token.{block_open, block_close, comma, end}
use Rattle.nano_ron_tokens.specs.Cut.{is_word, starts_word, BeginsWithWord, IsPunctuator, IsWord}
use Rattle.nano_ron_tokens.specs.Cut.{IsRunOf, IsQuoted, IsCharacter, IsEnd, IsLexeme, punctuator}
use Rattle.nano_ron_tokens.specs.Cut.{word, number, quoted, single, nothing, Cut, IsGap, IsUnended}
use Rattle.nano_ron_tokens.specs.Scan.{punctuator_of, word_token}
use Rattle.nano_ron_tokens.proofs.LexemeKinds.{punctuator_kind, word_kind, number_kind, quoted_kind}
use Rattle.nano_ron_tokens.proofs.LexemeKinds.{single_kind, end_kind, unended_kind, only_punctuator}
use Rattle.nano_ron_tokens.proofs.LexemeKinds.{only_word, only_number, only_quoted, only_single}
use Rattle.nano_ron_tokens.proofs.LexemeKinds.{only_end, lexeme_stops}
use Rattle.nano_ron_tokens.proofs.Skipping.{skips_one_way}
use Rattle.nano_grammar.proofs.OptionsLaws.{some_injective}

pick : {A : Type 0} (b : Bool) (x y z : A) → cond b x y ≡ z → ((b ≡ true) × (x ≡ z)) ⊎ ((b ≡ false) × (y ≡ z))
pick true x y z e = inl (refl, e)
pick false x y z e = inr (refl, e)

bytes_same : (xs ys : List ℕ) → bytes_eq xs ys ≡ true → xs ≡ ys
bytes_same xs ys e = (bytes_eq-Decides xs ys).0 e

-- a character that is a punctuator is that token's lexeme
pub punctuator_lexeme : (c : ℕ) (cs : List ℕ) (t : Token) → punctuator_of c ≡ Some t → IsPunctuator t (c ∷ cs) cs
punctuator_lexeme c cs t e =
    elim (pick (nat_eq c 58) _ _ _ e) [
      | inl p ↦ subst (λ (u : Token). IsPunctuator u (c ∷ cs) cs) (some_injective colon t p.1) (ap (λ (x : ℕ). x ∷ cs) (eqb-true c 58 p.0))
      | inr n ↦ elim (pick (nat_eq c 44) _ _ _ n.1) [
        | inl p ↦ subst (λ (u : Token). IsPunctuator u (c ∷ cs) cs) (some_injective comma t p.1) (ap (λ (x : ℕ). x ∷ cs) (eqb-true c 44 p.0))
        | inr n ↦ elim (pick (nat_eq c 91) _ _ _ n.1) [
          | inl p ↦ subst (λ (u : Token). IsPunctuator u (c ∷ cs) cs) (some_injective block_open t p.1) (ap (λ (x : ℕ). x ∷ cs) (eqb-true c 91 p.0))
          | inr n ↦ elim (pick (nat_eq c 93) _ _ _ n.1) [
            | inl p ↦ subst (λ (u : Token). IsPunctuator u (c ∷ cs) cs) (some_injective block_close t p.1) (ap (λ (x : ℕ). x ∷ cs) (eqb-true c 93 p.0))
            | inr n ↦ elim (pick (nat_eq c 40) _ _ _ n.1) [
              | inl p ↦ subst (λ (u : Token). IsPunctuator u (c ∷ cs) cs) (some_injective paren_open t p.1) (ap (λ (x : ℕ). x ∷ cs) (eqb-true c 40 p.0))
              | inr n ↦ elim (pick (nat_eq c 41) _ _ _ n.1) [
                | inl p ↦ subst (λ (u : Token). IsPunctuator u (c ∷ cs) cs) (some_injective paren_close t p.1) (ap (λ (x : ℕ). x ∷ cs) (eqb-true c 41 p.0))
                | inr n ↦ elim (pick (nat_eq c 123) _ _ _ n.1) [
                  | inl p ↦ subst (λ (u : Token). IsPunctuator u (c ∷ cs) cs) (some_injective curly_open t p.1) (ap (λ (x : ℕ). x ∷ cs) (eqb-true c 123 p.0))
                  | inr n ↦ elim (pick (nat_eq c 125) _ _ _ n.1) [
                    | inl p ↦ subst (λ (u : Token). IsPunctuator u (c ∷ cs) cs) (some_injective curly_close t p.1) (ap (λ (x : ℕ). x ∷ cs) (eqb-true c 125 p.0))
                    | inr n ↦ cc n.1
                  ]
                ]
              ]
            ]
          ]
        ]
      ]
    ]

-- a punctuator is cut where it stands
pub punctuator_cut : (c : ℕ) (cs : List ℕ) (t : Token) → punctuator_of c ≡ Some t → Cut (c ∷ cs) t cs
punctuator_cut c cs t e =
    record { gap = []; body = c ∷ cs; split = refl; skipped = record { skips = []; good = tt; is = refl }; lexeme = punctuator (punctuator_lexeme c cs t e) }

-- NUL is no punctuator
pub punctuator_some : (c : ℕ) (t : Token) → punctuator_of c ≡ Some t → c ≡ 0 → ⊥
punctuator_some c t e zero = let none = sym (ap punctuator_of zero) ∙ e in cc none

-- a punctuator is one character, which says which token it is
punctuator_first : (t : Token) (text rest : List ℕ) → IsPunctuator t text rest → (c : ℕ) × (text ≡ c ∷ rest) × (punctuator_of c ≡ Some t)
punctuator_first colon text rest h = (58, h, refl)
punctuator_first comma text rest h = (44, h, refl)
punctuator_first block_open text rest h = (91, h, refl)
punctuator_first block_close text rest h = (93, h, refl)
punctuator_first paren_open text rest h = (40, h, refl)
punctuator_first paren_close text rest h = (41, h, refl)
punctuator_first curly_open text rest h = (123, h, refl)
punctuator_first curly_close text rest h = (125, h, refl)
punctuator_first _ text rest h = absurd h

punctuator_one_way : (t u : Token) (text r q : List ℕ) → IsPunctuator t text r → IsPunctuator u text q → (t ≡ u) × (r ≡ q)
punctuator_one_way t u text r q h k =
    let a = punctuator_first t text r h in
    let b = punctuator_first u text q k in
    let e = sym a.1 ∙ b.1 in
    let first : a.0 ≡ b.0 = cc e in
    let rest : r ≡ q = cc e in
    (some_injective t u (sym a.2 ∙ (ap punctuator_of first ∙ b.2)), rest)

bytes_other : (xs ys : List ℕ) → xs ≢ ys → bytes_eq xs ys ≡ false
bytes_other xs ys other = elim (bytes_eq xs ys) as (λ (b : Bool). bytes_eq xs ys ≡ b → b ≡ false) [
  | true ↦ λ e. absurd (other (bytes_same xs ys e))
  | false ↦ λ e. refl
] refl

bytes_not : (xs ys : List ℕ) → bytes_eq xs ys ≡ false → xs ≢ ys
bytes_not xs ys differ e = let same = (bytes_eq-Decides xs ys).1 e in let x = sym same ∙ differ in cc x

pub starts_is_word : (c : ℕ) → starts_word c ≡ true → is_word c ≡ true
starts_is_word c h = or_left (starts_word c) _ h

prefix_starts : (text : List ℕ) → first_is starts_word text ≡ true → first_is starts_word (prefix is_word text) ≡ true
prefix_starts [] h = h
prefix_starts (c ∷ cs) h = rw (starts_is_word c h) h

-- a word with no further character of a word after it is a lexeme
pub word_lexeme : (text : List ℕ) → first_is starts_word text ≡ true → IsWord (word_token (prefix is_word text)) text (following is_word text)
word_lexeme text starts =
    let w = prefix is_word text in
    let rest = following is_word text in
    let s = prefix_split is_word text in
    let whole = λ (v : List ℕ) (e : w ≡ v). s.0 ∙ ap (λ (x : List ℕ). x ++ rest) e in
    elim (bytes_eq w (codes "true")) as (λ (b : Bool). bytes_eq w (codes "true") ≡ b → IsWord (cond b (bool true) (cond (bytes_eq w (codes "false")) (bool false) (ident w))) text rest) [
      | true ↦ λ e. (whole (codes "true") (bytes_same w (codes "true") e), s.2)
      | false ↦ λ n. elim (bytes_eq w (codes "false")) as (λ (b : Bool). bytes_eq w (codes "false") ≡ b → IsWord (cond b (bool false) (ident w)) text rest) [
        | true ↦ λ e. (whole (codes "false") (bytes_same w (codes "false") e), s.2)
        | false ↦ λ m. (
          record {
            starts = prefix_starts text starts;
            goes_on = s.1;
            not_true = bytes_not w (codes "true") n;
            not_false = bytes_not w (codes "false") m;
          },
          (s.0, s.2),
        )
      ] refl
    ] refl

pub word_itself : (w text rest : List ℕ) → AllByRecursion (λ c. is_word c ≡ true) w → BeginsWithWord w text rest
    → prefix is_word text ≡ w
word_itself w text rest all h = rw h.0 (prefix_all is_word w rest all h.1).0

-- the word of a lexeme is the longest prefix
pub word_prefix : (t : Token) (text rest : List ℕ) → IsWord t text rest → (word_token (prefix is_word text) ≡ t) × (following is_word text ≡ rest)
word_prefix (bool true) text rest h = rw (h.0, prefix_stop is_word rest h.1, after_stop is_word rest h.1) (refl, refl)
word_prefix (bool false) text rest h = rw (h.0, prefix_stop is_word rest h.1, after_stop is_word rest h.1) (refl, refl)
word_prefix (ident name) text rest h =
    let all = prefix_all is_word name rest h.0.goes_on h.1.1 in
    let token : word_token name ≡ ident name = rw (bytes_other name (codes "true") h.0.not_true, bytes_other name (codes "false") h.0.not_false) refl in
    (ap (λ (l : List ℕ). word_token (prefix is_word l)) h.1.0 ∙ (ap word_token all.0 ∙ token), ap (following is_word) h.1.0 ∙ all.1)
word_prefix _ text rest h = absurd h

word_one_way : (t u : Token) (text r q : List ℕ) → IsWord t text r → IsWord u text q → (t ≡ u) × (r ≡ q)
word_one_way t u text r q h k =
    let a = word_prefix t text r h in
    let b = word_prefix u text q k in
    (sym a.0 ∙ b.0, sym a.1 ∙ b.1)

number_again : (t u : Token) (text r q : List ℕ) → IsRunOf t text r → IsRunOf u text q → (t ≡ u) × (r ≡ q)
number_again (u64 n) (u64 m) text r q h k = let e = IsNumber-unique text (U64 n) (U64 m) h.0 k.0 r q h.1 k.1 in let same : n ≡ m = cc e.0 in (ap u64 same, e.2)
number_again (i64 n) (i64 m) text r q h k = let e = IsNumber-unique text (I64 n) (I64 m) h.0 k.0 r q h.1 k.1 in let same : n ≡ m = cc e.0 in (ap i64 same, e.2)
number_again (f64 x) (f64 y) text r q h k = let e = IsNumber-unique text Dec Dec x y r q h k in (ap f64 e.1, e.2)
number_again (u64 n) (i64 m) text r q h k = let e = IsNumber-unique text (U64 n) (I64 m) h.0 k.0 r q h.1 k.1 in cc e.0
number_again (u64 n) (f64 y) text r q h k = let e = IsNumber-unique text (U64 n) Dec h.0 y r q h.1 k in cc e.0
number_again (i64 n) (u64 m) text r q h k = let e = IsNumber-unique text (I64 n) (U64 m) h.0 k.0 r q h.1 k.1 in cc e.0
number_again (i64 n) (f64 y) text r q h k = let e = IsNumber-unique text (I64 n) Dec h.0 y r q h.1 k in cc e.0
number_again (f64 x) (u64 m) text r q h k = let e = IsNumber-unique text Dec (U64 m) x k.0 r q h k.1 in cc e.0
number_again (f64 x) (i64 m) text r q h k = let e = IsNumber-unique text Dec (I64 m) x k.0 r q h k.1 in cc e.0
number_again (f64 x) _ text r q h k = absurd k
number_again (u64 x) _ text r q h k = absurd k
number_again (i64 x) _ text r q h k = absurd k
number_again _ u text r q h k = absurd h

quoted_one_way : (t u : Token) (text r q : List ℕ) → IsQuoted t text r → IsQuoted u text q → (t ≡ u) × (r ≡ q)
quoted_one_way (str x) (str y) text r q h k =
    let e = IsString-unique text h.0 k.0 r q h.1 k.1 in
    (ap str (h.2 ∙ (ap encode_utf8_all e.0 ∙ sym k.2)), e.1)
quoted_one_way (str x) _ text r q h k = absurd k
quoted_one_way _ u text r q h k = absurd h

single_one_way : (t u : Token) (text r q : List ℕ) → IsCharacter t text r → IsCharacter u text q → (t ≡ u) × (r ≡ q)
single_one_way (character c) (character d) text r q h k = elim h.1 [
  | inl a ↦ elim k.1 [
    | inl b ↦ let e = sym a.1 ∙ b.1 in let same : c ≡ d = cc e in let rest : r ≡ q = cc e in (ap character same, rest)
    | inr b ↦ let e = sym a.1 ∙ b in let same : c ≡ 92 = cc e in absurd (a.0 same)
  ]
  | inr a ↦ elim k.1 [
    | inl b ↦ let e = sym b.1 ∙ a in let same : d ≡ 92 = cc e in absurd (b.0 same)
    | inr b ↦ let e = sym a ∙ b in let same : c ≡ d = cc e in let rest : r ≡ q = cc e in (ap character same, rest)
  ]
]
single_one_way (character c) _ text r q h k = absurd k
single_one_way _ u text r q h k = absurd h

end_one_way : (t u : Token) (text r q : List ℕ) → IsEnd t text r → IsEnd u text q → (t ≡ u) × (r ≡ q)
end_one_way end end text r q h k = (refl, h.1 ∙ sym k.1)
end_one_way end _ text r q h k = absurd k
end_one_way _ u text r q h k = absurd h

-- a text begins with one lexeme at most
lexeme_one_way : (t u : Token) (text r q : List ℕ) → IsLexeme t text r → IsLexeme u text q → (t ≡ u) × (r ≡ q)
lexeme_one_way t u text r q (punctuator h) k = punctuator_one_way t u text r q h (only_punctuator u text q (punctuator_kind t text r h) k)
lexeme_one_way t u text r q (word h) k = word_one_way t u text r q h (only_word u text q (word_kind t text r h) k)
lexeme_one_way t u text r q (number s h) k = number_again t u text r q h (only_number u text q (number_kind text s) k)
lexeme_one_way t u text r q (quoted h) k = quoted_one_way t u text r q h (only_quoted u text q (quoted_kind t text r h) k)
lexeme_one_way t u text r q (single h) k = single_one_way t u text r q h (only_single u text q (single_kind t text r h) k)
lexeme_one_way t u text r q (nothing h) k = end_one_way t u text r q h (only_end u text q (end_kind t text r h) k)

-- a text is cut in one way
pub cut_one_way : IsOneWay Cut
cut_one_way text t u r q h k =
    let stop = lexeme_stops t h.body r h.lexeme in
    let other = lexeme_stops u k.body q k.lexeme in
    let same = skips_one_way h.gap k.gap h.body k.body h.skipped k.skipped stop other (sym h.split ∙ k.split) in
    lexeme_one_way t u k.body r q (subst (λ (body : List ℕ). IsLexeme t body r) same h.lexeme) k.lexeme

-- ---- the end

-- the end is no lexeme of another kind
end_lexeme : (text rest : List ℕ) → IsLexeme end text rest → IsEnd end text rest
end_lexeme text rest (punctuator h) = absurd h
end_lexeme text rest (word h) = absurd h
end_lexeme text rest (number s h) = absurd h
end_lexeme text rest (quoted h) = absurd h
end_lexeme text rest (single h) = absurd h
end_lexeme text rest (nothing h) = h

-- it does not matter which comment has no end
end_at : (t : Token) (text other rest : List ℕ) → IsUnended other → IsEnd t text rest → IsEnd t other rest
end_at end text other rest unended h = (unended, h.1)
end_at _ text other rest unended h = absurd h

pub end_elsewhere : (t : Token) (text other rest : List ℕ) → IsUnended text → IsUnended other → IsLexeme t text rest → IsLexeme t other rest
end_elsewhere t text other rest here there h =
    nothing (end_at t text other rest there (only_end t text rest (unended_kind text here) h))

pub is_unended : (t : Token) (text rest : List ℕ) → IsEnd t text rest → IsUnended text
is_unended end text rest h = h.0
is_unended _ text rest h = absurd h

-- the end is cut where a gap, and a comment that has no end, are the whole text
pub end_cut : (text rest : List ℕ) → Cut text end rest
    ↔ (((gap following : List ℕ) × IsGap gap × IsUnended following × (text ≡ gap ++ following)) × (rest ≡ []))
end_cut text rest = (
  λ h.
      let stop = end_lexeme h.body rest h.lexeme in
      ((h.gap, h.body, h.skipped, stop.0, h.split), stop.1),
  λ h. record { gap = h.0.0; body = h.0.1; split = h.0.4; skipped = h.0.2; lexeme = nothing (h.0.3, h.1) },
)

-- what is a number is a run
pub run_number : (t : Token) (text rest : List ℕ) → IsRunOf t text rest → (n : Number) × (run : List ℕ) × IsNumber text n run rest
run_number (u64 n) text rest h = (U64 n, h.0, h.1)
run_number (i64 n) text rest h = (I64 n, h.0, h.1)
run_number (f64 run) text rest h = (Dec, run, h)
run_number _ text rest h = absurd h

pub quoted_string : (t : Token) (text rest : List ℕ) → IsQuoted t text rest → (characters : List ℕ) × IsString text characters rest
quoted_string (str bytes) text rest h = (h.0, h.1)
quoted_string _ text rest h = absurd h
