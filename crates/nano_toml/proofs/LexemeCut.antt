-- One lexeme, and how it is scanned: one is the other.
use Rattle.std.proofs.Common.{◌≡◌, ℕ, ◌≤◌, List, [], ◌∷◌, Bool, true, false, ◌==◌, Option, Some}
use Rattle.std.proofs.Common.{None, option_map, refl, ap, sym, ◌∙◌, subst, inl, inr, ◌⊎◌, arith}
use Rattle.std.proofs.lemmas.Bool.Decides.{eqb_tells, nat_tests}
use Rattle.nano_toml.specs.Characters.{is_space, is_quote, is_sign, starts_word, starts_number}
use Rattle.nano_toml.specs.Characters.{is_in_word}
use Rattle.nano_toml.specs.Token.{begins, prefix, following, Token, string, word_token}
use Rattle.nano_toml.specs.Reading.{a_token}
use Rattle.nano_toml.specs.Quoted.{IsString, empty, short, triple}
use Rattle.nano_toml.specs.Cut.{punctuator_token, Lexeme, a_punctuator, a_word, a_string, a_number}
use Rattle.nano_toml.specs.Scan.{Taken, taken, Content, after_one_quote, number_at}
use Rattle.nano_toml.proofs.ByteTests.{lexeme_at}
use Rattle.nano_toml.proofs.GapCut.{word_scanned, scanned_word, at_word}
use Rattle.nano_toml.proofs.StringCut.{string_scanned, scanned_string}
use Rattle.nano_toml.proofs.NumberCut.{number_scanned, scanned_number, same_taken}

-- ---- which lexeme begins with a character

number_below : (c : ℕ) → starts_number c ≡ true → c ≤ 57
number_below c h = grind (arith, nat_tests)

word_above : (c : ℕ) → starts_word c ≡ true → 65 ≤ c
word_above c h = grind (arith, nat_tests)

pub number_no_word : (c : ℕ) → starts_number c ≡ true → starts_word c ≡ false
number_no_word c h = elim (starts_word c) as (λ (b : Bool). starts_word c ≡ b → b ≡ false) [ true ↦ λ e. absurd (omega (arith, number_below c h, word_above c e)) | false ↦ λ e. refl ] refl

pub at_number : (c : ℕ) (cs : List ℕ) → starts_number c ≡ true → lexeme_at (c ∷ cs) ≡ number_at (c ∷ cs)
at_number c cs h = rw (number_no_word c h, h) refl

abbrev pub string_taken : Option Content → Option Taken
string_taken content = option_map (λ found. record { next = a_token (string found.bytes); rest = found.rest }) content

abbrev pub punctuator_taken : Option Token → List ℕ → Option Taken
punctuator_taken token rest = option_map (λ found. record { next = a_token found; rest = rest }) token

pub at_quote : (c : ℕ) (cs : List ℕ) → c ≡ 34 → lexeme_at (c ∷ cs) ≡ string_taken (after_one_quote cs)
at_quote c cs e = rw e refl

pub at_other : (c : ℕ) (cs : List ℕ) → starts_word c ≡ false → starts_number c ≡ false → is_quote c ≡ false → lexeme_at (c ∷ cs) ≡ punctuator_taken (punctuator_token c) cs
at_other c cs w n q = rw (w, n, q) refl

pub punctuator_cases : (c : ℕ) (token : Token) → punctuator_token c ≡ Some token → (c ≡ 44) ⊎ ((c ≡ 91) ⊎ ((c ≡ 93) ⊎ (c ≡ 61)))
punctuator_cases c token h = elim (eqb_tells c 44) [
  | inl e ↦ inl e.1
  | inr e ↦
      let h1 = rw e.0 at h in
      elim (eqb_tells c 91) [
        | inl f ↦ inr (inl f.1)
        | inr f ↦
            let h2 = rw f.0 at h1 in
            elim (eqb_tells c 93) [
              | inl g ↦ inr (inr (inl g.1))
              | inr g ↦
                  let h3 = rw g.0 at h2 in
                  elim (eqb_tells c 61) [
                    | inl k ↦ inr (inr (inr k.1))
                    | inr k ↦ let h4 = rw k.0 at h3 in cc h4
                  ]
            ]
      ]
]

abbrev IsOther : ℕ → Type 0
IsOther c = (starts_word c ≡ false) × (starts_number c ≡ false) × (is_quote c ≡ false)

punctuator_other : (c : ℕ) → (c ≡ 44) ⊎ ((c ≡ 91) ⊎ ((c ≡ 93) ⊎ (c ≡ 61))) → IsOther c
punctuator_other c (inl e) = rw e (refl, refl, refl)
punctuator_other c (inr (inl e)) = rw e (refl, refl, refl)
punctuator_other c (inr (inr (inl e))) = rw e (refl, refl, refl)
punctuator_other c (inr (inr (inr e))) = rw e (refl, refl, refl)

-- ---- a lexeme is scanned

string_quote : (text chars rest : List ℕ) → IsString text chars rest → (more : List ℕ) × (text ≡ 34 ∷ more)
string_quote text chars rest (empty split ends none) = (34 ∷ rest, split)
string_quote text chars rest (short pieces some good split are) = (_, split)
string_quote text chars rest (triple pieces good split ends are) = (_, split)

pub number_lexeme : (text : List ℕ) → begins starts_number text ≡ true → lexeme_at text ≡ number_at text
number_lexeme [] h = cc h
number_lexeme (c ∷ cs) h = at_number c cs h

pub lexeme_scanned : (text rest : List ℕ) (token : Token) → Lexeme text token rest → lexeme_at text ≡ taken token rest
lexeme_scanned text rest token (a_punctuator c m split) =
    let other = punctuator_other c (punctuator_cases c token m) in
    ap lexeme_at split ∙ (at_other c rest other.0 other.1 other.2 ∙ ap (λ (t : Option Token). punctuator_taken t rest) m)
lexeme_scanned text rest token (a_word word w e split is) = ap lexeme_at split ∙ (word_scanned word rest w e ∙ ap (λ (t : Token). taken t rest) (sym is))
lexeme_scanned text rest token (a_string chars s is) =
    let q = string_quote text chars rest s in
    ap lexeme_at q.1 ∙ (ap string_taken (string_scanned q.0 chars rest (subst (λ (t : List ℕ). IsString t chars rest) q.1 s)) ∙ ap (λ (t : Token). taken t rest) (sym is))
lexeme_scanned text rest token (a_number n) = let r = number_scanned text rest token n in number_lexeme text r.1 ∙ r.0

-- ---- what is scanned is a lexeme

abbrev pub LexemeAt : List ℕ → Taken → Type 0
LexemeAt text got = (token : Token) × (got.next ≡ a_token token) × Lexeme text token got.rest

lexeme_of : (text rest : List ℕ) (token : Token) (got : Taken) → Lexeme text token rest → taken token rest ≡ Some got → LexemeAt text got
lexeme_of text rest token got lexeme h =
    let same : record { next = a_token token; rest = rest } ≡ got = same_taken h in
    (token, ap (λ (x : Taken). x.next) (sym same), subst (λ (x : Taken). Lexeme text token x.rest) same lexeme)

scanned_quote : (cs : List ℕ) (got : Taken) (content : Option Content) → after_one_quote cs ≡ content → string_taken content ≡ Some got → LexemeAt (34 ∷ cs) got
scanned_quote cs got None e h = cc h
scanned_quote cs got (Some content) e h =
    let s = scanned_string cs content e in
    lexeme_of (34 ∷ cs) content.rest (string content.bytes) got (a_string s.0 s.1 (ap string s.2)) h

scanned_punctuator : (c : ℕ) (cs : List ℕ) (got : Taken) (token : Option Token) → punctuator_token c ≡ token → punctuator_taken token cs ≡ Some got → LexemeAt (c ∷ cs) got
scanned_punctuator c cs got None e h = cc h
scanned_punctuator c cs got (Some token) e h = lexeme_of (c ∷ cs) cs token got (a_punctuator c e refl) h

scanned_by : (c : ℕ) (cs : List ℕ) (got : Taken) (w n : Bool) → starts_word c ≡ w → starts_number c ≡ n → lexeme_at (c ∷ cs) ≡ Some got → LexemeAt (c ∷ cs) got
scanned_by c cs got true n w e h = lexeme_of (c ∷ cs) (following is_in_word (c ∷ cs)) (word_token (prefix is_in_word (c ∷ cs))) got (scanned_word c cs w) (sym (at_word c cs w) ∙ h)
scanned_by c cs got false true w n h =
    let r = scanned_number c cs got (is_sign c) refl n (sym (at_number c cs n) ∙ h) in
    (r.0, r.1, a_number r.2)
scanned_by c cs got false false w n h = elim (eqb_tells c 34) [
  | inl q ↦ subst (λ (d : ℕ). LexemeAt (d ∷ cs) got) (sym q.1) (scanned_quote cs got (after_one_quote cs) refl (sym (at_quote c cs q.1) ∙ h))
  | inr q ↦ scanned_punctuator c cs got (punctuator_token c) refl (sym (at_other c cs w n q.0) ∙ h)
]

pub scanned_lexeme : (c : ℕ) (cs : List ℕ) (got : Taken) → lexeme_at (c ∷ cs) ≡ Some got → LexemeAt (c ∷ cs) got
scanned_lexeme c cs got h = scanned_by c cs got (starts_word c) (starts_number c) refl refl h

-- ---- no gap begins with what begins a lexeme

not_at : (m c : ℕ) (cs : List ℕ) (got : Taken) → lexeme_at (m ∷ cs) ≡ None → lexeme_at (c ∷ cs) ≡ Some got → (c == m) ≡ false
not_at m c cs got none h = elim (eqb_tells c m) [
  | inl e ↦ let clash : None ≡ Some got = sym none ∙ (ap (λ (d : ℕ). lexeme_at (d ∷ cs)) (sym e.1) ∙ h) in cc clash
  | inr e ↦ e.0
]

pub lexeme_no_gap : (c : ℕ) (cs : List ℕ) (got : Taken) → lexeme_at (c ∷ cs) ≡ Some got → ((c == 35) ≡ false) × (is_space c ≡ false)
lexeme_no_gap c cs got h =
    (not_at 35 c cs got refl h, rw (not_at 10 c cs got refl h, not_at 13 c cs got refl h, not_at 9 c cs got refl h, not_at 32 c cs got refl h) refl)
