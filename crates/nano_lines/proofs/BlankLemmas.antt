-- A blank line holds no value.
use Rattle.std.proofs.Common.{◌≡◌, ◌<◌, ◌==◌, ◌||◌, ℕ, zero, suc, List, [], ◌∷◌, ◌++◌, Bool, true, false, cond, ◌⊎◌, inl, inr}
use Rattle.std.proofs.Common.{get_or, length, refl, sym, ap, subst, ◌∙◌, arith, eqb-true, append-nil}
use Rattle.std.proofs.lemmas.Bool.{or_cases, false≢true}
use Rattle.std.proofs.lemmas.Str.{chars-IsAscii}
use Rattle.nano_text.specs.Place.{before_nul, remaining_text}
use Rattle.nano_value.specs.Meaning.{Meaning}
use Rattle.nano_grammar.specs.Codec.{IsEncoding, BeginsValue}
use Rattle.nano_grammar.specs.Tokens.{Begins}
use Rattle.nano_text.specs.Characters.{is_space}
use Rattle.nano_json_tokens.specs.Cut.{Cut, nothing, MayBegin, json_grammar, AllSpace}
use Rattle.nano_json_tokens.specs.Token.{Token, end}
use Rattle.nano_json_tokens.proofs.Cuts.{cut_one_way}
use Rattle.nano_lines.specs.Lines.{IsBlank, HoldsValue}

spaces : (c : ℕ) → is_space c ≡ true → (c ≡ 10) ⊎ ((c ≡ 13) ⊎ ((c ≡ 9) ⊎ (c ≡ 32)))
spaces c h = elim (or_cases (((c == 10) || (c == 13)) || (c == 9)) (c == 32) h) [
  | inr e ↦ inr (inr (inr (eqb-true c 32 e)))
  | inl g ↦ elim (or_cases ((c == 10) || (c == 13)) (c == 9) g) [
    | inr e ↦ inr (inr (inl (eqb-true c 9 e)))
    | inl f ↦ elim (or_cases (c == 10) (c == 13) f) [
      | inl e ↦ inl (eqb-true c 10 e)
      | inr e ↦ inr (inl (eqb-true c 13 e))
    ]
  ]
]

space_is_ascii : (c : ℕ) → is_space c ≡ true → c < 128
space_is_ascii c h = elim (spaces c h) [
  | inl e ↦ omega (arith, e)
  | inr f ↦ elim f [
    | inl e ↦ omega (arith, e)
    | inr g ↦ elim g [ inl e ↦ omega (arith, e) | inr e ↦ omega (arith, e) ]
  ]
]

blank_is_ascii : (bytes : List ℕ) → AllSpace bytes → (i : ℕ) → get_or bytes i 0 < 128
blank_is_ascii [] h i = omega arith
blank_is_ascii (c ∷ cs) h zero = space_is_ascii c h.0
blank_is_ascii (c ∷ cs) h (suc i) = blank_is_ascii cs h.1 i

blank_before_nul : (cs : List ℕ) → AllSpace cs → before_nul cs ≡ cs
blank_before_nul [] h = refl
blank_before_nul (c ∷ cs) h =
    elim (c == 0) as (λ (b : Bool). (c == 0) ≡ b → cond b [] (c ∷ before_nul cs) ≡ c ∷ cs) [
      | true ↦ λ e. absurd (false≢true (let zero_is : is_space 0 ≡ true = subst (λ (x : ℕ). is_space x ≡ true) (eqb-true c 0 e) h.0 in zero_is))
      | false ↦ λ e. ap (λ (l : List ℕ). c ∷ l) (blank_before_nul cs h.1)
    ] refl

blank_remains : (bytes : List ℕ) → AllSpace bytes → remaining_text bytes ≡ bytes
blank_remains bytes h = ap before_nul (chars-IsAscii bytes (blank_is_ascii bytes h)) ∙ blank_before_nul bytes h

end_is_cut : (bytes : List ℕ) → AllSpace bytes → Cut bytes end []
end_is_cut bytes h = record { space = bytes; body = []; split = sym (append-nil bytes); skipped = h; lexeme = nothing (refl, refl) }

none_begins : (ts : List Token) (text : List ℕ) → BeginsValue json_grammar ts → Begins Cut (ts ++ end ∷ []) text → Cut text end [] → ⊥
none_begins [] text b h e = b
none_begins (t ∷ ts) text b h e = subst MayBegin (cut_one_way text t end h.0 [] h.1 e).0 b

pub blank_holds_none : {legal : Meaning → Type 0} {encodes : List Token → Meaning → Type 0} → IsEncoding json_grammar legal encodes
    → (line : List ℕ) (m : Meaning) → IsBlank line → HoldsValue encodes line m → ⊥
blank_holds_none laws line m blank h =
    let fits = h.decodes.fits in
    let cut = subst (λ (l : List ℕ). Cut l end []) (sym (blank_remains line blank)) (end_is_cut line blank) in
    none_begins fits.0 (remaining_text line) (laws.begins fits.0 m fits.1) fits.2 cut

-- ---- white space at each place

pub blank_at : (bytes : List ℕ) → AllSpace bytes → (k : ℕ) → k < length bytes → is_space (get_or bytes k 0) ≡ true
blank_at [] h k below = absurd (omega arith)
blank_at (c ∷ cs) h zero below = h.0
blank_at (c ∷ cs) h (suc k) below = blank_at cs h.1 k (omega arith)

pub blank_from : (bytes : List ℕ) → ((k : ℕ) → k < length bytes → is_space (get_or bytes k 0) ≡ true) → AllSpace bytes
blank_from [] h = tt
blank_from (c ∷ cs) h = (h zero (omega arith), blank_from cs (λ k below. h (suc k) (omega arith)))
