-- The cut and the scan are one; so a text is cut in one way.
use Rattle.std.proofs.Common.{◌≡◌, ℕ, List, [], ◌∷◌, false, Option, Some, None, refl, ap, sym, ◌∙◌}
use Rattle.std.proofs.Common.{subst, ◌<◌, ◌++◌, length, arith, length-append}
use Rattle.nano_toml.specs.Token.{Token, IsWord}
use Rattle.nano_toml.specs.Reading.{Next, a_token, the_end, Took}
use Rattle.nano_toml.specs.Cut.{last_comment_text, IsLastComment, Cut, CutEnd, CutsNothing}
use Rattle.nano_toml.specs.Cut.{IsCutInOneWay, Lexeme, a_punctuator, a_word, a_string, a_number}
use Rattle.nano_toml.specs.Cut.{gaps_text}
use Rattle.nano_toml.specs.Scan.{Taken, taken, after_gaps}
use Rattle.nano_toml.proofs.ByteTests.{lexeme_at, next_after_gaps, next_at}
use Rattle.nano_toml.proofs.Gaps.{gaps_stop}
use Rattle.nano_toml.proofs.GapCut.{gaps_scanned, last_comment_scanned, Skips, to_rest, to_end}
use Rattle.nano_toml.proofs.GapCut.{skips}
use Rattle.nano_toml.proofs.LexemeCut.{lexeme_scanned, scanned_lexeme, lexeme_no_gap}
use Rattle.nano_toml.proofs.NumberCut.{same_taken, body_some}
use Rattle.nano_toml.specs.Number.{body_text, is_minus, IsNumber, sign_text}
use Rattle.nano_toml.specs.Quoted.{IsString, empty, short, triple, pieces_text}

-- ---- what is cut is scanned

pub at_lexeme : (from : List ℕ) (got : Taken) → lexeme_at from ≡ Some got → (after_gaps false from ≡ from) × (next_after_gaps from ≡ Some got)
at_lexeme [] got h = cc h
at_lexeme (c ∷ cs) got h = let n = lexeme_no_gap c cs got h in (gaps_stop (c ∷ cs) n.0 n.1, h)

pub cut_scanned : (text rest : List ℕ) (token : Token) → Cut text token rest → next_at text ≡ taken token rest
cut_scanned text rest token h =
    let l = at_lexeme h.from _ (lexeme_scanned h.from rest token h.lexeme) in
    ap (λ (t : List ℕ). next_at t) h.split ∙ (ap next_after_gaps (gaps_scanned h.gaps h.from h.are_gaps ∙ l.0) ∙ l.1)

last_scanned : (last : Option (List ℕ)) → IsLastComment last → after_gaps false (last_comment_text last) ≡ []
last_scanned None h = refl
last_scanned (Some body) h = last_comment_scanned body h

pub end_scanned : (text : List ℕ) → CutEnd text → next_at text ≡ Some (record { next = the_end; rest = [] })
end_scanned text h = ap next_after_gaps (ap (after_gaps false) h.split ∙ (gaps_scanned h.gaps (last_comment_text h.last) h.are_gaps ∙ last_scanned h.last h.is_last))

-- ---- what is scanned is cut

took_end : (text : List ℕ) (got : Taken) → CutEnd text → Some (record { next = the_end; rest = [] }) ≡ Some got → Took text got.next got.rest
took_end text got e h = let same : record { next = the_end; rest = [] } ≡ got = same_taken h in subst (λ (x : Taken). Took text x.next x.rest) same (e, refl)

took_skipped : (text rest : List ℕ) (got : Taken) → Skips text rest → next_after_gaps rest ≡ Some got → Took text got.next got.rest
took_skipped text [] got (to_rest gaps are split) h = took_end text got (record { gaps = gaps; last = None; are_gaps = are; is_last = tt; split = split }) h
took_skipped text (c ∷ cs) got (to_rest gaps are split) h =
    let l = scanned_lexeme c cs got h in
    subst (λ (n : Next). Took text n got.rest) (sym l.1) (record { gaps = gaps; from = c ∷ cs; are_gaps = are; lexeme = l.2; split = split })
took_skipped text rest got (to_end gaps body are none split nothing) h =
    took_end text got (record { gaps = gaps; last = Some body; are_gaps = are; is_last = none; split = split }) (ap next_after_gaps (sym nothing) ∙ h)

pub scanned_cut : (text : List ℕ) (got : Taken) → next_at text ≡ Some got → Took text got.next got.rest
scanned_cut text got h = took_skipped text (after_gaps false text) got (skips text) h

pub scanned_nothing : (text : List ℕ) → next_at text ≡ None → CutsNothing text
scanned_nothing text h = (
  λ token rest c. let clash : None ≡ taken token rest = sym h ∙ cut_scanned text rest token c in cc clash,
  λ e. let clash : None ≡ Some (record { next = the_end; rest = [] }) = sym h ∙ end_scanned text e in cc clash,
)

-- ---- a text is cut in one way

same_token : (one two : Token) → a_token one ≡ a_token two → one ≡ two
same_token one two e = cc

token_not_end : (token : Token) → a_token token ≡ the_end → ⊥
token_not_end token e = cc

pub cut_one_way : (text : List ℕ) (one two : Token) (rest left : List ℕ) → Cut text one rest → Cut text two left → (one ≡ two) × (rest ≡ left)
cut_one_way text one two rest left h k =
    let same : record { next = a_token one; rest = rest } ≡ record { next = a_token two; rest = left } = same_taken (sym (cut_scanned text rest one h) ∙ cut_scanned text left two k) in
    let next : a_token one ≡ a_token two = ap (λ (x : Taken). x.next) same in
    (same_token one two next, ap (λ (x : Taken). x.rest) same)

pub cut_not_end : (text : List ℕ) (token : Token) (rest : List ℕ) → Cut text token rest → CutEnd text → ⊥
cut_not_end text token rest h k =
    let same : record { next = a_token token; rest = rest } ≡ record { next = the_end; rest = [] } = same_taken (sym (cut_scanned text rest token h) ∙ end_scanned text k) in
    token_not_end token (ap (λ (x : Taken). x.next) same)

pub cut_in_one_way : (text : List ℕ) → IsCutInOneWay text
cut_in_one_way text = (cut_one_way text, cut_not_end text)

-- ==== cut length

IsWord-length : (word : List ℕ) → IsWord word → 0 < length word
IsWord-length [] h = absurd h
IsWord-length (c ∷ cs) h = omega arith

IsString-shorter : (text chars rest : List ℕ) → IsString text chars rest → length rest < length text
IsString-shorter text chars rest (empty e n m) = omega (arith, ap length e)
IsString-shorter text chars rest (short pieces some are e m) = omega (arith, ap length e, length-append (pieces_text pieces) (34 ∷ rest))
IsString-shorter text chars rest (triple pieces are e n m) = omega (arith, ap length e, length-append (pieces_text pieces) (34 ∷ (34 ∷ (34 ∷ rest))))

IsNumber-shorter : (text : List ℕ) (token : Token) (rest : List ℕ) → IsNumber text token rest → length rest < length text
IsNumber-shorter text token rest n =
    omega (arith, ap length n.split, length-append (sign_text n.sign) (body_text n.body ++ rest), length-append (body_text n.body) rest, body_some (is_minus n.sign) n.body n.good)

Lexeme-shorter : (text : List ℕ) (token : Token) (rest : List ℕ) → Lexeme text token rest → length rest < length text
Lexeme-shorter text token rest (a_punctuator c m e) = omega (arith, ap length e)
Lexeme-shorter text token rest (a_word word i n e t) = omega (arith, ap length e, length-append word rest, IsWord-length word i)
Lexeme-shorter text token rest (a_string chars s t) = IsString-shorter text chars rest s
Lexeme-shorter text token rest (a_number n) = IsNumber-shorter text token rest n

pub Cut-shorter : (text : List ℕ) (token : Token) (rest : List ℕ) → Cut text token rest → length rest < length text
Cut-shorter text token rest c = omega (arith, ap length c.split, length-append (gaps_text c.gaps) c.from, Lexeme-shorter c.from token rest c.lexeme)
