-- A text that is cut into tokens is cut into no others.
use Rattle.std.proofs.Common.{◌≡◌, ◌≢◌, ℕ, List, [], ◌∷◌, ◌++◌, refl, sym, ap, subst, ◌∙◌}
use Rattle.std.proofs.Common.{append-nil}
use Rattle.std.specs.Prelude.{encode_utf8_all}
use Rattle.std.specs.List.{AllByRecursion}
use Rattle.nano_grammar.specs.Tokens.{At, Cuts, Leaves, AllTextual, IsValueText}
use Rattle.nano_grammar.proofs.EncodingLaws.{written_is_remaining}
use Rattle.nano_json_tokens.specs.Token.{Token, end}
use Rattle.nano_json_tokens.specs.Cut.{Cut, AllSpace}
use Rattle.nano_json_tokens.proofs.Cuts.{cut_one_way, end_cut}
use Rattle.nano_json_tokens.proofs.JsonLaws.{json}
use Rattle.nano_json_indent.specs.Layout.{AreTokensOf}
use Rattle.nano_json_indent.proofs.Recutting.{IsCutAgain, token_again, cut_left_textual}

abbrev pub NoEnd : List Token → Type 0
NoEnd = AllByRecursion (λ t. t ≢ end)

-- from nothing the end alone is cut, and it leaves nothing
nothing_left : (ts : List Token) (rest : List ℕ) → Cuts Cut ts [] rest → rest ≡ []
nothing_left [] rest h = sym h
nothing_left (t ∷ ts) rest h =
    let is_end = cut_one_way [] t end h.0 [] h.1 ((end_cut [] []).1 (tt, refl)) in
    nothing_left ts rest (subst (λ (l : List ℕ). Cuts Cut ts l rest) is_end.1 h.2)

-- where something is left, no token is the end
pub no_end_before : (ts : List Token) (text rest : List ℕ) → rest ≢ [] → Cuts Cut ts text rest → NoEnd ts
no_end_before [] text rest some h = tt
no_end_before (t ∷ ts) text rest some h = (
  λ is.
      let ended = ((end_cut text h.0).0 (subst (λ (u : Token). Cut text u h.0) is h.1)).1 in
      some (nothing_left ts rest (subst (λ (l : List ℕ). Cuts Cut ts l rest) ended h.2)),
  no_end_before ts h.0 rest some h.2,
)

-- each of them is cut again
pub tokens_again : (ts : List Token) (text rest : List ℕ) → Cuts Cut ts text rest → AllTextual text → NoEnd ts
    → AllByRecursion IsCutAgain ts
tokens_again [] text rest h textual none = tt
tokens_again (t ∷ ts) text rest h textual none = (
  token_again text h.0 t h.1 textual none.0,
  tokens_again ts h.0 rest h.2 (cut_left_textual text h.0 t h.1 textual) none.1,
)

-- what is written of a value has its tokens
pub value_tokens : (ts : List Token) (text : List ℕ) → IsValueText json ts text
    → AreTokensOf (encode_utf8_all text) ts × AllByRecursion IsCutAgain ts
value_tokens ts text w =
    let none = no_end_before ts (text ++ 58 ∷ []) (58 ∷ []) (λ e. cc e) (w.cut_again (58 ∷ []) refl) in
    let cut = subst (λ (l : List ℕ). Cuts Cut ts l []) (append-nil text) (w.cut_again [] tt) in (
      record {
        cut = subst (λ (l : List ℕ). Cuts Cut ts l []) (sym (written_is_remaining text w.textual)) cut;
        no_end = none;
      },
      tokens_again ts text [] cut w.textual none,
    )

-- the tokens that were taken before the end are those of the text
pub one_list : (ts done : List Token) (text : List ℕ) (first last : At Token) → Cut text first.token first.text
    → Leaves Cut done first last → last.token ≡ end → Cuts Cut ts text [] → NoEnd ts → NoEnd done → ts ≡ done
one_list [] [] text first last c l ended h none others = refl
one_list [] (d ∷ ds) text first last c l ended h none others =
    let is_end = cut_one_way text first.token end first.text [] c ((end_cut text []).1 (subst AllSpace (sym h) tt, refl)) in
    absurd (others.0 (l.0 ∙ is_end.0))
one_list (t ∷ ts) [] text first last c l ended h none others =
    let same = cut_one_way text t first.token h.0 first.text h.1 c in
    absurd (none.0 (same.0 ∙ (ap (λ (a : At Token). a.token) l ∙ ended)))
one_list (t ∷ ts) (d ∷ ds) text first last c l ended h none others =
    let same = cut_one_way text t first.token h.0 first.text h.1 c in
    let next = l.1 in
    let rest = one_list ts ds first.text next.0 last next.1 next.2 ended
    (subst (λ (l : List ℕ). Cuts Cut ts l []) same.1 h.2) none.1 others.1 in
    ap (λ (u : Token). u ∷ ts) (same.0 ∙ sym l.0) ∙ ap (λ (us : List Token). d ∷ us) rest
