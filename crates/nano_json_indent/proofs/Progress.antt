-- How far the tokens of a text are written.
use Rattle.std.proofs.Common.{◌≡◌, ◌≢◌, ℕ, List, [], ◌∷◌, ◌++◌, refl, sym, ap, ◌∙◌}
use Rattle.std.proofs.Common.{append_assoc, append-nil}
use Rattle.std.specs.Prelude.{encode_utf8_all}
use Rattle.std.proofs.lemmas.Str.{encodes-append}
use Rattle.nano_text.proofs.LaneMasks.{all_append}
use Rattle.nano_grammar.specs.Tokens.{At, Cuts, Leaves}
use Rattle.nano_grammar.proofs.TokensLaws.{leaves_append}
use Rattle.nano_json_tokens.specs.Token.{Token, end}
use Rattle.nano_json_tokens.specs.Cut.{Cut}
use Rattle.nano_json_indent.specs.Layout.{kind, level_after, gap, token_text, laid_out, indented}
use Rattle.nano_json_indent.specs.declared.kind.Kind.{Kind}
use Rattle.nano_json_indent.specs.declared.kind.Kind.TheVariants.{Start}
use Rattle.nano_json_indent.proofs.Tokens.{NoEnd, one_list}

-- the tokens before the pending one are written, at this level and after this kind
pub record Progress (text : List ℕ) (here : At Token) (out : List ℕ) (level : ℕ) (before : Kind) : Type 0 where
  pub first : At Token
  pub is_first : Cut text first.token first.text
  pub done : List Token
  pub taken : Leaves Cut done first here
  pub no_end : NoEnd done
  pub characters : List ℕ
  pub written : out ≡ encode_utf8_all characters
  pub laid : (more : List Token) → laid_out 0 Start (done ++ more) ≡ characters ++ laid_out level before more

pub none_written : (text : List ℕ) (here : At Token) → Cut text here.token here.text → Progress text here [] 0 Start
none_written text here c = record {
  first = here;
  is_first = c;
  done = [];
  taken = refl;
  no_end = tt;
  characters = [];
  written = refl;
  laid = λ more. refl;
}

pub one_more_written : {text : List ℕ} {here next : At Token} {out gapped more : List ℕ} {level : ℕ} {before : Kind}
    → Progress text here out level before → here.token ≢ end → Cut here.text next.token next.text
    → gapped ≡ out ++ encode_utf8_all (gap level before (kind here.token))
    → more ≡ gapped ++ encode_utf8_all (token_text here.token)
    → Progress text next more (level_after level (kind here.token)) (kind here.token)
one_more_written {here = here} {next = next} {out = out} {gapped = gapped} {level = level} {before = before} p some c g m =
    let t = here.token in
    let between = gap level before (kind t) in
    let both = between ++ token_text t in
    let bytes = m ∙ (ap (λ (l : List ℕ). l ++ encode_utf8_all (token_text t)) (g ∙ ap (λ (l : List ℕ). l ++ encode_utf8_all between) p.written)
    ∙ (ap (λ (l : List ℕ). l ++ encode_utf8_all (token_text t)) (sym (encodes-append p.characters between))
    ∙ (sym (encodes-append (p.characters ++ between) (token_text t))
    ∙ ap encode_utf8_all (append_assoc p.characters between (token_text t))))) in
    record {
      first = p.first;
      is_first = p.is_first;
      done = p.done ++ t ∷ [];
      taken = leaves_append Cut p.done (t ∷ []) p.first here next p.taken (refl, (next, c, refl));
      no_end = all_append (λ u. u ≢ end) p.done (t ∷ []) p.no_end (some, tt);
      characters = p.characters ++ both;
      written = bytes;
      laid = λ others.
          let after = laid_out (level_after level (kind t)) (kind t) others in
          ap (laid_out 0 Start) (append_assoc p.done (t ∷ []) others)
          ∙ (p.laid (t ∷ others)
          ∙ (ap (λ (l : List ℕ). p.characters ++ l) (sym (append_assoc between (token_text t) after))
          ∙ sym (append_assoc p.characters both after)));
    }

pub all_written : {text : List ℕ} {here : At Token} {out : List ℕ} {level : ℕ} {before : Kind}
    → Progress text here out level before → here.token ≡ end → (ts : List Token) → Cuts Cut ts text [] → NoEnd ts
    → out ≡ encode_utf8_all (indented ts)
all_written {text = text} {here = here} p ended ts cut none =
    let same = one_list ts p.done text p.first here p.is_first p.taken ended cut none p.no_end in
    p.written ∙ ap encode_utf8_all (sym (append-nil p.characters) ∙ (sym (p.laid [])
    ∙ ap (laid_out 0 Start) (append-nil p.done ∙ sym same)))
