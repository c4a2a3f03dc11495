-- Tokens that are laid out are cut again.
use Rattle.std.proofs.Common.{◌-◌}
use Rattle.std.proofs.Common.{◌≡◌, ◌≢◌, ℕ, List, [], ◌∷◌, ◌++◌, refl, sym, ap, subst}
use Rattle.std.proofs.Common.{◌∙◌, append_assoc}
use Rattle.std.specs.List.{AllByRecursion}
use Rattle.nano_grammar.specs.Tokens.{Cuts}
use Rattle.nano_json_tokens.specs.Token.{Token, str, character, u64, i64, f64, bool, bare_ident}
use Rattle.nano_json_tokens.specs.Token.{null, colon}
use Rattle.nano_json_tokens.specs.Token.{comma, block_open, block_close, curly_open, curly_close}
use Rattle.nano_json_tokens.specs.Token.{bof, end}
use Rattle.nano_json_tokens.specs.Cut.{Cut, AllSpace}
use Rattle.nano_json_tokens.specs.Written.{MayFollow}
use Rattle.nano_json_tokens.proofs.JsonLaws.{space_is_skipped}
use Rattle.nano_document.specs.IndentedCodecs.{spaces_are_space}
use Rattle.nano_json_indent.specs.Layout.{kind, level_after, gap_after, gap_before_closing, gap}
use Rattle.nano_json_indent.specs.Layout.{token_text, laid_out}
use Rattle.nano_json_indent.specs.declared.kind.Kind.{Kind}
use Rattle.nano_json_indent.specs.declared.kind.Kind.TheVariants.{Start, Opening, Closing, Comma}
use Rattle.nano_json_indent.specs.declared.kind.Kind.TheVariants.{Colon, Scalar}
use Rattle.nano_json_indent.proofs.Recutting.{IsCutAgain}

-- ---- gaps

gap_after_space : (d : ℕ) (k : Kind) → AllSpace (gap_after d k)
gap_after_space d Start = tt
gap_after_space d Opening = (refl, spaces_are_space d)
gap_after_space d Closing = (refl, tt)
gap_after_space d Comma = (refl, spaces_are_space d)
gap_after_space d Colon = (refl, tt)
gap_after_space d Scalar = (refl, tt)

gap_before_space : (d : ℕ) (k : Kind) → AllSpace (gap_before_closing d k)
gap_before_space d Start = tt
gap_before_space d Opening = tt
gap_before_space d Closing = (refl, spaces_are_space (d - 1))
gap_before_space d Comma = (refl, spaces_are_space (d - 1))
gap_before_space d Colon = (refl, spaces_are_space (d - 1))
gap_before_space d Scalar = (refl, spaces_are_space (d - 1))

gap_space : (d : ℕ) (before k : Kind) → AllSpace (gap d before k)
gap_space d before Start = gap_after_space d before
gap_space d before Opening = gap_after_space d before
gap_space d before Closing = gap_before_space d before
gap_space d before Comma = tt
gap_space d before Colon = tt
gap_space d before Scalar = gap_after_space d before

-- ---- what stands after a token may follow it

kind_some : (t : Token) → kind t ≢ Start
kind_some block_open = λ e. cc e
kind_some curly_open = λ e. cc e
kind_some block_close = λ e. cc e
kind_some curly_close = λ e. cc e
kind_some comma = λ e. cc e
kind_some colon = λ e. cc e
kind_some _ = λ e. cc e

after_follows : (d : ℕ) (k : Kind) (xs rest : List ℕ) → k ≢ Start → MayFollow ((gap_after d k ++ xs) ++ rest)
after_follows d Start xs rest some = absurd (some refl)
after_follows d Opening xs rest some = refl
after_follows d Closing xs rest some = refl
after_follows d Comma xs rest some = refl
after_follows d Colon xs rest some = refl
after_follows d Scalar xs rest some = refl

block_follows : (d : ℕ) (k : Kind) (xs rest : List ℕ) → k ≢ Start
    → MayFollow ((gap_before_closing d k ++ 93 ∷ xs) ++ rest)
block_follows d Start xs rest some = absurd (some refl)
block_follows d Opening xs rest some = refl
block_follows d Closing xs rest some = refl
block_follows d Comma xs rest some = refl
block_follows d Colon xs rest some = refl
block_follows d Scalar xs rest some = refl

curly_follows : (d : ℕ) (k : Kind) (xs rest : List ℕ) → k ≢ Start
    → MayFollow ((gap_before_closing d k ++ 125 ∷ xs) ++ rest)
curly_follows d Start xs rest some = absurd (some refl)
curly_follows d Opening xs rest some = refl
curly_follows d Closing xs rest some = refl
curly_follows d Comma xs rest some = refl
curly_follows d Colon xs rest some = refl
curly_follows d Scalar xs rest some = refl

laid_follows : (d : ℕ) (k : Kind) (ts : List Token) (rest : List ℕ) → k ≢ Start → MayFollow rest
    → MayFollow (laid_out d k ts ++ rest)
laid_follows d k [] rest some h = h
laid_follows d k (block_close ∷ ts) rest some h = block_follows d k _ rest some
laid_follows d k (curly_close ∷ ts) rest some h = curly_follows d k _ rest some
laid_follows d k (comma ∷ ts) rest some h = refl
laid_follows d k (colon ∷ ts) rest some h = refl
laid_follows d k (block_open ∷ ts) rest some h = after_follows d k _ rest some
laid_follows d k (curly_open ∷ ts) rest some h = after_follows d k _ rest some
laid_follows d k (str bytes ∷ ts) rest some h = after_follows d k _ rest some
laid_follows d k (character c ∷ ts) rest some h = after_follows d k _ rest some
laid_follows d k (u64 n ∷ ts) rest some h = after_follows d k _ rest some
laid_follows d k (i64 z ∷ ts) rest some h = after_follows d k _ rest some
laid_follows d k (f64 run ∷ ts) rest some h = after_follows d k _ rest some
laid_follows d k (bool b ∷ ts) rest some h = after_follows d k _ rest some
laid_follows d k (bare_ident ∷ ts) rest some h = after_follows d k _ rest some
laid_follows d k (null ∷ ts) rest some h = after_follows d k _ rest some
laid_follows d k (bof ∷ ts) rest some h = after_follows d k _ rest some
laid_follows d k (end ∷ ts) rest some h = after_follows d k _ rest some

-- ---- all tokens

pub laid_is_cut : (d : ℕ) (k : Kind) (ts : List Token) (rest : List ℕ) → AllByRecursion IsCutAgain ts
    → MayFollow rest → Cuts Cut ts (laid_out d k ts ++ rest) rest
laid_is_cut d k [] rest again h = refl
laid_is_cut d k (t ∷ ts) rest again h =
    let next = kind t in
    let level = level_after d next in
    let tail = laid_out level next ts in
    let here = again.0 (tail ++ rest) (laid_follows level next ts rest (kind_some t) h) in
    let cut : Cut (token_text t ++ (tail ++ rest)) t (tail ++ rest) =
    subst (λ (l : List ℕ). Cut (token_text t ++ (tail ++ rest)) t l) here.2 here.1 in
    let joined : (gap d k next ++ (token_text t ++ tail)) ++ rest ≡ gap d k next ++ (token_text t ++ (tail ++ rest)) =
    append_assoc (gap d k next) (token_text t ++ tail) rest
    ∙ ap (λ (l : List ℕ). gap d k next ++ l) (append_assoc (token_text t) tail rest) in (
      tail ++ rest,
      subst (λ (l : List ℕ). Cut l t (tail ++ rest)) (sym joined)
          (space_is_skipped (gap d k next) (token_text t ++ (tail ++ rest)) (tail ++ rest) t (gap_space d k next) cut),
      laid_is_cut level next ts rest again.1 h,
    )
