-- What the readers of RON know of its tokens.
use Rattle.std.specs.declared.str.Chars.{Chars}
use Rattle.std.specs.Str.Iter.{chars_rest}
use Rattle.std.proofs.Common.{chars, ℕ, ◌≡◌, ◌≢◌, ◌<◌, ◌≤◌, ◌^◌, Bool, true, false, cond, []}
use Rattle.std.proofs.Common.{length, List, codes, inl, refl, ap, sym, subst, ◌∙◌, arith}
use Rattle.std.proofs.lemmas.Slice.Eq.{bytes_eq-Decides}
use Rattle.nano_text.specs.Place.{held, tail, before_nul, remaining, Passes}
use Rattle.nano_text.proofs.PlaceLaws.{stands_in}
use Rattle.nano_text.proofs.RemainingText.{remaining_fewer}
use Rattle.nano_grammar.proofs.WholeInputs.{Begun}
use Rattle.nano_grammar.proofs.TextPlaces.{stands_before}
use Rattle.nano_value.specs.Meaning.{Meaning, usize_bound, Agrees, BothOfPair}
use Rattle.nano_grammar.specs.Codec.{IsEncoding}
use Rattle.nano_grammar.specs.Items.{EncodedPair}
use Rattle.nano_grammar.proofs.MapsLaws.{entry_encoding}
use Rattle.nano_grammar.proofs.TokensLaws.{CutLaws, tokens_left}
use Rattle.nano_ron_tokens.specs.Cut.{Cut, nothing, MayBegin, none, ron_grammar}
use Rattle.nano_ron_tokens.specs.Token.{curlies, is_none, is_block_close, is_curly_close, Token}
use Rattle.nano_ron_tokens.specs.Token.{ident, colon, curly_close, block_close, end}
use Rattle.nano_ron_tokens.proofs.RonLaws.{ron, no_gap, curly_brackets}
use Rattle.nano_ron_tokens.proofs.WrittenTextLaws.{is_end}
use Rattle.nano_ron_tokens.specs.Outcomes.{position}
use Rattle.nano_ron_tokens.specs.State.{at, place_of}
use Rattle.nano_ron_tokens.specs.declared.state.DeRonState.{DeRonState}
use Rattle.nano_ron_tokens.proofs.Cuts.{cut_one_way}
use Rattle.nano_ron_tokens.proofs.Capacity.{cut_takes}
use Rattle.nano_ron.specs.Codec.{Codec}

pub begins_no_end : (t : Token) → MayBegin t → is_end t ≡ false
begins_no_end end h = absurd h
begins_no_end _ h = refl

pub nothing_is_cut : Cut [] end []
nothing_is_cut = record { gap = []; body = []; split = refl; skipped = no_gap; lexeme = nothing (inl refl, refl) }

abbrev pub ron_laws : CutLaws ron ron_grammar
ron_laws = record {
  one_way = cut_one_way;
  is_end = is_end;
  shorter = cut_takes;
  begins_no_end = begins_no_end;
  end = end;
  end_is_cut = nothing_is_cut;
  end_follows = tt;
}

zero_or_one : (b : Bool) → cond b 0 1 ≤ 1
zero_or_one true = omega arith
zero_or_one false = omega arith

-- fewer tokens are left than a `usize` counts
pub few_left : (s : DeRonState) (i : Chars) → length (chars_rest i) < 2 ^ 63
    → tokens_left is_end (at s i) < usize_bound
unfolding tokens_left
few_left s i few = omega (arith, few, remaining_fewer s.cur i, zero_or_one (is_end (at s i).token))

-- of an entry
abbrev pub entry_laws : {P Q : Meaning → Type 0} {S R : List Token → Meaning → Type 0}
    → IsEncoding ron_grammar P S → IsEncoding ron_grammar Q R
    → IsEncoding ron_grammar (BothOfPair P Q) (EncodedPair colon S R)
entry_laws s t = entry_encoding ron_grammar curlies curly_brackets colon s t

-- ---- what the tests of the pending token say

pub is_the_none : (t : Token) → is_none t ≡ true → t ≡ none
is_the_none (ident name) e = ap ident ((bytes_eq-Decides name (codes "None")).0 e)
is_the_none _ e = cc e

pub not_none : (t : Token) → is_none t ≡ false → t ≢ none
not_none t e is = let x = sym e ∙ ap is_none is in cc x

pub close_is : (t : Token) → is_block_close t ≡ true → t ≡ block_close
close_is block_close e = refl
close_is _ e = cc e

pub not_close : (t : Token) → is_block_close t ≡ false → t ≢ block_close
not_close t e is = let x = sym e ∙ ap is_block_close is in cc x

pub curly_is : (t : Token) → is_curly_close t ≡ true → t ≡ curly_close
curly_is curly_close e = refl
curly_is _ e = cc e

pub not_curly : (t : Token) → is_curly_close t ≡ false → t ≢ curly_close
not_curly t e is = let x = sym e ∙ ap is_curly_close is in cc x

-- ---- texts

-- a fresh state that took one character is at the first one of the text
pub begun : (fresh first : DeRonState) (i j : Chars) (bytes : List ℕ) → chars_rest i ≡ bytes → fresh.line ≡ 0
    → fresh.col ≡ 0 → Passes (place_of fresh) (held i) (place_of first) (held j) → held j ≡ tail (held i)
    → remaining first.cur j ≡ before_nul (held i) → Begun bytes (position first j)
begun fresh first i j bytes same line col passes left rest = record {
  text = rest ∙ ap (λ (b : List ℕ). before_nul (chars b)) same;
  stands = λ end e h made. stands_in (ap chars same) line col passes left rest h made.1 made.2;
  before = λ here lines columns is h at_line at_column.
      stands_before (ap chars same) line col passes left rest h is at_line at_column;
}

-- ---- what is written

-- what is legal for the type is legal for the format
pub legal_there : {A : Type 0} {means : A → Meaning} {legal : Meaning → Type 0} (f : Codec A)
    → Agrees means legal f.canonical.means f.encoding.legal → (x : A) → legal (means x)
    → f.encoding.legal (f.canonical.means x)
legal_there {means = means} f t x h =
    subst f.encoding.legal (λ i. sym t.means_is i x) (t.allows (means x) h)
