-- What is proved of Styles.
use Rattle.std.specs.Prelude.{ℕ, true, false, [], ◌∷◌, codes, refl}
use Rattle.std.proofs.Common.{◌≡◌, ◌+◌, ◌++◌, List, zero, suc, sym, ◌∙◌, ap, append_assoc, arith}
use Rattle.nano_text.specs.Place.{saturating_next}
use Rattle.nano_grammar.specs.Tokens.{IsValueText}
use Rattle.nano_grammar.specs.Items.{ListPunctuation, AreGaps}
use Rattle.nano_grammar.specs.Scalars.{UnitStyle}
use Rattle.nano_grammar.specs.Codec.{ListStyle, PairStyle, TupleStyle}
use Rattle.nano_ron_tokens.specs.Token.{blocks, curlies, parens, block_punctuation}
use Rattle.nano_ron_tokens.specs.Token.{curly_punctuation, paren_punctuation, colon}
use Rattle.nano_ron_tokens.proofs.RonLaws.{ron, no_gap_written, space_written, indent_written}
use Rattle.nano_ron_tokens.proofs.RonLaws.{colon_is, blocks_are, parens_are, curlies_are}
use Rattle.nano_ron_tokens.specs.Cut.{ron_grammar}
use Rattle.nano_ron_tokens.specs.Written.{lines, indents, spaces, indent}

pub lines_written : (punctuation : ListPunctuation ℕ) (d : ℕ)
    → AreGaps ron true punctuation (lines d)
lines_written punctuation d = record {
  after_opening = space_written 10 refl refl;
  before_item = indent_written (saturating_next d);
  after_comma = space_written 10 refl refl;
  before_closing = indent_written d;
  closing_follows = λ e rest. absurd (cc e);
}

pub indents_written : (d : ℕ) → AreGaps ron false block_punctuation (indents d)
indents_written d = record {
  after_opening = no_gap_written;
  before_item = indent_written (saturating_next d);
  after_comma = no_gap_written;
  before_closing = no_gap_written;
  closing_follows = λ _ rest. refl;
}

pub spaces_written : AreGaps ron false paren_punctuation spaces
spaces_written = record {
  after_opening = no_gap_written;
  before_item = no_gap_written;
  after_comma = space_written 32 refl refl;
  before_closing = no_gap_written;
  closing_follows = λ _ rest. refl;
}

-- a vector
abbrev pub line_style : ListStyle ron
line_style = record {
  tokens = blocks;
  punctuation = block_punctuation;
  punctuation_is = blocks_are;
  ends = true;
  gaps = lines;
  gaps_are = lines_written block_punctuation;
}

-- a linked list, and sets
abbrev pub indent_style : ListStyle ron
indent_style = record {
  tokens = blocks;
  punctuation = block_punctuation;
  punctuation_is = blocks_are;
  ends = false;
  gaps = indents;
  gaps_are = indents_written;
}

-- arrays and slices
abbrev pub paren_style : ListStyle ron
paren_style = record {
  tokens = parens;
  punctuation = paren_punctuation;
  punctuation_is = parens_are;
  ends = false;
  gaps = λ d. spaces;
  gaps_are = λ d. spaces_written;
}

-- maps
abbrev pub curly_style : ListStyle ron
curly_style = record {
  tokens = curlies;
  punctuation = curly_punctuation;
  punctuation_is = curlies_are;
  ends = true;
  gaps = lines;
  gaps_are = lines_written curly_punctuation;
}

-- an entry of a map, and a named field
abbrev pub entry_style : PairStyle ron
entry_style = record {
  token = colon;
  punctuator = 58;
  gap = [];
  is_punctuator = colon_is;
  follows = λ rest. refl;
  is_gap = no_gap_written;
}

abbrev pub tuple_style : TupleStyle ron
tuple_style = record {
  tokens = parens;
  punctuation = paren_punctuation;
  punctuation_is = parens_are;
  gap = 32 ∷ [];
  is_gap = space_written 32 refl refl;
}

-- `()`
pub unit_written : IsValueText ron (parens.opening ∷ (parens.closing ∷ [])) (codes "()")
unit_written = record {
  cut_again = λ rest _.
      (41 ∷ rest, parens_are.opening.cut (41 ∷ rest), (rest, parens_are.closing.cut rest, refl));
  has_token = tt;
  textual = (refl, (refl, tt));
}

-- what means nothing
abbrev pub unit_style : UnitStyle ron ron_grammar
unit_style = record {
  tokens = parens.opening ∷ (parens.closing ∷ []);
  text = codes "()";
  begins = tt;
  is_written = unit_written;
}

-- ==== indents

four_after : (d : ℕ) → indent (suc d) ≡ indent d ++ codes "    "
four_after zero = refl
four_after (suc d) = ap (λ (l : List ℕ). codes "    " ++ l) (four_after d) ∙ sym (append_assoc (codes "    ") (indent d) (codes "    "))

pub indent_more : (d : ℕ) (before now more : List ℕ) → now ≡ before ++ indent d → more ≡ now ++ codes "    " → more ≡ before ++ indent (d + 1)
indent_more d before now more e f =
    let same : d + 1 ≡ suc d = omega arith in
    rw same (f ∙ (ap (λ (l : List ℕ). l ++ codes "    ") e ∙ (append_assoc before (indent d) (codes "    ") ∙ ap (λ (l : List ℕ). before ++ l) (sym (four_after d)))))
