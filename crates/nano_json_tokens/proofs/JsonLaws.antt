-- What is proved of Json.
use Rattle.std.specs.Prelude.{◌≡◌, ℕ, codes, true, false, List, [], ◌∷◌, ◌++◌, refl}
use Rattle.std.proofs.Common.{sym, ◌∙◌, ap, append_assoc}
use Rattle.nano_text.proofs.LaneMasks.{all_append}
use Rattle.nano_grammar.specs.Tokens.{Cutting, IsPunctuator, IsWrittenGap}
use Rattle.nano_grammar.specs.Items.{ListPunctuation, no_gaps, PunctuationIs, AreGaps}
use Rattle.nano_grammar.specs.Scalars.{NoneStyle, UnitStyle}
use Rattle.nano_grammar.specs.Codec.{AreBrackets, ListStyle, PairStyle, TupleStyle}
use Rattle.nano_json_tokens.specs.Token.{blocks, curlies, block_punctuation, curly_punctuation}
use Rattle.nano_json_tokens.specs.Token.{Token, null, colon, comma}
use Rattle.nano_text.specs.Characters.{is_space}
use Rattle.nano_json_tokens.specs.Breaks.{Breaks}
use Rattle.nano_json_tokens.specs.Cut.{Cut, AllSpace, json_grammar}
use Rattle.nano_json_tokens.proofs.CutAgainLaws.{punctuator_is_cut, null_is_cut, null_textual}
use Rattle.nano_json_tokens.specs.Written.{MayFollow}

-- ---- how a text is cut

pub space_is_skipped : (gap text rest : List ℕ) (t : Token) → AllSpace gap → Cut text t rest
    → Cut (gap ++ text) t rest
space_is_skipped gap text rest t is h = record {
  space = gap ++ h.space;
  body = h.body;
  split = ap (λ l. gap ++ l) h.split ∙ sym (append_assoc gap h.space h.body);
  skipped = all_append (λ c. is_space c ≡ true) gap h.space is h.skipped;
  lexeme = h.lexeme;
}

abbrev pub json : Cutting Token
json = record { cut = Cut; breaks = Breaks; IsGap = AllSpace; may_follow = MayFollow; skips = space_is_skipped }

-- ---- punctuation

pub no_gap_written : IsWrittenGap json []
no_gap_written = record { is_gap = tt; textual = tt }

pub comma_is : IsPunctuator json comma 44
comma_is = record { cut = punctuator_is_cut 44 comma (λ rest. refl); textual = refl }

pub colon_is : IsPunctuator json colon 58
colon_is = record { cut = punctuator_is_cut 58 colon (λ rest. refl); textual = refl }

pub blocks_are : PunctuationIs json blocks block_punctuation
blocks_are = record {
  opening = record { cut = punctuator_is_cut 91 blocks.opening (λ rest. refl); textual = refl };
  comma = comma_is;
  closing = record { cut = punctuator_is_cut 93 blocks.closing (λ rest. refl); textual = refl };
  comma_follows = λ rest. refl;
  closing_follows = λ rest. refl;
}

pub curlies_are : PunctuationIs json curlies curly_punctuation
curlies_are = record {
  opening = record { cut = punctuator_is_cut 123 curlies.opening (λ rest. refl); textual = refl };
  comma = comma_is;
  closing = record { cut = punctuator_is_cut 125 curlies.closing (λ rest. refl); textual = refl };
  comma_follows = λ rest. refl;
  closing_follows = λ rest. refl;
}

pub block_brackets : AreBrackets json_grammar blocks
block_brackets = record {
  apart = λ e. cc e;
  closes = λ h. h;
  divides = λ h. h;
  opens = tt;
  some = λ e. cc e;
}

pub curly_brackets : AreBrackets json_grammar curlies
curly_brackets = record {
  apart = λ e. cc e;
  closes = λ h. h;
  divides = λ h. h;
  opens = tt;
  some = λ e. cc e;
}

-- ---- how lists, tuples, entries and what is absent are written: with no gaps

pub no_gaps_in : (punctuation : ListPunctuation ℕ)
    → ((rest : List ℕ) → MayFollow (punctuation.closing ∷ rest))
    → AreGaps json false punctuation no_gaps
no_gaps_in punctuation follows = record {
  after_opening = no_gap_written;
  before_item = no_gap_written;
  after_comma = no_gap_written;
  before_closing = no_gap_written;
  closing_follows = λ _. follows;
}

-- lists and sets
abbrev pub block_style : ListStyle json
block_style = record {
  tokens = blocks;
  punctuation = block_punctuation;
  punctuation_is = blocks_are;
  ends = false;
  gaps = λ d. no_gaps;
  gaps_are = λ d. no_gaps_in block_punctuation (λ rest. refl);
}

-- maps
abbrev pub curly_style : ListStyle json
curly_style = record {
  tokens = curlies;
  punctuation = curly_punctuation;
  punctuation_is = curlies_are;
  ends = false;
  gaps = λ d. no_gaps;
  gaps_are = λ d. no_gaps_in curly_punctuation (λ rest. refl);
}

-- an entry of a map, and a named field
abbrev pub entry_style : PairStyle json
entry_style = record {
  token = colon;
  punctuator = 58;
  gap = [];
  is_punctuator = colon_is;
  follows = λ rest. refl;
  is_gap = no_gap_written;
}

abbrev pub tuple_style : TupleStyle json
tuple_style = record {
  tokens = blocks;
  punctuation = block_punctuation;
  punctuation_is = blocks_are;
  gap = [];
  is_gap = no_gap_written;
}

-- what is absent
abbrev pub null_style : NoneStyle json json_grammar
null_style = record {
  text = codes "null";
  is_written = record { cut_again = null_is_cut; has_token = tt; textual = null_textual };
}

-- what means nothing
abbrev pub unit_style : UnitStyle json json_grammar
unit_style = record {
  tokens = null ∷ [];
  text = codes "null";
  begins = tt;
  is_written = null_style.is_written;
}
