-- What is proved of Ron.
use Rattle.std.specs.Prelude.{◌≡◌, ℕ, zero, suc, true, List, [], ◌∷◌, ◌++◌, codes, refl}
use Rattle.std.proofs.Common.{sym, ◌∙◌, ap, append_assoc}
use Rattle.std.proofs.lemmas.Grind.{flat_map-append}
use Rattle.nano_text.proofs.LaneMasks.{all_append}
use Rattle.nano_grammar.specs.Tokens.{Cutting, IsPunctuator, IsWrittenGap, is_textual}
use Rattle.nano_grammar.specs.Items.{PunctuationIs}
use Rattle.nano_grammar.specs.Codec.{AreBrackets}
use Rattle.nano_grammar.proofs.TokensLaws.{textual_append}
use Rattle.nano_ron_tokens.specs.Token.{blocks, curlies, parens, block_punctuation}
use Rattle.nano_ron_tokens.specs.Token.{curly_punctuation, paren_punctuation, Token, colon, comma}
use Rattle.nano_ron_tokens.specs.Breaks.{Breaks}
use Rattle.nano_ron_tokens.specs.Cut.{Cut, IsLexeme, IsPunctuator as IsPunctuatorOf, punctuator}
use Rattle.nano_ron_tokens.specs.Cut.{IsGap, IsSkip, space, skip_text, ron_grammar}
use Rattle.nano_ron_tokens.specs.Written.{indent, MayFollow}

-- ---- how a text is cut

pub no_gap : IsGap []
no_gap = record { skips = []; good = tt; is = refl }

pub gap_append : (gap more : List ℕ) → IsGap gap → IsGap more → IsGap (gap ++ more)
gap_append gap more h k = record {
  skips = h.skips ++ k.skips;
  good = all_append IsSkip h.skips k.skips h.good k.good;
  is = (λ i. h.is i ++ k.is i) ∙ sym (flat_map-append skip_text h.skips k.skips);
}

pub gap_is_skipped : (gap text rest : List ℕ) (t : Token) → IsGap gap → Cut text t rest
    → Cut (gap ++ text) t rest
gap_is_skipped gap text rest t is h = record {
  gap = gap ++ h.gap;
  body = h.body;
  split = ap (λ l. gap ++ l) h.split ∙ sym (append_assoc gap h.gap h.body);
  skipped = gap_append gap h.gap is h.skipped;
  lexeme = h.lexeme;
}

abbrev pub ron : Cutting Token
ron = record { cut = Cut; breaks = Breaks; IsGap = IsGap; may_follow = MayFollow; skips = gap_is_skipped }

-- ---- gaps that are written

pub no_gap_written : IsWrittenGap ron []
no_gap_written = record { is_gap = no_gap; textual = tt }

-- white space of one character
pub space_written : (c : ℕ) → IsSkip (space c) → is_textual c ≡ true → IsWrittenGap ron (c ∷ [])
space_written c h textual = record {
  is_gap = record { skips = space c ∷ []; good = (h, tt); is = refl };
  textual = (textual, tt);
}

pub gaps_written : (gap more : List ℕ) → IsWrittenGap ron gap → IsWrittenGap ron more
    → IsWrittenGap ron (gap ++ more)
gaps_written gap more h k = record {
  is_gap = gap_append gap more h.is_gap k.is_gap;
  textual = textual_append gap more h.textual k.textual;
}

four_written : IsWrittenGap ron (codes "    ")
four_written = record {
  is_gap = record {
    skips = space 32 ∷ (space 32 ∷ (space 32 ∷ (space 32 ∷ [])));
    good = (refl, (refl, (refl, (refl, tt))));
    is = refl;
  };
  textual = (refl, (refl, (refl, (refl, tt))));
}

pub indent_written : (d : ℕ) → IsWrittenGap ron (indent d)
indent_written zero = no_gap_written
indent_written (suc d) = gaps_written (codes "    ") (indent d) four_written (indent_written d)

-- ---- punctuation

-- the lexeme stands at the beginning
pub cut_at_once : (text rest : List ℕ) (t : Token) → IsLexeme t text rest → Cut text t rest
cut_at_once text rest t h =
    record { gap = []; body = text; split = refl; skipped = no_gap; lexeme = h }

punctuator_is : (t : Token) (c : ℕ) → ((rest : List ℕ) → IsPunctuatorOf t (c ∷ rest) rest)
    → is_textual c ≡ true → IsPunctuator ron t c
punctuator_is t c is textual = record {
  cut = λ rest. cut_at_once (c ∷ rest) rest t (punctuator (is rest));
  textual = textual;
}

pub comma_is : IsPunctuator ron comma 44
comma_is = punctuator_is comma 44 (λ rest. refl) refl

pub colon_is : IsPunctuator ron colon 58
colon_is = punctuator_is colon 58 (λ rest. refl) refl

pub blocks_are : PunctuationIs ron blocks block_punctuation
blocks_are = record {
  opening = punctuator_is blocks.opening 91 (λ rest. refl) refl;
  comma = comma_is;
  closing = punctuator_is blocks.closing 93 (λ rest. refl) refl;
  comma_follows = λ rest. refl;
  closing_follows = λ rest. refl;
}

pub parens_are : PunctuationIs ron parens paren_punctuation
parens_are = record {
  opening = punctuator_is parens.opening 40 (λ rest. refl) refl;
  comma = comma_is;
  closing = punctuator_is parens.closing 41 (λ rest. refl) refl;
  comma_follows = λ rest. refl;
  closing_follows = λ rest. refl;
}

pub curlies_are : PunctuationIs ron curlies curly_punctuation
curlies_are = record {
  opening = punctuator_is curlies.opening 123 (λ rest. refl) refl;
  comma = comma_is;
  closing = punctuator_is curlies.closing 125 (λ rest. refl) refl;
  comma_follows = λ rest. refl;
  closing_follows = λ rest. refl;
}

pub block_brackets : AreBrackets ron_grammar blocks
block_brackets = record {
  apart = λ e. cc e;
  closes = λ h. h;
  divides = λ h. h;
  opens = tt;
  some = λ e. cc e;
}

pub paren_brackets : AreBrackets ron_grammar parens
paren_brackets = record {
  apart = λ e. cc e;
  closes = λ h. h;
  divides = λ h. h;
  opens = tt;
  some = λ e. cc e;
}

pub curly_brackets : AreBrackets ron_grammar curlies
curly_brackets = record {
  apart = λ e. cc e;
  closes = λ h. h;
  divides = λ h. h;
  opens = tt;
  some = λ e. cc e;
}
