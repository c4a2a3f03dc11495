-- Which tokens of RON carry numbers, booleans and texts, and how these and what is absent are
-- written by them.
use Rattle.std.specs.Prelude.{◌≡◌, ◌≢◌, ℕ, ◌<◌, ◌^◌, ℤ, pos, negsuc, FitsSigned, Bool, List, Some}
use Rattle.std.specs.Prelude.{codes, refl}
use Rattle.std.specs.Fmt.{decimal, signed_decimal}
use Rattle.std.specs.Int.{Width, w64}
use Rattle.std.proofs.Common.{sym, ◌∙◌}
use Rattle.nano_value.specs.Meaning.{IsText, number, truth, whole, text}
use Rattle.nano_meaning.proofs.MeaningLaws.{number_injective, truth_injective, whole_injective}
use Rattle.nano_meaning.proofs.MeaningLaws.{text_injective}
use Rattle.nano_grammar.specs.Scalars.{NoneStyle, Carries, OneCanonical}
use Rattle.nano_ron_tokens.proofs.CutAgainLaws.{unsigned_is_cut, signed_is_cut, truth_is_cut}
use Rattle.nano_ron_tokens.proofs.CutAgainLaws.{unsigned_textual, signed_textual, truth_textual}
use Rattle.nano_ron_tokens.proofs.CutAgainLaws.{none_is_cut, none_textual}
use Rattle.nano_ron_tokens.proofs.WrittenTextLaws.{text_is_cut, text_textual, signed_token}
use Rattle.nano_ron_tokens.specs.Cut.{MayBegin, none, ron_grammar}
use Rattle.nano_ron_tokens.proofs.RonLaws.{ron}
use Rattle.nano_ron_tokens.specs.Token.{Token, str, u64, i64, bool, integer_of, truth_of}
use Rattle.nano_ron_tokens.specs.Written.{written_text, written_truth}
use Rattle.nano_grammar.proofs.OptionsLaws.{some_injective}

-- ---- which token carries what

pub u64_injective : (m n : ℕ) → u64 m ≡ u64 n → m ≡ n
u64_injective m n e = cc e

pub u64_begins : (t : Token) (n : ℕ) → t ≡ u64 n → MayBegin t
u64_begins (u64 m) n e = tt
u64_begins _ n e = cc

pub u64_is_some : (t : Token) (n : ℕ) → t ≡ u64 n → t ≢ none
u64_is_some t n e absent = cc (e, absent)

-- a whole number without a minus sign
abbrev pub unsigned_tokens : Carries ron_grammar ℕ
unsigned_tokens = record {
  carries = λ t n. t ≡ u64 n;
  one = λ t m n h k. u64_injective m n (sym h ∙ k);
  begins = u64_begins;
  some = u64_is_some;
}

pub integer_begins : (t : Token) (z : ℤ) → integer_of t ≡ Some z → MayBegin t
integer_begins (u64 n) z e = tt
integer_begins (i64 n) z e = tt
integer_begins _ z e = cc

pub integer_is_some : (t : Token) (z : ℤ) → integer_of t ≡ Some z → t ≢ none
integer_is_some t z e absent = cc (e, absent)

-- a whole number, with a minus sign or without
abbrev pub signed_tokens : Carries ron_grammar ℤ
signed_tokens = record {
  carries = λ t z. integer_of t ≡ Some z;
  one = λ t y z h k. some_injective y z (sym h ∙ k);
  begins = integer_begins;
  some = integer_is_some;
}

pub truth_begins : (t : Token) (b : Bool) → truth_of t ≡ Some b → MayBegin t
truth_begins (bool c) b e = tt
truth_begins (u64 n) b e = tt
truth_begins _ b e = cc

pub truth_is_some : (t : Token) (b : Bool) → truth_of t ≡ Some b → t ≢ none
truth_is_some t b e absent = cc (e, absent)

-- a boolean, or a whole number without a minus sign
abbrev pub truth_tokens : Carries ron_grammar Bool
truth_tokens = record {
  carries = λ t b. truth_of t ≡ Some b;
  one = λ t b c h k. some_injective b c (sym h ∙ k);
  begins = truth_begins;
  some = truth_is_some;
}

pub str_injective : (xs ys : List ℕ) → str xs ≡ str ys → xs ≡ ys
str_injective xs ys e = cc e

pub str_begins : (t : Token) (bytes : List ℕ) → t ≡ str bytes → MayBegin t
str_begins (str b) bytes e = tt
str_begins _ bytes e = cc

pub str_is_some : (t : Token) (bytes : List ℕ) → t ≡ str bytes → t ≢ none
str_is_some t bytes e absent = cc (e, absent)

abbrev pub text_tokens : Carries ron_grammar (List ℕ)
text_tokens = record {
  carries = λ t bytes. t ≡ str bytes;
  one = λ t xs ys h k. str_injective xs ys (sym h ∙ k);
  begins = str_begins;
  some = str_is_some;
}

-- ---- how each is written

-- numbers of so many bits
abbrev pub unsigned_one : (bits : ℕ) → ((n : ℕ) → n < 2 ^ bits → n < 2 ^ 64)
    → OneCanonical ron unsigned_tokens whole (λ n. n < 2 ^ bits)
unsigned_one bits small = record {
  token = λ n. u64 n;
  text = decimal;
  injective = whole_injective;
  carries_it = λ n. refl;
  is_written = λ n h. record {
    cut_again = unsigned_is_cut n (small n h);
    has_token = tt;
    textual = unsigned_textual n (small n h);
  };
}

pub signed_carries : (z : ℤ) → integer_of (signed_token z) ≡ Some z
signed_carries (pos n) = refl
signed_carries (negsuc n) = refl

-- numbers of a width
abbrev pub signed_one : (w : Width) → ((z : ℤ) → FitsSigned w z → FitsSigned w64 z)
    → OneCanonical ron signed_tokens number (FitsSigned w)
signed_one w small = record {
  token = signed_token;
  text = signed_decimal;
  injective = number_injective;
  carries_it = signed_carries;
  is_written = λ z h. record {
    cut_again = signed_is_cut z (small z h);
    has_token = tt;
    textual = signed_textual z (small z h);
  };
}

abbrev pub truth_one : OneCanonical ron truth_tokens truth (λ _. Unit {0})
truth_one = record {
  token = λ b. bool b;
  text = written_truth;
  injective = truth_injective;
  carries_it = λ b. refl;
  is_written = λ b h. record {
    cut_again = truth_is_cut b;
    has_token = tt;
    textual = truth_textual b;
  };
}

abbrev pub text_one : OneCanonical ron text_tokens text IsText
text_one = record {
  token = λ bytes. str bytes;
  text = written_text;
  injective = text_injective;
  carries_it = λ bytes. refl;
  is_written = λ bytes h. record {
    cut_again = text_is_cut bytes h;
    has_token = tt;
    textual = text_textual bytes h;
  };
}

-- what is absent
abbrev pub none_style : NoneStyle ron ron_grammar
none_style = record {
  text = codes "None";
  is_written = record { cut_again = none_is_cut; has_token = tt; textual = none_textual };
}
