-- Decimals, by their text: a token of their own, and the text as it stands.
use Rattle.std.specs.Prelude.{◌≡◌, ◌≢◌, ℕ, ◌||◌, Bool, true, false, cond, List, [], ◌∷◌, ◌++◌}
use Rattle.std.specs.Prelude.{Option, Some, None, IfSome, refl, String, string_bytes}
use Rattle.std.specs.Char.{is_ascii_digit}
use Rattle.std.specs.Global.{Global}
use Rattle.std.specs.List.{AllByRecursion}
use Rattle.std.specs.Str.{all_ascii_digits}
use Rattle.std.proofs.Common.{sym, ◌∙◌, subst, arith}
use Rattle.std.proofs.lemmas.Bool.{and_parts}
use Rattle.std.proofs.lemmas.Bool.Decides.{nat_tests}
use Rattle.nano_text.specs.Characters.{first_is}
use Rattle.nano_text.specs.Number.{IsNumber, Run, Exponent, IsRun, is_sign, is_point, is_letter_e}
use Rattle.nano_text.specs.Number.{sign_text, fraction_text, exponent_text, run_text}
use Rattle.nano_text.specs.declared.number.Number.TheVariants.{Dec}
use Rattle.nano_text.proofs.LaneMasks.{all_append}
use Rattle.nano_value.specs.Meaning.{text}
use Rattle.nano_meaning.proofs.MeaningLaws.{text_injective}
use Rattle.nano_grammar.specs.Tokens.{is_textual, AllTextual, IsCutInto}
use Rattle.nano_grammar.specs.Scalars.{Carries, OneCanonical}
use Rattle.nano_grammar.proofs.ScalarsLaws.{one_of, one_codec}
use Rattle.nano_json_tokens.specs.Token.{Token, f64, null}
use Rattle.nano_json_tokens.specs.Cut.{punctuator, word, number, quoted, nothing}
use Rattle.nano_json_tokens.specs.Cut.{starts_number, Cut, MayBegin, json_grammar}
use Rattle.nano_json_tokens.specs.Written.{MayFollow}
use Rattle.nano_json_tokens.proofs.CutAgainLaws.{decimal_is_cut as run_is_cut}
use Rattle.nano_json_tokens.proofs.JsonLaws.{json}
use Rattle.nano_json.specs.Codec.{Codec, codec_as}
use Rattle.nano_json.specs.Codec.{Encoding}
use Rattle.nano_document.specs.Decimals.{IsDecimal, IsHeldDecimal}

-- ---- which token carries a decimal

pub f64_injective : (xs ys : List ℕ) → f64 xs ≡ f64 ys → xs ≡ ys
f64_injective xs ys e = cc e

pub f64_begins : (t : Token) (run : List ℕ) → t ≡ f64 run → MayBegin t
f64_begins (f64 x) run e = tt
f64_begins _ run e = cc

pub f64_is_some : (t : Token) (run : List ℕ) → t ≡ f64 run → t ≢ null
f64_is_some t run e none = cc (e, none)

abbrev pub decimal_tokens : Carries json_grammar (List ℕ)
decimal_tokens = record {
  carries = λ t run. t ≡ f64 run;
  one = λ t xs ys h k. f64_injective xs ys (sym h ∙ k);
  begins = f64_begins;
  some = f64_is_some;
}

-- ---- the number that a decimal is

pub whole_number : (run : List ℕ) → IsDecimal run
    → (first_is starts_number run ≡ true) × IsNumber run Dec run []
whole_number run (punctuator h) = absurd h
whole_number run (word h) = absurd h
whole_number run (number starts h) = (starts, h)
whole_number run (quoted h) = absurd h
whole_number run (nothing h) = absurd h

-- ---- it is cut again

pub decimal_is_cut : (run : List ℕ) → IsDecimal run → IsCutInto Cut MayFollow (f64 run ∷ []) run
decimal_is_cut run h =
    let whole = whole_number run h in
    run_is_cut run run [] whole.0 whole.1

-- ---- its characters

-- a character that a run can have
abbrev pub IsOfRun : ℕ → Type 0
IsOfRun c = ((is_ascii_digit c || is_sign c) || (is_point c || is_letter_e c)) ≡ true

digits_of_run : (ds : List ℕ) → all_ascii_digits ds ≡ true → AllByRecursion IsOfRun ds
digits_of_run [] h = tt
digits_of_run (d ∷ ds) h =
    let parts = and_parts (is_ascii_digit d) (all_ascii_digits ds) h in
    (one d parts.0, digits_of_run ds parts.1)
  where
    one : (c : ℕ) → is_ascii_digit c ≡ true → IsOfRun c
    one c e = rw e refl

sign_of_run : (s : Option ℕ) → IfSome s (λ c. is_sign c ≡ true)
    → AllByRecursion IsOfRun (sign_text s)
sign_of_run None h = tt
sign_of_run (Some c) h = (one c h, tt) where
  one : (c : ℕ) → is_sign c ≡ true → IsOfRun c
  one c e = grind (arith, nat_tests)

fraction_of_run : (f : Option (List ℕ)) → IfSome f (λ ds. all_ascii_digits ds ≡ true)
    → AllByRecursion IsOfRun (fraction_text f)
fraction_of_run None h = tt
fraction_of_run (Some ds) h = (refl, digits_of_run ds h)

minus_of_run : (minus : Bool) → AllByRecursion IsOfRun (cond minus (45 ∷ []) [])
minus_of_run true = (refl, tt)
minus_of_run false = tt

exponent_of_run : (x : Option Exponent) → IfSome x (λ e. is_letter_e e.letter ≡ true)
    → IfSome x (λ e. all_ascii_digits e.digits ≡ true) → AllByRecursion IsOfRun (exponent_text x)
exponent_of_run None l d = tt
exponent_of_run (Some e) l d = (
  one e.letter l,
  all_append IsOfRun (cond e.minus (45 ∷ []) []) e.digits (minus_of_run e.minus)
      (digits_of_run e.digits d),
) where
  one : (c : ℕ) → is_letter_e c ≡ true → IsOfRun c
  one c h = grind (arith, nat_tests)

of_run : (r : Run) → IsRun r → AllByRecursion IsOfRun (run_text r)
of_run r h =
    let last = fraction_text r.fraction ++ exponent_text r.exponent in
    all_append IsOfRun (sign_text r.sign) (r.whole ++ last) (sign_of_run r.sign h.sign)
    (all_append IsOfRun r.whole last (digits_of_run r.whole h.whole)
    (all_append IsOfRun (fraction_text r.fraction) (exponent_text r.exponent)
    (fraction_of_run r.fraction h.fraction) (exponent_of_run r.exponent h.letter h.digits)))

pub decimal_characters : (run : List ℕ) → IsDecimal run → AllByRecursion IsOfRun run
decimal_characters run h =
    let of = (whole_number run h).1 in
    subst (AllByRecursion IsOfRun) (sym of.run_is) (of_run of.parts of.is_run)

pub run_textual : (run : List ℕ) → AllByRecursion IsOfRun run → AllTextual run
run_textual [] h = tt
run_textual (c ∷ cs) h = (one c h.0, run_textual cs h.1) where
  one : (c : ℕ) → IsOfRun c → is_textual c ≡ true
  one c e = grind (arith, nat_tests)

-- ---- the codec

abbrev pub decimal_one : OneCanonical json decimal_tokens text IsHeldDecimal
decimal_one = record {
  token = λ run. f64 run;
  text = λ run. run;
  injective = text_injective;
  carries_it = λ run. refl;
  is_written = λ run h. record {
    cut_again = decimal_is_cut run h.is_decimal;
    has_token = tt;
    textual = run_textual run (decimal_characters run h.is_decimal);
  };
}

abbrev pub decimals : Encoding
decimals = one_of decimal_tokens text IsHeldDecimal

abbrev pub decimal_codec : Codec (String Global)
decimal_codec =
    codec_as (λ x. string_bytes x) (one_codec decimal_tokens text IsHeldDecimal decimal_one)
