-- The text of a run, as bytes: the current character, and a prefix of the bytes after it.
use Rattle.std.proofs.Common.{◌≡◌, ℕ, ◌+◌, ◌<◌, ◌≤◌, List, [], ◌∷◌, ◌++◌, Bool, true, false, cond}
use Rattle.std.proofs.Common.{nat_eq, take, length, length-append, chars, encode_utf8}
use Rattle.std.proofs.Common.{encode_utf8_all, IsUtf8, Option, Some, None, IfSome, option_map, refl}
use Rattle.std.proofs.Common.{ap, sym, ◌∙◌, subst, arith, drop, flat_map, Result, Ok, Err, OnOk}
use Rattle.std.proofs.Common.{append_assoc, append-nil}
use Rattle.std.proofs.Math.Utf8.{scalars, scalar}
use Rattle.std.proofs.lemmas.Bool.Decides.{nat_tests}
use Rattle.std.proofs.lemmas.List.{take_at, drop_at}
use Rattle.std.proofs.lemmas.Str.{encode_ascii, encodes-append, encodes-chars, scalars-chars}
use Rattle.std.proofs.lemmas.Str.{IsCharBoundary-at_seam, chars-nil, chars_past_char}
use Rattle.std.specs.Char.{is_ascii_digit}
use Rattle.std.specs.List.{AllByRecursion}
use Rattle.std.specs.Str.{IsCharBoundary, all_ascii_digits}
use Rattle.std.specs.Str.Iter.{chars_rest}
use Rattle.std.specs.declared.str.Chars.{Chars}
use Rattle.std.proofs.lemmas.Bool.{and_parts}
use Rattle.std.specs.Prelude.{is_ok, if◌then◌else◌}
use Rattle.nano_text.specs.declared.run.ExponentLen.{ExponentLen}
use Rattle.nano_text.specs.declared.number.Number.TheVariants.{Dec}
use Rattle.nano_text.specs.Number.{IsNumber, is_minus, Run, Exponent, IsRun, is_sign, is_letter_e}
use Rattle.nano_text.specs.Number.{sign_text, fraction_text, exponent_text, run_text}
use Rattle.nano_text.specs.Place.{remaining, before_nul}
use Rattle.nano_text.specs.Scan.{exponent_len, decimal_len, fraction_capacity, exponent_capacity}
use Rattle.nano_text.specs.Scan.{after_run}
use Rattle.nano_text.specs.ScanLaws.{run_at}
use Rattle.nano_text.proofs.RemainingText.{remaining-first, remaining-tail, remaining_fewer}
use Rattle.nano_text.proofs.Numbers.{decimal_length, decimal_yes, number_at}
use Rattle.nano_text.proofs.Runs.{run_split, run_is_run}
use Rattle.nano_text.proofs.LaneMasks.{all_append}
use Rattle.nano_text.proofs.DigitValues.{digit_ascii}
use Rattle.nano_text.specs.Characters.{prefix, following}
use Rattle.nano_text.proofs.Utf8Prefixes.{CutAfterPrefix, cut_wide, prefix-append-following}

-- ---- a run is ASCII

abbrev IsAsciiText : List ℕ → Type 0
IsAsciiText cs = AllByRecursion (λ c. c < 128) cs

digits_ascii : (ds : List ℕ) → all_ascii_digits ds ≡ true → IsAsciiText ds
digits_ascii [] h = tt
digits_ascii (d ∷ ds) h =
    let both = and_parts (is_ascii_digit d) (all_ascii_digits ds) h in
    (digit_ascii d both.0, digits_ascii ds both.1)

sign_ascii : (s : Option ℕ) → IfSome s (λ c. is_sign c ≡ true) → IsAsciiText (sign_text s)
sign_ascii None h = tt
sign_ascii (Some c) h = (small h, tt) where
  small : is_sign c ≡ true → c < 128
  small e = grind (arith, nat_tests)

fraction_ascii : (f : Option (List ℕ)) → IfSome f (λ ds. all_ascii_digits ds ≡ true) → IsAsciiText (fraction_text f)
fraction_ascii None h = tt
fraction_ascii (Some ds) h = (omega arith, digits_ascii ds h)

minus_ascii : (minus : Bool) → IsAsciiText (cond minus (45 ∷ []) [])
minus_ascii true = (omega arith, tt)
minus_ascii false = tt

exponent_ascii : (e : Option Exponent) → IfSome e (λ x. is_letter_e x.letter ≡ true) → IfSome e (λ x. all_ascii_digits x.digits ≡ true) → IsAsciiText (exponent_text e)
exponent_ascii None l d = tt
exponent_ascii (Some e) l d = (small e.letter l, all_append (λ c. c < 128) (cond e.minus (45 ∷ []) []) e.digits (minus_ascii e.minus) (digits_ascii e.digits d)) where
  small : (c : ℕ) → is_letter_e c ≡ true → c < 128
  small c h = grind (arith, nat_tests)

run_ascii : (r : Run) → IsRun r → IsAsciiText (run_text r)
run_ascii r h =
    all_append (λ c. c < 128) (sign_text r.sign) (r.whole ++ (fraction_text r.fraction ++ exponent_text r.exponent)) (sign_ascii r.sign h.sign)
    (all_append (λ c. c < 128) r.whole (fraction_text r.fraction ++ exponent_text r.exponent) (digits_ascii r.whole h.whole)
    (all_append (λ c. c < 128) (fraction_text r.fraction) (exponent_text r.exponent) (fraction_ascii r.fraction h.fraction) (exponent_ascii r.exponent h.letter h.digits)))

ascii-encodes : (cs : List ℕ) → IsAsciiText cs → encode_utf8_all cs ≡ cs
ascii-encodes [] h = refl
ascii-encodes (c ∷ cs) h = rw (encode_ascii c h.0) (ap (λ (l : List ℕ). c ∷ l) (ascii-encodes cs h.1))

-- ---- a prefix of the remaining input is a prefix of the bytes

before_nul_prefix : (xs cs rest : List ℕ) → before_nul cs ≡ xs ++ rest → (more : List ℕ) × (cs ≡ xs ++ more)
before_nul_prefix [] cs rest e = (cs, refl)
before_nul_prefix (x ∷ xs) [] rest e = cc e
before_nul_prefix (x ∷ xs) (c ∷ cs) rest e = elim (nat_eq c 0) as (λ (b : Bool). cond b [] (c ∷ before_nul cs) ≡ x ∷ (xs ++ rest) → (more : List ℕ) × (c ∷ cs ≡ x ∷ (xs ++ more))) [
  | true ↦ λ h. cc h
  | false ↦ λ h.
      let same : c ≡ x = cc h in
      let inside : before_nul cs ≡ xs ++ rest = cc h in
      let r = before_nul_prefix xs cs rest inside in
      (r.0, cc (same, r.1))
] e

scalars-after_prefix : (xs ys : List ℕ) → scalars (xs ++ ys) ≡ true → scalars ys ≡ true
scalars-after_prefix [] ys h = h
scalars-after_prefix (x ∷ xs) ys h = scalars-after_prefix xs ys (and_parts (scalar x) (scalars (xs ++ ys)) h).1

-- an ASCII prefix of the remaining input: its first character is the current one, and the
-- others are a prefix of the bytes
pub record IsPrefix (cur : ℕ) (bytes prefix : List ℕ) (len : ℕ) : Type 0 where
  pub text_is : encode_utf8 cur ++ take len bytes ≡ prefix
  pub boundary : IsCharBoundary bytes len

prefix_of_bytes : (cur : ℕ) (s : Chars) (bytes prefix rest : List ℕ) (len : ℕ) → IsUtf8 bytes → bytes ≡ chars_rest s → remaining cur s ≡ prefix ++ rest → IsAsciiText prefix → length prefix ≡ len + 1 → IsPrefix cur bytes prefix len
prefix_of_bytes cur s bytes [] rest len utf8 is e ascii count = absurd (omega arith)
prefix_of_bytes cur s bytes (c ∷ cs) rest len utf8 is e ascii count =
    let same : cur ≡ c = remaining-first cur c s (cs ++ rest) e in
    let inside : before_nul (chars bytes) ≡ cs ++ rest = ap (λ (bs : List ℕ). before_nul (chars bs)) is ∙ remaining-tail cur c s (cs ++ rest) e in
    let more = before_nul_prefix cs (chars bytes) rest inside in
    let bytes_are : bytes ≡ cs ++ encode_utf8_all more.0 = sym (encodes-chars bytes utf8) ∙ (ap encode_utf8_all more.1 ∙ (encodes-append cs more.0 ∙ ap (λ (l : List ℕ). l ++ encode_utf8_all more.0) (ascii-encodes cs ascii.1))) in
    let rest_scalars = scalars-after_prefix cs more.0 (subst (λ (l : List ℕ). scalars l ≡ true) more.1 (scalars-chars bytes utf8)) in
    let len_is : length cs ≡ len = omega arith in
    record {
      text_is = rw (same, encode_ascii c ascii.0, bytes_are) (ap (λ (l : List ℕ). c ∷ l) (take_at cs (encode_utf8_all more.0) len len_is));
      boundary = subst (λ (n : ℕ). IsCharBoundary bytes n) len_is (IsCharBoundary-at_seam bytes cs (encode_utf8_all more.0) bytes_are (more.0, (rest_scalars, refl)));
    }

-- ---- how long a run is

pub run_length : (r : Run) → length (run_text r) ≡ length (sign_text r.sign) + length r.whole + (fraction_capacity (option_map length r.fraction) + exponent_capacity (option_map exponent_len r.exponent))
run_length r =
    omega (arith, length-append (sign_text r.sign) (r.whole ++ (fraction_text r.fraction ++ exponent_text r.exponent)), length-append r.whole (fraction_text r.fraction ++ exponent_text r.exponent), decimal_length r.fraction r.exponent)

-- the run is no longer than the current character and the bytes after it
pub run_capacity : (cur : ℕ) (s : Chars) (bytes : List ℕ) → IsUtf8 bytes → bytes ≡ chars_rest s → length (run_text (run_at (remaining cur s))) ≤ length bytes + 1
run_capacity cur s bytes utf8 is =
    let text = remaining cur s in
    omega (arith, remaining_fewer cur s, ap length is, ap length (run_split text), length-append (run_text (run_at text)) (after_run text))

pub run_bytes : (cur : ℕ) (s : Chars) (bytes : List ℕ) (len : ℕ) → IsUtf8 bytes → bytes ≡ chars_rest s → length (run_text (run_at (remaining cur s))) ≡ len + 1 → IsPrefix cur bytes (run_text (run_at (remaining cur s))) len
run_bytes cur s bytes len utf8 is count =
    let text = remaining cur s in
    prefix_of_bytes cur s bytes (run_text (run_at text)) (after_run text) len utf8 is (sym (run_split text)) (run_ascii (run_at text) (run_is_run text)) count

-- ---- a decimal that was taken

pub record IsDecimal (cur : ℕ) (text bytes rest : List ℕ) (len : ℕ) : Type 0 where
  pub number : IsNumber text Dec (run_text (run_at text)) rest
  pub bytes_are : IsPrefix cur bytes (run_text (run_at text)) len
  pub length_is : length (run_text (run_at text)) ≡ len + 1

pub decimal_taken : (cur : ℕ) (s : Chars) (bytes rest : List ℕ) (sign : Option ℕ) (whole : ℕ) (fraction : Option ℕ) (exponent : Option ExponentLen) (before following : ℕ) → IsUtf8 bytes → bytes ≡ chars_rest s
    → sign ≡ (run_at (remaining cur s)).sign → whole ≡ length (run_at (remaining cur s)).whole → fraction ≡ option_map length (run_at (remaining cur s)).fraction → exponent ≡ option_map exponent_len (run_at (remaining cur s)).exponent
    → rest ≡ after_run (remaining cur s) → decimal_len whole fraction exponent ≡ Some following → before ≡ length (sign_text sign) → IsDecimal cur (remaining cur s) bytes rest (before + whole + following)
decimal_taken cur s bytes rest sign whole fraction exponent before following utf8 is sign_is whole_is fraction_is exponent_is rest_is len_is before_is =
    let text = remaining cur s in
    let r = run_at text in
    let len : decimal_len (length r.whole) (option_map length r.fraction) (option_map exponent_len r.exponent) ≡ Some following = sym (ap (λ (n : ℕ). decimal_len n fraction exponent) whole_is ∙ (ap (λ (f : Option ℕ). decimal_len (length r.whole) f exponent) fraction_is ∙ ap (decimal_len (length r.whole) (option_map length r.fraction)) exponent_is)) ∙ len_is in
    let good = decimal_yes (is_minus r.sign) r.whole r.fraction r.exponent following len in
    let count : length (run_text r) ≡ before + whole + following + 1 = omega (arith, run_length r, good.2, before_is, ap (λ (o : Option ℕ). length (sign_text o)) sign_is, whole_is) in
    record {
      number = number_at text rest Dec rest_is good.0 good.1;
      bytes_are = run_bytes cur s bytes (before + whole + following) utf8 is count;
      length_is = count;
    }

-- ==== runs as they are written

module _ (stands : ℕ → Bool) (written : ℕ → List ℕ) (wide : (n : ℕ) → 128 ≤ n → stands n ≡ true) (itself : (c : ℕ) → stands c ≡ true → written c ≡ c ∷ []) where
  -- a text is split after the prefix that is written as itself
  pub cut_run : (bytes : List ℕ) → IsUtf8 bytes → CutAfterPrefix stands bytes
  cut_run bytes utf8 = cut_wide stands wide bytes utf8

  written_prefix : (cs : List ℕ) → flat_map written cs ≡ prefix stands cs ++ flat_map written (following stands cs)
  written_prefix [] = refl
  written_prefix (c ∷ cs) = elim (stands c) as (λ b. stands c ≡ b → written c ++ flat_map written cs ≡ cond b (c ∷ prefix stands cs) [] ++ flat_map written (cond b (following stands cs) (c ∷ cs))) [
    | true ↦ λ e. ap (λ (l : List ℕ). l ++ flat_map written cs) (itself c e) ∙ ap (λ l. c ∷ l) (written_prefix cs)
    | false ↦ λ e. refl
  ] refl

  -- what is written for a text: the prefix, and what is written for what is after it
  pub run_written : (bytes : List ℕ) → IsUtf8 bytes → encode_utf8_all (flat_map written (chars bytes)) ≡ prefix stands bytes ++ encode_utf8_all (flat_map written (chars (following stands bytes)))
  run_written bytes utf8 =
      let cut = cut_run bytes utf8 in
      let cs = chars bytes in
      ap encode_utf8_all (written_prefix cs) ∙ (encodes-append (prefix stands cs) (flat_map written (following stands cs)) ∙ (λ i. sym cut.prefix_is i ++ encode_utf8_all (flat_map written (sym cut.after_is i))))

  -- one character, and what is written for those after it
  pub character_written : (bytes rest : List ℕ) (c : ℕ) → IsUtf8 bytes → bytes ≡ encode_utf8 c ++ rest → encode_utf8_all (flat_map written (chars bytes)) ≡ encode_utf8_all (written c) ++ encode_utf8_all (flat_map written (chars rest))
  character_written bytes rest c utf8 e = ap (λ cs. encode_utf8_all (flat_map written cs)) (chars_past_char bytes rest c utf8 e) ∙ encodes-append (written c) (flat_map written (chars rest))

  -- the bytes of what is written of a text
  abbrev pub Written : List ℕ → List ℕ
  Written bytes = encode_utf8_all (flat_map written (chars bytes))

  module _ (text plain tail : List ℕ) (n : ℕ) (utf8 : IsUtf8 text) (count : n ≡ length (prefix stands text)) (is_prefix : plain ≡ take n text) (is_tail : tail ≡ drop n text) where
    seam : text ≡ prefix stands text ++ following stands text
    seam = sym (prefix-append-following stands text)

    plain_is : plain ≡ prefix stands text
    plain_is = is_prefix ∙ (ap (λ l. take n l) seam ∙ take_at (prefix stands text) (following stands text) n (sym count))

    tail_is : tail ≡ following stands text
    tail_is = is_tail ∙ (ap (λ l. drop n l) seam ∙ drop_at (prefix stands text) (following stands text) n (sym count))

    written_split : Written text ≡ plain ++ Written tail
    written_split = run_written text utf8 ∙ (λ i. sym plain_is i ++ Written (sym tail_is i))

    -- where the text ends after the prefix
    pub run_last : (before middle : List ℕ) → middle ≡ before ++ plain → (run : List ℕ) × (middle ≡ before ++ run) × (Written text ≡ run ++ Written tail)
    run_last before middle e = (plain, e, written_split)

    -- where one more character is taken
    pub run_more : (before middle after rest : List ℕ) (c : ℕ) → middle ≡ before ++ plain → tail ≡ encode_utf8 c ++ rest → after ≡ middle ++ encode_utf8_all (written c) → (run : List ℕ) × (after ≡ before ++ run) × (Written text ≡ run ++ Written rest)
    run_more before middle after rest c e taken f =
        let piece = encode_utf8_all (written c) in
        let tail_utf8 = subst IsUtf8 (sym tail_is) (cut_run text utf8).after_utf8 in (
          plain ++ piece,
          f ∙ (ap (λ l. l ++ piece) e ∙ append_assoc before plain piece),
          written_split ∙ (ap (λ l. plain ++ l) (character_written tail rest c tail_utf8 taken) ∙ sym (append_assoc plain piece (Written rest))),
        )

  -- no text is left
  pub runs_done : (before out whole left : List ℕ) → (done : List ℕ) × (out ≡ before ++ done) × (whole ≡ done ++ Written left) → length left ≡ 0 → out ≡ before ++ whole
  runs_done before out whole [] h e =
      let nothing : Written [] ≡ [] = ap (λ cs. encode_utf8_all (flat_map written cs)) chars-nil in
      h.1 ∙ ap (λ l. before ++ l) (sym (h.2 ∙ (ap (λ l. h.0 ++ l) nothing ∙ append-nil h.0)))
  runs_done before out whole (b ∷ bs) h e = absurd (omega (arith, e))

-- one more run
pub runs_more : (before out more text left rest : List ℕ) → (done : List ℕ) × (out ≡ before ++ done) × (text ≡ done ++ left) → (run : List ℕ) × (more ≡ out ++ run) × (left ≡ run ++ rest) → (done : List ℕ) × (more ≡ before ++ done) × (text ≡ done ++ rest)
runs_more before out more text left rest h k = (
  h.0 ++ k.0,
  k.1 ∙ (ap (λ l. l ++ k.0) h.1 ∙ append_assoc before h.0 k.0),
  h.2 ∙ (ap (λ l. h.0 ++ l) k.2 ∙ sym (append_assoc h.0 k.0 rest)),
)

-- what a write of an escape leaves, where it did not fail
pub escape_appended : {S E : Type 0} (written : ℕ → List ℕ) (r : Result S E) (c d : ℕ) (new old bytes : List ℕ) → c ≡ d → encode_utf8_all (written d) ≡ bytes
    → new ≡ (if is_ok r then old ++ bytes else old) → OnOk r (new ≡ old ++ encode_utf8_all (written c))
escape_appended written (Ok s) c d new old bytes e is h = h ∙ ap (λ (w : List ℕ). old ++ w) (sym (ap (λ (x : ℕ). encode_utf8_all (written x)) e ∙ is))
escape_appended written (Err x) c d new old bytes e is h = tt
