-- Strings in one line with no escape: what is read at once, and nothing else.
use Rattle.std.proofs.Common.{◌≡◌, ◌≢◌, ◌<◌, ℕ, List, [], ◌∷◌, ◌++◌, Bool, true, false, cond, nat_eq}
use Rattle.std.proofs.Common.{Option, Some, None, IfSome, ne_eqb}
use Rattle.std.proofs.Common.{drop, length, chars, encode_utf8_all, IsUtf8, refl, ap, sym, ◌∙◌}
use Rattle.std.proofs.Common.{subst, arith}
use Rattle.std.proofs.lemmas.Str.{encode_ascii, encodes-chars}
use Rattle.std.specs.Str.Iter.{chars_rest}
use Rattle.std.specs.declared.str.Chars.{Chars}
use Rattle.nano_text.specs.Characters.{prefix, following}
use Rattle.nano_text.specs.Place.{before_nul, held, remaining, tail}
use Rattle.nano_text.specs.String.{IsString, IsPlainString, is_plain_in_line}
use Rattle.nano_text.proofs.RemainingText.{remaining-tail}
use Rattle.nano_text.proofs.Strings.{nothing_read, reads_plain, string_read}
use Rattle.nano_text.proofs.Prefixes.{drop_prefix}
use Rattle.nano_text.proofs.Utf8Prefixes.{after_passing, following-before_nul}
use Rattle.nano_text.proofs.Bodies.{in_line_cut, in_line_plain, chars_after, utf8_after}

-- such a string is a string
pub plain_is_string : (text characters rest : List ℕ) → IsPlainString text characters rest → (read : List ℕ) × IsString text read rest
plain_is_string text characters rest s =
    let test = is_plain_in_line in
    let inside = characters ++ 34 ∷ rest in
    let written = encode_utf8_all (prefix test inside) in
    let ends : 34 ∷ rest ≡ following test inside = sym (after_passing test characters (34 ∷ rest) s.plain) in
    let read = reads_plain test in_line_plain inside [] inside written (34 ∷ rest) (nothing_read inside) ends refl in
    let string = string_read text inside written (34 ∷ rest) rest s.split read refl in
    (string.0, string.1)

-- what is left before a NUL begins with a character
first_left : (c : ℕ) (cs rest : List ℕ) → before_nul cs ≡ c ∷ rest → (left : List ℕ) × (cs ≡ c ∷ left)
first_left c [] rest e = absurd (cc e)
first_left c (d ∷ cs) rest e =
    elim (nat_eq d 0) as (λ (b : Bool). cond b [] (d ∷ before_nul cs) ≡ c ∷ rest → (left : List ℕ) × (d ∷ cs ≡ c ∷ left)) [
      | true ↦ λ h. absurd (cc h)
      | false ↦ λ h. (cs, cc h)
    ] e

-- and so do its bytes, where that is of ASCII
first_byte : (c : ℕ) (text rest : List ℕ) → c < 128 → IsUtf8 text → before_nul (chars text) ≡ c ∷ rest → (after : List ℕ) × (text ≡ c ∷ after)
first_byte c text rest ascii utf8 e =
    let first = first_left c (chars text) rest e in
    let begins : encode_utf8_all (c ∷ first.0) ≡ c ∷ encode_utf8_all first.0 =
    ap (λ (l : List ℕ). l ++ encode_utf8_all first.0) (encode_ascii c ascii) in
    (encode_utf8_all first.0, sym (encodes-chars text utf8) ∙ (ap encode_utf8_all first.1 ∙ begins))

module _ (cur n : ℕ) (i : Chars) (text bytes left : List ℕ) (utf8 : IsUtf8 text) (is : text ≡ chars_rest i) (same : bytes ≡ text)
    (count : n ≡ length (prefix is_plain_in_line bytes)) (left_is : left ≡ drop n text) (characters rest : List ℕ)
    (s : IsPlainString (remaining cur i) characters rest) where
  -- what follows the run of characters that stand for themselves, where such a string is ahead
  after_run : left ≡ following is_plain_in_line text
  after_run =
      let counted = count ∙ ap (λ (l : List ℕ). length (prefix is_plain_in_line l)) same in
      left_is ∙ (ap (λ (k : ℕ). drop k text) counted ∙ drop_prefix is_plain_in_line refl in_line_cut text)

  utf8_left : IsUtf8 left
  utf8_left = subst IsUtf8 (sym after_run) (in_line_cut text utf8).after_utf8

  quoted : before_nul (chars left) ≡ 34 ∷ rest
  quoted =
      let test = is_plain_in_line in
      let inside : before_nul (held i) ≡ characters ++ 34 ∷ rest = remaining-tail cur 34 i (characters ++ 34 ∷ rest) s.split in
      let left_chars : chars left ≡ following test (held i) =
      ap chars after_run ∙ ((in_line_cut text utf8).after_is ∙ ap (λ (l : List ℕ). following test (chars l)) is) in
      ap before_nul left_chars
      ∙ (sym (following-before_nul test refl (held i)) ∙ (ap (following test) inside ∙ after_passing test characters (34 ∷ rest) s.plain))

  -- where no quote ends the run, there is none
  pub no_plain_string : (shown : List ℕ) → shown ≡ left → ((after : List ℕ) → shown ≢ 34 ∷ after) → ⊥
  no_plain_string shown shown_is none =
      let first = first_byte 34 left rest (omega arith) utf8_left quoted in
      none first.0 (shown_is ∙ first.1)

  -- where another character than the given one follows the quote, there is none before that one
  pub no_plain_string_before : (next : Option ℕ) (quote after shown : List ℕ) → IfSome next (λ c. (0 < c) × (c < 128)) → left ≡ 34 ∷ quote → after ≡ drop 1 left → shown ≡ after
      → (IfSome next (λ c. (more : List ℕ) × (shown ≡ c ∷ more)) → ⊥)
      → IfSome next (λ c. (more : List ℕ) × (rest ≡ c ∷ more)) → ⊥
  no_plain_string_before None quote after shown ascii opens after_is shown_is none given = none tt
  no_plain_string_before (Some c) quote after shown ascii opens after_is shown_is none given =
      let all : chars left ≡ 34 ∷ chars quote = chars_after left quote 34 utf8_left opens (omega arith) in
      let inside : before_nul (chars quote) ≡ rest = ap tail (sym (ap before_nul all) ∙ quoted) in
      let first = first_byte c quote given.0 ascii.1 (utf8_after left quote 34 utf8_left opens (omega arith)) (inside ∙ given.1) in
      none (first.0, shown_is ∙ (after_is ∙ (ap (drop 1) opens ∙ first.1)))

-- what follows the run of characters that stand for themselves is a text
pub utf8_following : (text bytes left : List ℕ) (n : ℕ) → IsUtf8 text → bytes ≡ text → n ≡ length (prefix is_plain_in_line bytes) → left ≡ drop n text → IsUtf8 left
utf8_following text bytes left n utf8 same count left_is =
    let counted = count ∙ ap (λ (l : List ℕ). length (prefix is_plain_in_line l)) same in
    let cut = in_line_cut text utf8 in
    subst IsUtf8 (sym (left_is ∙ (ap (λ (k : ℕ). drop k text) counted ∙ drop_prefix is_plain_in_line refl in_line_cut text))) cut.after_utf8

-- what follows the quote remains
pub next_remains : (next : Option ℕ) (i : Chars) (left quote after shown last : List ℕ) → IfSome next (λ c. (0 < c) × (c < 128)) → IsUtf8 left → left ≡ 34 ∷ quote
    → after ≡ drop 1 left → shown ≡ after → chars_rest i ≡ after → last ≡ before_nul (held i)
    → IfSome next (λ c. (more : List ℕ) × (shown ≡ c ∷ more)) → IfSome next (λ c. (more : List ℕ) × (last ≡ c ∷ more))
next_remains None i left quote after shown last ascii utf8 opens after_is shown_is is last_is given = tt
next_remains (Some c) i left quote after shown last ascii utf8 opens after_is shown_is is last_is given =
    let quote_is : quote ≡ c ∷ given.0 = ap (drop 1) (sym opens) ∙ (sym after_is ∙ (sym shown_is ∙ given.1)) in
    let utf8_quote = utf8_after left quote 34 utf8 opens (omega arith) in
    let all : held i ≡ c ∷ chars given.0 =
    ap chars (is ∙ (after_is ∙ ap (drop 1) opens)) ∙ chars_after quote given.0 c utf8_quote quote_is ascii.1 in
    (before_nul (chars given.0), last_is ∙ (ap before_nul all ∙ rw (ne_eqb c 0 (λ e. omega (arith, e, ascii.0))) refl))
