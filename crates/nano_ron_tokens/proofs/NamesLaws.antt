-- What is proved of Names.
use Rattle.std.specs.Prelude.{◌≡◌, ◌≢◌, ℕ, ◌<◌, ◌&&◌, not, true, false, List, [], ◌∷◌, ◌++◌, chars}
use Rattle.std.specs.Prelude.{codes, bytes_eq, refl}
use Rattle.std.specs.List.{AllByRecursion, list_all}
use Rattle.std.proofs.Common.{sym, ◌∙◌, subst, arith}
use Rattle.std.proofs.lemmas.Bool.{and_parts, not-true}
use Rattle.std.proofs.lemmas.Bool.Decides.{nat_tests}
use Rattle.std.proofs.lemmas.Slice.Eq.{bytes_eq-Decides}
use Rattle.std.proofs.lemmas.Str.{chars-IsAscii}
use Rattle.std.proofs.lemmas.Str.Ascii.{IsAscii-cons, IsAscii-nil}
use Rattle.std.specs.Str.{IsAscii}
use Rattle.nano_text.specs.Characters.{first_is}
use Rattle.nano_grammar.specs.Tokens.{IsValueText, is_textual, AllTextual}
use Rattle.nano_ron_tokens.specs.Cut.{starts_word, is_word, IsName, word}
use Rattle.nano_ron_tokens.proofs.RonLaws.{ron, cut_at_once}
use Rattle.nano_ron_tokens.specs.Token.{ident}
use Rattle.nano_ron_tokens.specs.Written.{MayFollow, may_follow}
use Rattle.nano_ron_tokens.specs.Names.{is_name, are_names}

-- ---- a name is cut into its token

word_byte : (c : ℕ) → is_word c ≡ true → c < 128
word_byte c h = grind (arith, nat_tests)

word_textual : (c : ℕ) → is_word c ≡ true → is_textual c ≡ true
word_textual c h = grind (arith, nat_tests)

ends_word : (c : ℕ) → may_follow c ≡ true → is_word c ≡ false
ends_word c h = grind (arith, nat_tests)

name_ends : (rest : List ℕ) → MayFollow rest → first_is is_word rest ≡ false
name_ends [] h = refl
name_ends (c ∷ cs) h = ends_word c h

ascii_word : (name : List ℕ) → AllByRecursion (λ c. is_word c ≡ true) name → IsAscii name
ascii_word [] h = IsAscii-nil
ascii_word (c ∷ cs) h = IsAscii-cons c cs (word_byte c h.0) (ascii_word cs h.1)

pub textual_word : (name : List ℕ) → AllByRecursion (λ c. is_word c ≡ true) name → AllTextual name
textual_word [] h = tt
textual_word (c ∷ cs) h = (word_textual c h.0, textual_word cs h.1)

word_is_written : (name : List ℕ) → IsName name → IsValueText ron (ident name ∷ []) name
word_is_written name is = record {
  cut_again = λ rest h.
      let lexeme = word (is, (refl, name_ends rest h)) in
      (rest, cut_at_once (name ++ rest) rest (ident name) lexeme, refl);
  has_token = tt;
  textual = textual_word name is.goes_on;
}

-- its characters are its bytes
pub name_characters : (name : List ℕ) → IsName name → chars name ≡ name
name_characters name is = chars-IsAscii name (ascii_word name is.goes_on)

pub name_is_written : (name : List ℕ) → IsName name → IsValueText ron (ident name ∷ []) (chars name)
name_is_written name is =
    subst (IsValueText ron (ident name ∷ [])) (sym (name_characters name is))
    (word_is_written name is)

-- ---- what the test says

each_is_word : (name : List ℕ) → list_all is_word name ≡ true
    → AllByRecursion (λ c. is_word c ≡ true) name
each_is_word [] h = tt
each_is_word (c ∷ cs) h =
    let first = and_parts (is_word c) (list_all is_word cs) h in
    (first.0, each_is_word cs first.1)

other_word : (name other : List ℕ) → not (bytes_eq name other) ≡ true → name ≢ other
other_word name other h same =
    let differs = not-true (bytes_eq name other) h in
    let x = sym differs ∙ (bytes_eq-Decides name other).1 same in
    cc x

pub good_name : (name : List ℕ) → is_name name ≡ true → IsName name
good_name name h =
    let no_true = not (bytes_eq name (codes "true")) in
    let no_false = not (bytes_eq name (codes "false")) in
    let rest = list_all is_word name && (no_true && no_false) in
    let starts = and_parts (first_is starts_word name) rest h in
    let goes_on = and_parts (list_all is_word name) (no_true && no_false) starts.1 in
    let others = and_parts no_true no_false goes_on.1 in
    record {
      starts = starts.0;
      goes_on = each_is_word name goes_on.0;
      not_true = other_word name (codes "true") others.0;
      not_false = other_word name (codes "false") others.1;
    }

pub good_names : (names : List (List ℕ)) → are_names names ≡ true → AllByRecursion IsName names
good_names [] h = tt
good_names (name ∷ names) h =
    let first = and_parts (is_name name) (are_names names) h in
    (good_name name first.0, good_names names first.1)
