-- What the calls come to that take a token with none pending.
use Rattle.std.proofs.Common.{◌≡◌, ℕ, ℤ, List, true, false, refl, sym, ap, ◌∙◌}
use Rattle.std.proofs.Common.{subst, ◌||◌, encode_utf8_all}
use Rattle.std.proofs.Common.{Bool, ◌==◌}
use Rattle.std.proofs.lemmas.Bool.{true≢false}
use Rattle.nano_text.specs.Characters.{first_is}
use Rattle.std.specs.declared.str.Chars.{Chars}
use Rattle.std.specs.Char.{is_ascii_digit}
use Rattle.nano_text.specs.Characters.{following, is_space}
use Rattle.nano_text.specs.Number.{IsNumber, is_sign}
use Rattle.nano_text.specs.String.{IsString}
use Rattle.nano_text.specs.Place.{remaining}
use Rattle.nano_text.specs.declared.number.Number.TheVariants.{U64, I64}
use Rattle.nano_text.proofs.RemainingText.{first_is-remaining}
use Rattle.nano_json_tokens.specs.Cut.{Cut, IsLexeme, starts_number, number}
use Rattle.nano_json_tokens.specs.Cut.{punctuator, quoted, word, nothing, IsWord}
use Rattle.nano_json_tokens.specs.Token.{Token, str, null, u64, i64}
use Rattle.nano_json_tokens.proofs.Cuts.{lexeme_cut, cut_lexeme}

-- after white space that was passed, a lexeme was taken
pub after_space : (t : Token) {text after rest : List ℕ} → after ≡ following is_space text
    → IsLexeme t after rest → Cut text t rest
after_space t {text} {after} {rest} space lexeme =
    lexeme_cut text t rest (subst (λ (s : List ℕ). IsLexeme t s rest) space lexeme)

-- a string was taken there
pub string_after : (bytes characters : List ℕ) {text after rest : List ℕ} → after ≡ following is_space text
    → IsString after characters rest → bytes ≡ encode_utf8_all characters → Cut text (str bytes) rest
string_after bytes characters space is same = after_space (str bytes) space (quoted (characters, is, same))

-- a word was taken there
pub word_after : (t : Token) {text after rest : List ℕ} → after ≡ following is_space text → IsWord t after rest
    → Cut text t rest
word_after t space is = after_space t space (word is)

abbrev is_n : ℕ → Bool
is_n c = c == 110

null_starts : (text rest : List ℕ) → IsLexeme null text rest → first_is is_n text ≡ true
null_starts text rest (punctuator h) = absurd h
null_starts text rest (word h) = rw h.0 refl
null_starts text rest (number s h) = absurd h
null_starts text rest (quoted h) = absurd h
null_starts text rest (nothing h) = absurd h

-- after white space comes another character than `n`
pub no_null_after : (cur : ℕ) (i : Chars) {text : List ℕ} (rest : List ℕ)
    → remaining cur i ≡ following is_space text → is_n cur ≡ false → Cut text null rest → ⊥
no_null_after cur i {text} rest space other h =
    let first = null_starts (following is_space text) rest (cut_lexeme text null rest h) in
    true≢false (sym first ∙ (ap (first_is is_n) (sym space) ∙ (first_is-remaining is_n cur i refl ∙ other)))

digit_starts : (c : ℕ) → is_ascii_digit c ≡ true → starts_number c ≡ true
digit_starts c digit = elim (is_sign c) as (λ b. (b || is_ascii_digit c) ≡ true) [
  | true ↦ refl
  | false ↦ digit
]

-- a number that begins with a digit, or with a minus, is a lexeme
pub unsigned_lexeme : (cur : ℕ) (i : Chars) (n : ℕ) (run rest : List ℕ) → is_ascii_digit cur ≡ true
    → IsNumber (remaining cur i) (U64 n) run rest → IsLexeme (u64 n) (remaining cur i) rest
unsigned_lexeme cur i n run rest digit is =
    number (first_is-remaining starts_number cur i refl ∙ digit_starts cur digit) (run, is)

pub negative_lexeme : (cur : ℕ) (i : Chars) (z : ℤ) (run rest : List ℕ) → cur ≡ 45
    → IsNumber (remaining cur i) (I64 z) run rest → IsLexeme (i64 z) (remaining cur i) rest
negative_lexeme cur i z run rest minus is =
    number (first_is-remaining starts_number cur i refl ∙ ap starts_number minus) (run, is)
