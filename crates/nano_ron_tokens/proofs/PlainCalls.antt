-- What the calls come to that take a token with none pending.
use Rattle.std.proofs.Common.{◌≡◌, ℕ, ℤ, List, true, false, refl, ap, ◌∙◌}
use Rattle.std.proofs.Common.{subst, ◌||◌, ◌==◌, encode_utf8_all}
use Rattle.std.specs.declared.str.Chars.{Chars}
use Rattle.std.specs.Char.{is_ascii_digit}
use Rattle.nano_text.specs.Characters.{following, is_space}
use Rattle.nano_text.specs.Number.{IsNumber, is_sign}
use Rattle.nano_text.specs.String.{IsString}
use Rattle.nano_text.specs.Place.{remaining}
use Rattle.nano_text.specs.declared.number.Number.TheVariants.{U64, I64}
use Rattle.nano_text.proofs.RemainingText.{first_is-remaining}
use Rattle.nano_ron_tokens.specs.Cut.{Cut, IsLexeme, starts_number, number}
use Rattle.nano_ron_tokens.specs.Cut.{quoted}
use Rattle.nano_ron_tokens.specs.Token.{Token, str, u64, i64}
use Rattle.nano_ron_tokens.proofs.AfterGaps.{lexeme_cut}
use Rattle.nano_ron_tokens.proofs.Comments.{gap_over, spaces_more}

-- after white space that was passed, a lexeme was taken
pub after_space : (t : Token) {text after rest : List ℕ} → after ≡ following is_space text
    → IsLexeme t after rest → Cut text t rest
after_space t {text} {after} {rest} space lexeme =
    let between = spaces_more text (following is_space text) (gap_over (following is_space text)) in
    lexeme_cut text (following is_space text) rest t between (subst (λ (s : List ℕ). IsLexeme t s rest) space lexeme)

-- a string was taken there
pub string_after : (bytes characters : List ℕ) {text after rest : List ℕ} → after ≡ following is_space text
    → IsString after characters rest → bytes ≡ encode_utf8_all characters → Cut text (str bytes) rest
string_after bytes characters space is same = after_space (str bytes) space (quoted (characters, is, same))

digit_starts : (c : ℕ) → is_ascii_digit c ≡ true → starts_number c ≡ true
digit_starts c digit = elim (is_sign c) as (λ b. ((b || is_ascii_digit c) || (c == 46)) ≡ true) [
  | true ↦ refl
  | false ↦ rw digit refl
]

-- a number that begins with a digit, or with a minus, is a lexeme
pub unsigned_lexeme : (cur : ℕ) (i : Chars) (n : ℕ) (run rest : List ℕ) → is_ascii_digit cur ≡ true
    → IsNumber (remaining cur i) (U64 n) run rest → IsLexeme (u64 n) (remaining cur i) rest
unsigned_lexeme cur i n run rest digit is =
    number (first_is-remaining starts_number cur i refl ∙ digit_starts cur digit) (run, is)

pub negative_lexeme : (cur : ℕ) (i : Chars) (z : ℤ) (run rest : List ℕ) → cur ≡ 45
    → IsNumber (remaining cur i) (I64 z) run rest → IsLexeme (i64 z) (remaining cur i) rest
negative_lexeme cur i z run rest minus is =
    number (first_is-remaining starts_number cur i refl ∙ ap starts_number minus) (run, is)
