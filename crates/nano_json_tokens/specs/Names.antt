-- Names of fields and variants in JSON.
use Rattle.std.specs.Prelude.{◌≡◌, ℕ, ◌+◌, ◌/◌, ◌%◌, ◌&&◌, ◌||◌, nat_lt, Bool, true, cond}
use Rattle.std.specs.Prelude.{List, [], ◌∷◌, ◌++◌, length, IsUtf8, bytes_eq, chars}
use Rattle.std.specs.Str.{all_scalars, continuation_len, lead_bits, chars_after}
use Rattle.std.specs.List.{list_all}
use Rattle.nano_value.specs.Meaning.{usize_bound}
use Rattle.nano_json_tokens.specs.Written.{stands_as_itself}

-- a name that stands between quotes as it is: UTF-8 in which each character is written as itself
pub record IsPlainName (name : List ℕ) : Type 0 where
  pub utf8 : IsUtf8 name
  pub themselves : list_all stands_as_itself (chars name) ≡ true

-- a byte of ASCII that is written as itself
abbrev pub is_plain_ascii : ℕ → Bool
is_plain_ascii c = nat_lt c 128 && stands_as_itself c

-- a byte of a character that is not its first
abbrev pub later_byte : ℕ → ℕ
later_byte c = 128 + c % 64

-- the bytes of a character in UTF-8. This word, and the next two, are std's: those do not compute
-- where a name is given
abbrev pub character_bytes : ℕ → List ℕ
character_bytes c =
    cond (nat_lt c 128) (c ∷ [])
    (cond (nat_lt c 2048) ((192 + c / 64) ∷ later_byte c ∷ [])
    (cond (nat_lt c 65536) ((224 + c / 4096) ∷ later_byte (c / 64) ∷ later_byte c ∷ [])
    ((240 + c / 262144) ∷ later_byte (c / 4096) ∷ later_byte (c / 64) ∷ later_byte c ∷ [])))

abbrev pub bytes_of : List ℕ → List ℕ
bytes_of [] = []
bytes_of (c ∷ cs) = character_bytes c ++ bytes_of cs

-- the characters of bytes of UTF-8
abbrev pub characters : List ℕ → List ℕ
characters [] = []
characters (b ∷ bs) = chars_after (continuation_len b) (lead_bits b) bs

-- the bytes are UTF-8, and each character is written as itself
abbrev pub is_plain_utf8 : List ℕ → Bool
is_plain_utf8 name =
    let cs = characters name in
    all_scalars cs && (bytes_eq (bytes_of cs) name && list_all stands_as_itself cs)

-- the same, of which ASCII is seen byte by byte
abbrev pub is_plain_name : List ℕ → Bool
is_plain_name name = list_all is_plain_ascii name || is_plain_utf8 name

abbrev pub are_plain_names : List (List ℕ) → Bool
are_plain_names names = list_all is_plain_name names

-- a plain name of so many bytes that a `usize` counts them
abbrev pub is_variant_name : List ℕ → Bool
is_variant_name bytes = is_plain_name bytes && nat_lt (length bytes) usize_bound

-- a quote, the characters of a name as they are, a quote
abbrev pub quoted_name : List ℕ → List ℕ
quoted_name name = 34 ∷ (chars name ++ 34 ∷ [])
