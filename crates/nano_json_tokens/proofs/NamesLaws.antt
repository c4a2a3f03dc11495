-- What is proved of Names.
use Rattle.std.specs.Prelude.{◌≡◌, ◌≢◌, ℕ, ◌<◌, not, nat_lt, true, List, [], ◌∷◌, ◌++◌, map, length}
use Rattle.std.specs.Prelude.{encode_utf8_all, IsUtf8, refl}
use Rattle.std.specs.Char.{encode_utf8}
use Rattle.std.specs.Str.{chars}
use Rattle.std.specs.List.{AllByRecursion, list_all, flat_map}
use Rattle.std.proofs.Common.{sym, ◌∙◌, ap, subst, append_assoc, ne_eqb, arith, inl, inr}
use Rattle.std.proofs.Math.Utf8.{scalar, scalars}
use Rattle.std.proofs.lemmas.Bool.Decides.{nat_tests}
use Rattle.std.proofs.lemmas.Str.{encode_ascii, encodes-chars, scalars-chars, chars_from_encodes}
use Rattle.std.proofs.lemmas.Bool.{and_parts, and_from, or_cases}
use Rattle.std.proofs.lemmas.Slice.Eq.{bytes_eq-Decides}
use Rattle.std.specs.Prelude.{bytes_eq, ◌&&◌}
use Rattle.nano_value.specs.Meaning.{IsText, usize_bound}
use Rattle.nano_text.specs.String.{plain, IsPiece, IsString, piece_text, piece_char}
use Rattle.nano_grammar.specs.Tokens.{IsValueText, is_textual, AllTextual}
use Rattle.nano_grammar.proofs.TokensLaws.{textual_append}
use Rattle.nano_json_tokens.specs.Cut.{quoted}
use Rattle.nano_json_tokens.proofs.JsonLaws.{json}
use Rattle.nano_json_tokens.specs.Token.{str}
use Rattle.nano_json_tokens.specs.Written.{stands_as_itself}
use Rattle.nano_json_tokens.specs.Names.{IsPlainName, is_plain_ascii, is_plain_utf8, is_plain_name}
use Rattle.nano_json_tokens.specs.Names.{are_plain_names, is_variant_name, quoted_name}
use Rattle.nano_json_tokens.specs.Names.{character_bytes, bytes_of, characters}

-- ---- a plain name is cut into its token

record StandsAsItself (c : ℕ) : Type 0 where
  pub piece : IsPiece (plain c)
  pub textual : is_textual c ≡ true

no_quote : (c : ℕ) → stands_as_itself c ≡ true → c ≢ 34
no_quote c h = grind (arith, nat_tests)

no_backslash : (c : ℕ) → stands_as_itself c ≡ true → c ≢ 92
no_backslash c h = grind (arith, nat_tests)

no_nul : (c : ℕ) → stands_as_itself c ≡ true → c ≢ 0
no_nul c h = grind (arith, nat_tests)

some_textual : (c : ℕ) → scalar c ≡ true → c ≢ 0 → is_textual c ≡ true
some_textual c h k = rw h (ap not (ne_eqb c 0 k))

itself : (c : ℕ) → scalar c ≡ true → stands_as_itself c ≡ true → StandsAsItself c
itself c s h = record {
  piece = (no_quote c h, no_backslash c h, no_nul c h);
  textual = some_textual c s (no_nul c h);
}

-- characters that are written as themselves
record ArePlain (cs : List ℕ) : Type 0 where
  pub pieces : AllByRecursion IsPiece (map plain cs)
  pub characters : map piece_char (map plain cs) ≡ cs
  pub text : flat_map piece_text (map plain cs) ≡ cs
  pub textual : AllTextual cs

are_themselves : (cs : List ℕ) → scalars cs ≡ true → list_all stands_as_itself cs ≡ true
    → ArePlain cs
are_themselves [] h k =
    record { pieces = tt; characters = refl; text = refl; textual = tt }
are_themselves (c ∷ cs) h k =
    let s = and_parts (scalar c) (scalars cs) h in
    let p = and_parts (stands_as_itself c) (list_all stands_as_itself cs) k in
    let one = itself c s.0 p.0 in
    let rest = are_themselves cs s.1 p.1 in
    record {
      pieces = (one.piece, rest.pieces);
      characters = ap (λ l. c ∷ l) rest.characters;
      text = ap (λ l. c ∷ l) rest.text;
      textual = (one.textual, rest.textual);
    }

pub name_is_written : (name : List ℕ) → IsPlainName name
    → IsValueText json (str name ∷ []) (quoted_name name)
name_is_written name ok =
    let cs = chars name in
    let plain_ones = are_themselves cs (scalars-chars name ok.utf8) ok.themselves in
    let same : encode_utf8_all cs ≡ name = encodes-chars name ok.utf8 in
    let string : (rest : List ℕ) → IsString (quoted_name name ++ rest) cs rest = λ rest. record {
      pieces = map plain cs;
      good = plain_ones.pieces;
      split =
          ap (λ l. 34 ∷ l)
          (append_assoc cs (34 ∷ []) rest ∙ ap (λ l. l ++ 34 ∷ rest) (sym plain_ones.text));
      characters_are = sym plain_ones.characters;
    } in
    record {
      cut_again = λ rest h. (
        rest,
        record {
          space = [];
          body = quoted_name name ++ rest;
          split = refl;
          skipped = tt;
          lexeme = quoted (cs, string rest, sym same);
        },
        refl,
      );
      has_token = tt;
      textual = (refl, textual_append cs (34 ∷ []) plain_ones.textual (refl, tt));
    }

-- ---- names of ASCII are plain

ascii_byte : (c : ℕ) → is_plain_ascii c ≡ true → c < 128
ascii_byte c h = grind (arith, nat_tests)

ascii_scalar : (c : ℕ) → c < 128 → scalar c ≡ true
ascii_scalar c h = grind (arith, nat_tests)

-- characters of ASCII are their own bytes
record AreAscii (cs : List ℕ) : Type 0 where
  pub bytes : encode_utf8_all cs ≡ cs
  pub good : scalars cs ≡ true
  pub themselves : list_all stands_as_itself cs ≡ true

ascii_bytes : (cs : List ℕ) → list_all is_plain_ascii cs ≡ true → AreAscii cs
ascii_bytes [] h = record { bytes = refl; good = refl; themselves = refl }
ascii_bytes (c ∷ cs) h =
    let first = and_parts (is_plain_ascii c) (list_all is_plain_ascii cs) h in
    let small = ascii_byte c first.0 in
    let itself = (and_parts (nat_lt c 128) (stands_as_itself c) first.0).1 in
    let rest = ascii_bytes cs first.1 in
    record {
      bytes = λ i. encode_ascii c small i ++ rest.bytes i;
      good = and_from (scalar c) (scalars cs) (ascii_scalar c small) rest.good;
      themselves =
          and_from (stands_as_itself c) (list_all stands_as_itself cs) itself rest.themselves;
    }

pub ascii_name : (name : List ℕ) → list_all is_plain_ascii name ≡ true → IsPlainName name
ascii_name name h =
    let ascii = ascii_bytes name h in
    let utf8 : IsUtf8 name = (name, (ascii.good, ascii.bytes)) in
    let same = chars_from_encodes name name utf8 ascii.bytes in
    record {
      utf8 = utf8;
      themselves = subst (λ cs. list_all stands_as_itself cs ≡ true) same ascii.themselves;
    }

-- ---- and so are other names of UTF-8

same_bytes : (c : ℕ) → character_bytes c ≡ encode_utf8 c
unfolding encode_utf8
same_bytes c = refl

all_same_bytes : (cs : List ℕ) → bytes_of cs ≡ encode_utf8_all cs
all_same_bytes [] = refl
all_same_bytes (c ∷ cs) = λ i. same_bytes c i ++ all_same_bytes cs i

same_characters : (bs : List ℕ) → characters bs ≡ chars bs
unfolding chars
same_characters [] = refl
same_characters (b ∷ bs) = refl

utf8_name : (name : List ℕ) → is_plain_utf8 name ≡ true → IsPlainName name
utf8_name name h =
    let cs = characters name in
    let same = bytes_eq (bytes_of cs) name in
    let itself = list_all stands_as_itself cs in
    let parts = and_parts (scalars cs) (same && itself) h in
    let rest = and_parts same itself parts.1 in
    let encoded = (bytes_eq-Decides (bytes_of cs) name).0 rest.0 in
    record {
      utf8 = (cs, (parts.0, sym (all_same_bytes cs) ∙ encoded));
      themselves =
          subst (λ ds. list_all stands_as_itself ds ≡ true) (same_characters name) rest.1;
    }

pub plain_name : (name : List ℕ) → is_plain_name name ≡ true → IsPlainName name
plain_name name h = elim (or_cases (list_all is_plain_ascii name) (is_plain_utf8 name) h) [
  | inl k ↦ ascii_name name k
  | inr k ↦ utf8_name name k
]

pub each_plain : (names : List (List ℕ)) → are_plain_names names ≡ true
    → AllByRecursion IsPlainName names
each_plain [] h = tt
each_plain (name ∷ names) h =
    let first = and_parts (is_plain_name name) (are_plain_names names) h in
    (plain_name name first.0, each_plain names first.1)

pub variant_name_is_text : (bytes : List ℕ) → is_variant_name bytes ≡ true → IsText bytes
variant_name_is_text bytes e =
    let parts = and_parts (is_plain_name bytes) (nat_lt (length bytes) usize_bound) e in
    let plain = plain_name bytes parts.0 in
    let small = parts.1 in
    record { count = grind (arith, nat_tests, small); utf8 = plain.utf8 }
