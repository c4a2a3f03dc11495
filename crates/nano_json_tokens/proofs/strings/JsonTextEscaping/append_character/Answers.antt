use Rattle.std.proofs.Common.{◌≡◌, ◌∷◌, [], List, ℕ, encode_utf8_all, refl, arith}
use Rattle.std.proofs.lemmas.Str.{encode_ascii}
use Rattle.nano_text.specs.String.{piece_text}
use Rattle.nano_text.proofs.RunBytes.{escape_appended}
use Rattle.nano_json_tokens.specs.Written.{written_piece}
use Rattle.nano_json_tokens.proofs.strings.JsonTextEscaping.append_character.Goals as goal

-- how a character is written
abbrev written : ℕ → List ℕ
written c = piece_text (written_piece c)

quote : encode_utf8_all (written 34) ≡ 92 ∷ 34 ∷ []
quote = rw (encode_ascii 92 (omega arith), encode_ascii 34 (omega arith)) refl

pub returns-in-34-clause-ok : goal.returns-in-34-clause-ok
returns-in-34-clause-ok c = escape_appended written c.push_str-in-34.result c.args.c 34 _ _ _ c.in-34.is quote c.push_str-in-34.ensures.bytes

backslash : encode_utf8_all (written 92) ≡ 92 ∷ 92 ∷ []
backslash = rw (encode_ascii 92 (omega arith)) refl

pub returns-in-92-clause-ok : goal.returns-in-92-clause-ok
returns-in-92-clause-ok c = escape_appended written c.push_str-in-92.result c.args.c 92 _ _ _ c.in-92.is backslash c.push_str-in-92.ensures.bytes
