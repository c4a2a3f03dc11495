use Rattle.std.proofs.Common.{subst, sym, IsUtf8}
use Rattle.nano_json_tokens.proofs.QuotedNames.{quoted_utf8}
use Rattle.nano_json_tokens.proofs.quoted.append_short_name.Goals as goal

pub from_utf8_unchecked-requires : goal.from_utf8_unchecked-requires
from_utf8_unchecked-requires c = subst IsUtf8 (sym c.quoted-bytes.ensures) (quoted_utf8 c.args.name.now c.utf8.name)
