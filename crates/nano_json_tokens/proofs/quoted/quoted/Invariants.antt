use Rattle.std.proofs.Common.{◌≡◌}
use Rattle.nano_json_tokens.proofs.QuotedNames.{put_so_far}
use Rattle.nano_json_tokens.proofs.quoted.quoted.Given as goal

abbrev pub invariant-loop-at : goal.invariant-loop-at
invariant-loop-at l = l.bytes ≡ put_so_far l.at l.text
