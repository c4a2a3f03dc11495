use Rattle.std.proofs.Common.{string_bytes}
use Rattle.nano_text.specs.Place.{remaining_text}
use Rattle.nano_grammar.proofs.TokensLaws.{tokens_left}
use Rattle.nano_json_tokens.specs.Scan.{is_end}
use Rattle.nano_json_tokens.specs.State.{at}
use Rattle.nano_json_indent.proofs.Progress.{Progress}
use Rattle.nano_json_indent.proofs.layout.indent.Given as goal

abbrev pub invariant-tokens : goal.invariant-tokens
invariant-tokens l =
    Progress (remaining_text l.text) (at l.state l.input) (string_bytes l.out) l.level l.before

abbrev pub decreases-tokens : goal.decreases-tokens
decreases-tokens l = tokens_left is_end (at l.state l.input)
