use Rattle.nano_ron_tokens.specs.State.{at}
use Rattle.nano_ron_tokens.specs.Outcomes.{Moved}
use Rattle.nano_grammar.proofs.TokensLaws.{tokens_left}
use Rattle.nano_grammar.proofs.BracketLaws.{Counting, Capacity}
use Rattle.nano_ron_tokens.specs.Scan.{is_end}
use Rattle.nano_ron_tokens.proofs.BracketCounts.{brackets}
use Rattle.nano_ron_tokens.proofs.state.DeRonState.skip_brackets.Given as goal

abbrev pub invariant-tokens : goal.invariant-tokens
invariant-tokens l = record {
  counting : Counting brackets (at l.fn.self l.fn.i) (at l.self l.i) l.depth;
  place : Moved l.fn.self l.fn.i l.self l.i;
  capacity : Capacity brackets (at l.self l.i) l.depth;
}

abbrev pub decreases-tokens : goal.decreases-tokens
decreases-tokens l = tokens_left is_end (at l.self l.i)
