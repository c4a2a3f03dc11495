use Rattle.std.proofs.Common.{◌≡◌}
use Rattle.nano_grammar.specs.ItemRuns.{PutItems}
use Rattle.nano_grammar.proofs.TokensLaws.{tokens_left}
use Rattle.nano_ron_tokens.specs.Cut.{Cut}
use Rattle.nano_ron_tokens.specs.Outcomes.{at_comma}
use Rattle.nano_ron_tokens.specs.Outcomes.{position}
use Rattle.nano_ron_tokens.proofs.WrittenTextLaws.{is_end}
use Rattle.nano_ron_tokens.specs.Token.{comma}
use Rattle.nano_ron_tokens.specs.declared.token.DeRonTok.TheVariants.{Comma}
use Rattle.nano_ron.proofs.lists.put_plain_items.Given as goal

abbrev pub invariant-items : goal.invariant-items
invariant-items g l =
    PutItems Cut g.T.RonCodec.ron.encoding.encodes comma g.C.Collect.holds (position l.fn.state l.fn.input) (at_comma l.place l.rest) l.fn.items l.items
    × (l.state.tok ≡ Comma)

abbrev pub decreases-items : goal.decreases-items
decreases-items g l = tokens_left is_end (at_comma l.place l.rest).at
