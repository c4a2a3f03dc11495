use Rattle.std.proofs.Common.{ap, sym, ◌∙◌, false}
use Rattle.nano_toml.specs.Place.{remaining}
use Rattle.nano_toml.specs.Scan.{after_gaps}
use Rattle.nano_toml.proofs.SeparatorCut.{taken_separator, no_separator_cut}
use Rattle.nano_toml.proofs.state.Cursor.next_separator.Goals as goal

pub returns-then-found-clause-cut : goal.returns-then-found-clause-cut
returns-then-found-clause-cut c is_here token punctuator =
    taken_separator (remaining c.args.self.now) (remaining c.skip.new.self) (remaining c.take-found.new.self) c.args.wanted c.take-found.result token
    (c.skip.ensures ∙ ap (after_gaps false) c.again-ahead.ensures) c.take-found.ensures.found c.take-found.ensures.rest is_here c.requires punctuator

pub returns-else-found-clause-no_separator : goal.returns-else-found-clause-no_separator
returns-else-found-clause-no_separator c not_here token punctuator =
    no_separator_cut (remaining c.args.self.now) (remaining c.skip.new.self) c.args.wanted token
    (c.skip.ensures ∙ ap (after_gaps false) c.again-ahead.ensures) (sym c.take-found.ensures.found ∙ not_here) c.requires punctuator
