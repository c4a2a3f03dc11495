use Rattle.std.proofs.Common.{refl}
use Rattle.nano_lines.proofs.LeftLemmas.{takes_line}
use Rattle.nano_lines.proofs.lines.Lines.take_line.Goals as goal

pub returns : goal.returns
returns g c =
    takes_line g.R.Read.remaining c.args.self.now _ c.args.end c.requires c.take_past.ensures refl
    c.saturating_add-self.ensures refl refl
