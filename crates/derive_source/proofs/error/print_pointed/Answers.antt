use Rattle.std.proofs.Common.{[], ◌∷◌, ◌++◌, map, take}
use Rattle.std.specs.Str.{chars}
use Rattle.derive_source.specs.Shown.{blank}
use Rattle.derive_source.proofs.ShownLemmas.{then_writes}
use Rattle.derive_source.proofs.error.print_pointed.Goals as goal

pub returns : goal.returns
returns g c =
    let contents = g.W.Write.contents in
    let r = c.writeln-2.result in
    let last = contents c.writeln-2.new.self in
    let line = c.args.line.now in
    let blanks = map blank (take c.args.before (chars line)) in
    then_writes r (contents c.args.output.now) (contents c.writeln.new.self) last (line ++ (10 ∷ [])) _ c.in_ok-writeln.ensures.bytes
    (then_writes r (contents c.writeln.new.self) (contents c.print_blanks.new.output) last blanks _ c.in_ok-print_blanks.ensures
    c.writeln-2.ensures.bytes)
