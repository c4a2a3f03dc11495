use Rattle.std.proofs.Common.{refl, ap, length}
use Rattle.std.proofs.lemmas.Iterator.{YieldsList-from_chars}
use Rattle.std.proofs.lemmas.Iterator.Consumers.{count_from_yields_List}
use Rattle.nano_toml.proofs.state.Cursor.taken.Goals as goal

pub returns : goal.returns
returns c =
    let all = count_from_yields_List c.chars.result c.count-all.result c.count-all.ensures.ran (YieldsList-from_chars c.args.text.now c.utf8.text (cc)) in
    rw (c.saturating_sub-2.ensures, c.saturating_sub-after.ensures, c.saturating_sub.ensures, c.saturating_sub-before.ensures, all, c.remaining.ensures, c.remaining-2.ensures, ap length c.new.ensures) refl
