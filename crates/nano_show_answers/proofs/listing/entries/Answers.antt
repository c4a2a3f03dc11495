use Rattle.nano_show_answers.proofs.TableOrder.{in_order}
use Rattle.nano_show_answers.proofs.listing.entries.Goals as goal

pub returns : goal.returns
returns c =
    in_order c.args.table.now.entries c.entries_in_order.result c.len-count.ensures.unique
    c.entries_in_order.ensures
