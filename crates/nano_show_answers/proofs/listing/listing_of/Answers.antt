use Rattle.std.proofs.Common.{subst, sym}
use Rattle.nano_toml.specs.Place.{remaining_text}
use Rattle.nano_toml.specs.StatementTable.{EncodesTable}
use Rattle.nano_toml.specs.Data.{table_view}
use Rattle.nano_show_answers.proofs.listing.listing_of.Goals as goal

pub returns-in_ok-to_string-in-Err-2 : goal.returns-in_ok-to_string-in-Err-2
returns-in_ok-to_string-in-Err-2 c = λ answer h.
    let there = subst (λ bytes. EncodesTable (remaining_text bytes) (table_view h.pairs))
    (sym c.in_ok-text.ensures.0) h.is_encoded in
    c.in-Err.ensures.rejected c.if-this.false there.0 there.1 there.2
