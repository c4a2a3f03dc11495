use Rattle.std.proofs.Common.{List, ℕ, sym, subst, take, drop, take-append-drop, chars}
use Rattle.nano_toml.specs.FirstError.{IsFirstError}
use Rattle.nano_toml.specs.Place.{remaining, taken_count}
use Rattle.nano_toml.specs.StatementTable.{EncodesTable, EncodesNoTable}
use Rattle.nano_toml.specs.Data.{table_view}
use Rattle.nano_toml.proofs.FirstErrors.{error_place, reported_no_memory}
use Rattle.nano_toml.proofs.parser.TomlParser.parse.Goals as goal

pub returns-in-Err-clause-place : goal.returns-in-Err-clause-place
returns-in-Err-clause-place c =
    let text = chars c.args.input.now in
    let count = taken_count c.args.input.now (remaining c.read_table.new.reader.cursor) in
    (take count text, drop count text, sym (take-append-drop count text), c.error_at.ensures.line, c.error_at.ensures.col)

pub returns-in-Err-clause-error : goal.returns-in-Err-clause-error
returns-in-Err-clause-error c =
    let remaining = remaining c.read_table.new.reader.cursor in
    λ no_memory. error_place c.args.input.now remaining c.error_at.result.line c.error_at.result.col c.error_at.ensures.line c.error_at.ensures.col
    (subst (λ (text : List ℕ). IsFirstError text remaining) c.new-reader.ensures (c.in-Err.ensures.error (reported_no_memory c.in-Err.fault _ (c.error_at.ensures.reported no_memory))))

pub returns-in-Err-clause-rejected : goal.returns-in-Err-clause-rejected
returns-in-Err-clause-rejected c =
    λ no_memory. subst EncodesNoTable c.new-reader.ensures (c.in-Err.ensures.rejected (reported_no_memory c.in-Err.fault _ (c.error_at.ensures.reported no_memory)))

pub returns-in-Ok-clause-found : goal.returns-in-Ok-clause-found
returns-in-Ok-clause-found c =
    subst (λ text. EncodesTable text (table_view c.in-Ok.table.entries)) c.new-reader.ensures c.in-Ok.ensures.found
