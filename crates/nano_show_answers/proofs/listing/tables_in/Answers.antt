use Rattle.std.proofs.Common.{ap, ◌∙◌}
use Rattle.nano_toml.specs.Kinds.{as_tables}
use Rattle.nano_toml.specs.Data.{view}
use Rattle.nano_toml.proofs.TableViews.{view-Array, view-SimpleArray}
use Rattle.nano_show_answers.proofs.ListingLemmas.{view-Str, view-Bool, view-Num, view-Dec}
use Rattle.nano_show_answers.proofs.ListingLemmas.{view-Nan, view-Inf, view-Date}
use Rattle.nano_show_answers.proofs.listing.tables_in.Goals as goal

pub returns-in-Array : goal.returns-in-Array
returns-in-Array c = ap as_tables (ap view c.in-Array.is ∙ view-Array c.in-Array.tables)

pub returns-in-SimpleArray : goal.returns-in-SimpleArray
returns-in-SimpleArray c = ap as_tables (ap view c.in-SimpleArray.is ∙ view-SimpleArray _)

pub returns-in-Str : goal.returns-in-Str
returns-in-Str c = ap as_tables (ap view c.in-Str.is ∙ view-Str _)

pub returns-in-Bool : goal.returns-in-Bool
returns-in-Bool c = ap as_tables (ap view c.in-Bool.is ∙ view-Bool _)

pub returns-in-Num : goal.returns-in-Num
returns-in-Num c = ap as_tables (ap view c.in-Num.is ∙ view-Num _)

pub returns-in-Dec : goal.returns-in-Dec
returns-in-Dec c = ap as_tables (ap view c.in-Dec.is ∙ view-Dec _)

pub returns-in-Nan : goal.returns-in-Nan
returns-in-Nan c = ap as_tables (ap view c.in-Nan.is ∙ view-Nan _)

pub returns-in-Inf : goal.returns-in-Inf
returns-in-Inf c = ap as_tables (ap view c.in-Inf.is ∙ view-Inf _)

pub returns-in-Date : goal.returns-in-Date
returns-in-Date c = ap as_tables (ap view c.in-Date.is ∙ view-Date _)
