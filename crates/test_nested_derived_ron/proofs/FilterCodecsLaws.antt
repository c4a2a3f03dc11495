-- Written by derive_files: what is proved of types that contain themselves.
use Rattle.std.specs.Prelude.{◌≡◌, ℕ, Box, Option, String, Vec}
use Rattle.std.specs.Global.{Global}
use Rattle.std.proofs.Common.{rules}
use Rattle.nano_schema.specs.declared.choices.Either.TheVariants.{First, Later}
use Rattle.test_nested_derived_ron.specs.declared.filter.Filter.{Filter}
use Rattle.test_nested_derived_ron.specs.FilterCodecs.{filter_view}
use Rattle.test_nested_derived_ron.specs.declared.filter.Filter.{the_lemmas}
use Rattle.test_nested_derived_ron.specs.declared.filter.Filter.{Any as Filter-Any}
use Rattle.test_nested_derived_ron.specs.declared.filter.Filter.{Not as Filter-Not}
use Rattle.test_nested_derived_ron.specs.declared.filter.Filter.{AtLeast as Filter-AtLeast}
use Rattle.test_nested_derived_ron.specs.declared.filter.Filter.{Has as Filter-Has}

-- ==== Filter

pub filter_view_any : filter_view Filter-Any ≡ First (tt {0})
filter_view_any = search (rules, the_lemmas)

pub filter_view_not : (v : Box Filter Global)
    → filter_view (Filter-Not v) ≡ Later (First v)
filter_view_not v = search (rules, the_lemmas)

pub filter_view_at_least : (v0 : ℕ)
    → (v1 : Vec Filter Global)
    → filter_view (Filter-AtLeast v0 v1) ≡ Later (Later (First (v0, v1)))
filter_view_at_least v0 v1 = search (rules, the_lemmas)

pub filter_view_has : (v0 : String Global)
    → (v1 : Option (Box Filter Global))
    → filter_view (Filter-Has v0 v1) ≡ Later (Later (Later (v0, v1)))
filter_view_has v0 v1 = search (rules, the_lemmas)

pub ruleset filter_views = (filter_view_any, filter_view_not, filter_view_at_least, filter_view_has)
