use Rattle.std.proofs.Common.{[], ap, ◌∙◌, sym}
use Rattle.nano_toml.specs.Place.{close_all as all_closed}
use Rattle.nano_toml.specs.Reading.{arrays_view}
use Rattle.nano_toml.specs.Data.{values_view}
use Rattle.nano_toml.proofs.OneTable.{arrays_view-push, values_view-push_array}
use Rattle.nano_toml.proofs.arrays.close_all.Goals as goal

pub arrays-preserved : goal.arrays-preserved
arrays-preserved c =
    let here = values_view c.arrays.here.items in
    let outer = arrays_view c.pop.new.self.items [] in
    c.arrays.invariant
    ∙ (ap (λ arrays. all_closed (arrays_view arrays []) here) c.in-Some.ensures.items
    ∙ (ap (λ views. all_closed views here) (arrays_view-push c.pop.new.self.items c.in-Some.around [])
    ∙ ap (all_closed outer) (sym (ap values_view c.in_ok-push.ensures.items ∙ values_view-push_array c.in-Some.around.items c.arrays.here))))
