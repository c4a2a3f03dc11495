-- Written by derive_files.
use Rattle.test_nested_derived_ron.proofs.FilterJsonCodecsLaws.{filter_legal_any, filter_legal_not, filter_legal_at_least, filter_legal_has}
use Rattle.test_nested_derived_ron.proofs.filter.derived.FilterValue.+known.Goals as goal

pub returns-in-Any : goal.returns-in-Any
returns-in-Any t c = rw c.in-Any.is filter_legal_any

pub returns-in-Not : goal.returns-in-Not
returns-in-Not t c = rw c.in-Not.is (filter_legal_not c.in-Not.first c.known-in-Not.ensures)

pub returns-in-AtLeast : goal.returns-in-AtLeast
returns-in-AtLeast t c =
    rw c.in-AtLeast.is (filter_legal_at_least c.in-AtLeast.first c.in-AtLeast.second c.known-in-AtLeast.ensures c.known-in-AtLeast-2.ensures)

pub returns-in-Has : goal.returns-in-Has
returns-in-Has t c =
    rw c.in-Has.is (filter_legal_has c.in-Has.field c.in-Has.and c.known-in-Has.ensures c.known-in-Has-2.ensures)
