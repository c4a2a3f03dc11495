-- Written by derive_files.
use Rattle.nano_bin_nested.proofs.NestedLaws.{seen_ok, seen_err}
use Rattle.test_nested_generics.specs.ShelfCodecs.{shelf_nested}
use Rattle.test_nested_generics.proofs.shelf.derived.LevelsReadsBinShelf.+read.Goals as goal

pub returns-clause-ok : goal.returns-clause-ok
returns-clause-ok g t c =
    seen_ok (shelf_nested g.K.BinCodec.bin g.V.BinCodec.bin) _ _ _ c.read_record_within.result c.read_record_within.ensures.ok

pub returns-clause-err : goal.returns-clause-err
returns-clause-err g t c =
    seen_err (shelf_nested g.K.BinCodec.bin g.V.BinCodec.bin) _ _ _ c.read_record_within.result c.read_record_within.ensures.err
