-- Written by derive_files.
use Rattle.std.specs.Prelude.{string_bytes, string_cmp}
use Rattle.nano_value.specs.Meaning.{text, LegalText}
use Rattle.nano_meaning.proofs.AgreesLaws.{agreed, option_agrees, ordered_map_agrees, seen_agrees}
use Rattle.nano_schema_levels.proofs.LegalLevelsLaws.{legal_in_words}
use Rattle.test_nested_generics.specs.declared.shelf.Shelf.TheViews.{out-Shelf}
use Rattle.test_nested_generics.proofs.ShelfCodecsLaws.{shelf_legal}
use Rattle.test_nested_generics.proofs.shelf.derived.ShelfValue.+known.Goals as goal

pub returns : goal.returns
returns g t c =
    let y = out-Shelf _ _ c.args.self.now in
    (shelf_legal g.K.BinCodec.bin g.V.BinCodec.bin) c.args.self.now
    (legal_in_words g.met.K.BinCodec.agrees y.name c.known.ensures)
    (legal_in_words (seen_agrees ((ordered_map_agrees (agreed {means = (λ x. text (string_bytes x))} {legal = LegalText}) g.met.V.BinCodec.agrees string_cmp)) (λ x. x.entries)) y.values c.known-2.ensures)
    (legal_in_words (option_agrees g.met.V.BinCodec.agrees) y.best c.known-3.ensures)
    c.known-4.ensures
