-- Written by derive_files.
use Rattle.nano_schema_levels.proofs.ReadingLaws.{seen_read, seen_none}
use Rattle.nano_ron_nested.proofs.NestedLaws.{none_left, ran_out}
use Rattle.test_nested_shapes.specs.TermRonCodecs.{term_ron_at, term_ron_nested}
use Rattle.nano_schema_levels.proofs.AroundLaws.{layer_read}
use Rattle.test_nested_shapes.specs.TermCodecs.{argument_view, term_means}
use Rattle.test_nested_shapes.specs.TermRonCodecs.{argument_ron_layer}
use Rattle.test_nested_shapes.proofs.term.derived.+read_term_ron.Goals as goal

pub LevelsReadsRonTerm::read_ron-returns-then-left-eq0 : goal.LevelsReadsRonTerm::read_ron-returns-then-left-eq0
LevelsReadsRonTerm::read_ron-returns-then-left-eq0 t c =
    none_left term_ron_nested c.args.left c.args.input.now c.if-left-eq0.true c.too_deep.ensures

pub LevelsReadsRonTerm::read_ron-returns-in_default : goal.LevelsReadsRonTerm::read_ron-returns-in_default
LevelsReadsRonTerm::read_ron-returns-in_default t c =
    ran_out (term_ron_at c.args.left).encoding.encodes c.args.input.now c.no_levels.ensures

pub LevelsReadsRonTerm::read_ron-returns-in_default-first : goal.LevelsReadsRonTerm::read_ron-returns-in_default-first
LevelsReadsRonTerm::read_ron-returns-in_default-first t c =
    ran_out (term_ron_at c.args.left).encoding.encodes c.args.input.now
    c.no_levels-in_default-first.ensures

pub LevelsReadsRonTerm::read_ron-returns-in-Ok : goal.LevelsReadsRonTerm::read_ron-returns-in-Ok
LevelsReadsRonTerm::read_ron-returns-in-Ok t c =
    seen_read term_ron_nested c.args.left c.if-left-eq0.false c.make.result c.in-Ok.values
    c.make.ensures c.in-Ok.ensures.read

pub LevelsReadsRonTerm::read_ron-returns-in-Err : goal.LevelsReadsRonTerm::read_ron-returns-in-Err
LevelsReadsRonTerm::read_ron-returns-in-Err t c =
    seen_none term_ron_nested c.args.left c.if-left-eq0.false c.in-Err.ensures.none

pub LevelsReadsRonArgument::read_ron-returns-in-Ok : goal.LevelsReadsRonArgument::read_ron-returns-in-Ok
LevelsReadsRonArgument::read_ron-returns-in-Ok t c =
    layer_read argument_view argument_ron_layer (term_ron_at c.args.left) term_means
    c.make.result c.in-Ok.values c.make.ensures c.in-Ok.ensures.read

pub LevelsReadsRonArgument::read_ron-returns-in-Err : goal.LevelsReadsRonArgument::read_ron-returns-in-Err
LevelsReadsRonArgument::read_ron-returns-in-Err t c = c.in-Err.ensures.none
