-- Written by derive_files.
use Rattle.nano_schema_levels.proofs.ReadingLaws.{seen_read, seen_none}
use Rattle.nano_json_nested.proofs.NestedLaws.{none_left, ran_out}
use Rattle.test_nested_shapes.specs.TermJsonCodecs.{term_json_at, term_json_nested}
use Rattle.nano_schema_levels.proofs.AroundLaws.{layer_read}
use Rattle.test_nested_shapes.specs.TermCodecs.{argument_view, term_means}
use Rattle.test_nested_shapes.specs.TermJsonCodecs.{argument_json_layer}
use Rattle.test_nested_shapes.proofs.term.derived.+read_term_json.Goals as goal

pub LevelsReadsJsonTerm::read_json-returns-then-left-eq0 : goal.LevelsReadsJsonTerm::read_json-returns-then-left-eq0
LevelsReadsJsonTerm::read_json-returns-then-left-eq0 t c =
    none_left term_json_nested c.args.left c.args.input.now c.if-left-eq0.true c.too_deep.ensures

pub LevelsReadsJsonTerm::read_json-returns-in_default : goal.LevelsReadsJsonTerm::read_json-returns-in_default
LevelsReadsJsonTerm::read_json-returns-in_default t c =
    ran_out (term_json_at c.args.left).encoding.encodes c.args.input.now c.no_levels.ensures

pub LevelsReadsJsonTerm::read_json-returns-in_default-first : goal.LevelsReadsJsonTerm::read_json-returns-in_default-first
LevelsReadsJsonTerm::read_json-returns-in_default-first t c =
    ran_out (term_json_at c.args.left).encoding.encodes c.args.input.now
    c.no_levels-in_default-first.ensures

pub LevelsReadsJsonTerm::read_json-returns-in-Ok : goal.LevelsReadsJsonTerm::read_json-returns-in-Ok
LevelsReadsJsonTerm::read_json-returns-in-Ok t c =
    seen_read term_json_nested c.args.left c.if-left-eq0.false c.make.result c.in-Ok.values
    c.make.ensures c.in-Ok.ensures.read

pub LevelsReadsJsonTerm::read_json-returns-in-Err : goal.LevelsReadsJsonTerm::read_json-returns-in-Err
LevelsReadsJsonTerm::read_json-returns-in-Err t c =
    seen_none term_json_nested c.args.left c.if-left-eq0.false c.in-Err.ensures.none

pub LevelsReadsJsonArgument::read_json-returns-in-Ok : goal.LevelsReadsJsonArgument::read_json-returns-in-Ok
LevelsReadsJsonArgument::read_json-returns-in-Ok t c =
    layer_read argument_view argument_json_layer (term_json_at c.args.left) term_means
    c.make.result c.in-Ok.values c.make.ensures c.in-Ok.ensures.read

pub LevelsReadsJsonArgument::read_json-returns-in-Err : goal.LevelsReadsJsonArgument::read_json-returns-in-Err
LevelsReadsJsonArgument::read_json-returns-in-Err t c = c.in-Err.ensures.none
