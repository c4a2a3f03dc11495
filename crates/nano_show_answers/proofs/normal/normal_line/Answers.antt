use Rattle.nano_show_answers.proofs.AnswerLemmas.{line_at_kind}
use Rattle.nano_show_answers.specs.contracts.shown.TypesNamed.TheImpl.{ghosts}
use Rattle.nano_show_answers.proofs.normal.normal_line.Goals as goal

pub returns-in-U8 : goal.returns-in-U8
returns-in-U8 c =
    line_at_kind ghosts.types c.args.form c.args.input.now c.args.kind _ c.in-U8.is
    c.line_of.result c.line_of.ensures

pub returns-in-U32 : goal.returns-in-U32
returns-in-U32 c =
    line_at_kind ghosts.types c.args.form c.args.input.now c.args.kind _ c.in-U32.is
    c.line_of-in-U32.result c.line_of-in-U32.ensures

pub returns-in-U64 : goal.returns-in-U64
returns-in-U64 c =
    line_at_kind ghosts.types c.args.form c.args.input.now c.args.kind _ c.in-U64.is
    c.line_of-in-U64.result c.line_of-in-U64.ensures

pub returns-in-I32 : goal.returns-in-I32
returns-in-I32 c =
    line_at_kind ghosts.types c.args.form c.args.input.now c.args.kind _ c.in-I32.is
    c.line_of-in-I32.result c.line_of-in-I32.ensures

pub returns-in-I64 : goal.returns-in-I64
returns-in-I64 c =
    line_at_kind ghosts.types c.args.form c.args.input.now c.args.kind _ c.in-I64.is
    c.line_of-in-I64.result c.line_of-in-I64.ensures

pub returns-in-Bool : goal.returns-in-Bool
returns-in-Bool c =
    line_at_kind ghosts.types c.args.form c.args.input.now c.args.kind _ c.in-Bool.is
    c.line_of-in-Bool.result c.line_of-in-Bool.ensures

pub returns-in-Text : goal.returns-in-Text
returns-in-Text c =
    line_at_kind ghosts.types c.args.form c.args.input.now c.args.kind _ c.in-Text.is
    c.line_of-in-Text.result c.line_of-in-Text.ensures

pub returns-in-Bytes : goal.returns-in-Bytes
returns-in-Bytes c =
    line_at_kind ghosts.types c.args.form c.args.input.now c.args.kind _ c.in-Bytes.is
    c.line_of-in-Bytes.result c.line_of-in-Bytes.ensures

pub returns-in-Set : goal.returns-in-Set
returns-in-Set c =
    line_at_kind ghosts.types c.args.form c.args.input.now c.args.kind _ c.in-Set.is
    c.line_of-in-Set.result c.line_of-in-Set.ensures

pub returns-in-Map : goal.returns-in-Map
returns-in-Map c =
    line_at_kind ghosts.types c.args.form c.args.input.now c.args.kind _ c.in-Map.is
    c.line_of-in-Map.result c.line_of-in-Map.ensures

pub returns-in-Tree : goal.returns-in-Tree
returns-in-Tree c =
    line_at_kind ghosts.types c.args.form c.args.input.now c.args.kind _ c.in-Tree.is
    c.line_of-in-Tree.result c.line_of-in-Tree.ensures

pub returns-in-Item : goal.returns-in-Item
returns-in-Item c =
    line_at_kind ghosts.types c.args.form c.args.input.now c.args.kind _ c.in-Item.is
    c.line_of-in-Item.result c.line_of-in-Item.ensures

pub returns-in-Choice : goal.returns-in-Choice
returns-in-Choice c =
    line_at_kind ghosts.types c.args.form c.args.input.now c.args.kind _ c.in-Choice.is
    c.line_of-in-Choice.result c.line_of-in-Choice.ensures
