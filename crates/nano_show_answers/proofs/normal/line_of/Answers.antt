use Rattle.nano_show_answers.proofs.AnswerLemmas.{line_at_form}
use Rattle.nano_show_answers.proofs.normal.line_of.Goals as goal

pub returns-in-Json : goal.returns-in-Json
returns-in-Json g c =
    line_at_form _ c.args.input.now c.args.form _ c.in-Json.is c.json_line.result
    c.json_line.ensures

pub returns-in-Ron : goal.returns-in-Ron
returns-in-Ron g c =
    line_at_form _ c.args.input.now c.args.form _ c.in-Ron.is c.ron_line.result c.ron_line.ensures

pub returns-in-Bin : goal.returns-in-Bin
returns-in-Bin g c =
    line_at_form _ c.args.input.now c.args.form _ c.in-Bin.is c.bin_line.result c.bin_line.ensures

pub returns-in-JsonWhole : goal.returns-in-JsonWhole
returns-in-JsonWhole g c =
    line_at_form _ c.args.input.now c.args.form _ c.in-JsonWhole.is c.whole_json_line.result
    c.whole_json_line.ensures

pub returns-in-RonWhole : goal.returns-in-RonWhole
returns-in-RonWhole g c =
    line_at_form _ c.args.input.now c.args.form _ c.in-RonWhole.is c.whole_ron_line.result
    c.whole_ron_line.ensures

pub returns-in-BinWhole : goal.returns-in-BinWhole
returns-in-BinWhole g c =
    line_at_form _ c.args.input.now c.args.form _ c.in-BinWhole.is c.whole_bin_line.result
    c.whole_bin_line.ensures
