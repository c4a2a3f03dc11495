use Rattle.std.proofs.lemmas.Result.{MatchResult-weaker}
use Rattle.nano_grammar.proofs.TokenCalls.{passed_on}
use Rattle.nano_grammar.proofs.WholeInputs.{text_read}
use Rattle.nano_json.proofs.Json.{json_laws, begun}
use Rattle.nano_document.specs.DocumentCodecs.{level_codec}
use Rattle.nano_document.proofs.FirstErrors.{uncut_first, wrong_first}
use Rattle.nano_document.proofs.json.Json.deserialize_json_within.Goals as goal

pub returns : goal.returns
returns c =
    let S = (level_codec c.args.levels).encoding.encodes in
    let first = begun c.new-state.result c.next.new.self c.chars-chars.result c.next.new.i c.args.input.now c.chars-chars.ensures.rest c.new-state.ensures.line c.new-state.ensures.col c.next.ensures.passes c.next.ensures.held c.next.ensures.rest in
    MatchResult-weaker c.read_json.result c.read_json.ensures (λ _ x. text_read json_laws S first c.in_ok-next_tok.ensures x)
    (λ _ x. wrong_first S first c.in_ok-next_tok.ensures x)

pub returns-in_err-next_tok : goal.returns-in_err-next_tok
returns-in_err-next_tok c =
    let first = begun c.new-state.result c.next.new.self c.chars-chars.result c.next.new.i c.args.input.now c.chars-chars.ensures.rest c.new-state.ensures.line c.new-state.ensures.col c.next.ensures.passes c.next.ensures.held c.next.ensures.rest in
    passed_on _ _ c.from_residual.result c.from_residual.ensures.1
    (uncut_first (level_codec c.args.levels).encoding.encodes first c.in_err-next_tok.ensures)
