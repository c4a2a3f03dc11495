use Rattle.std.proofs.lemmas.Result.{MatchResult-weaker}
use Rattle.nano_grammar.proofs.TokenCalls.{passed_on}
use Rattle.nano_grammar.proofs.WholeInputs.{text_uncut, text_read, text_not}
use Rattle.nano_json.proofs.Json.{json_laws, begun}
use Rattle.nano_json.proofs.traits.DeJson.deserialize_json.Goals as goal

pub returns : goal.returns
returns g c =
    let S = g.Self.JsonCodec.json.encoding.encodes in
    let first = begun c.new-state.result c.next.new.self c.chars-chars.result c.next.new.i c.args.input.now c.chars-chars.ensures.rest c.new-state.ensures.line c.new-state.ensures.col c.next.ensures.passes c.next.ensures.held c.next.ensures.rest in
    MatchResult-weaker c.de_json.result c.de_json.ensures (λ _ x. text_read json_laws S first c.in_ok-next_tok.ensures x)
    (λ _ x. text_not json_laws S first c.in_ok-next_tok.ensures x.fails)

pub returns-in_err-next_tok : goal.returns-in_err-next_tok
returns-in_err-next_tok g c =
    let first = begun c.new-state.result c.next.new.self c.chars-chars.result c.next.new.i c.args.input.now c.chars-chars.ensures.rest c.new-state.ensures.line c.new-state.ensures.col c.next.ensures.passes c.next.ensures.held c.next.ensures.rest in
    passed_on _ _ c.from_residual.result c.from_residual.ensures.1
    (text_uncut json_laws g.Self.JsonCodec.json.encoding.encodes first c.in_err-next_tok.ensures)
