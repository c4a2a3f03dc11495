use Rattle.std.proofs.lemmas.Result.{MatchResult-weaker}
use Rattle.nano_json_tokens.specs.Token.{bof}
use Rattle.nano_values.proofs.ValuesLaws.{takes_first, took_first}
use Rattle.nano_json.proofs.Json.{json_laws}
use Rattle.nano_values.proofs.JsonLemmas.{bof_uncut, is_bof, not_bof}
use Rattle.nano_values.specs.JsonValues.{standing}
use Rattle.nano_values.proofs.json.Values.begin.Goals as goal

pub returns-in-Bof-clause-taken : goal.returns-in-Bof-clause-taken
returns-in-Bof-clause-taken c =
    let first = is_bof c.args.self.now.state c.in-Bof.is in
    MatchResult-weaker c.next_tok.result c.next_tok.ensures (λ _ h. takes_first json_laws bof bof_uncut first h)
    (λ _ h. record { first = first; stops = h })

pub returns-in_default-clause-taken : goal.returns-in_default-clause-taken
returns-in_default-clause-taken c =
    took_first json_laws bof bof_uncut (standing c.args.self.now) (not_bof c.args.self.now.state c.in_default.not-Bof)
