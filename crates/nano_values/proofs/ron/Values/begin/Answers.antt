use Rattle.std.proofs.lemmas.Result.{MatchResult-weaker}
use Rattle.nano_ron_tokens.specs.Token.{bof}
use Rattle.nano_values.proofs.ValuesLaws.{takes_first, took_first}
use Rattle.nano_ron.proofs.Ron.{ron_laws}
use Rattle.nano_values.proofs.RonLemmas.{bof_uncut, is_bof, not_bof}
use Rattle.nano_values.specs.RonValues.{standing}
use Rattle.nano_values.proofs.ron.Values.begin.Goals as goal

pub returns-in-Bof-clause-taken : goal.returns-in-Bof-clause-taken
returns-in-Bof-clause-taken c =
    let first = is_bof c.args.self.now.state c.in-Bof.is in
    MatchResult-weaker c.next_tok.result c.next_tok.ensures (λ _ h. takes_first ron_laws bof bof_uncut first h)
    (λ _ h. record { first = first; stops = h })

pub returns-in_default-clause-taken : goal.returns-in_default-clause-taken
returns-in_default-clause-taken c =
    took_first ron_laws bof bof_uncut (standing c.args.self.now) (not_bof c.args.self.now.state c.in_default.not-Bof)
