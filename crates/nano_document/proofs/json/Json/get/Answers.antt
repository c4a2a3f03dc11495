use Rattle.std.proofs.Common.{◌≡◌, MatchOption, subst}
use Rattle.nano_document.specs.Held.{HasNone, IsLast}
use Rattle.nano_document.proofs.json.Json.get.Goals as goal

pub returns : goal.returns
returns c =
    subst (λ es. MatchOption c.last_named.result (HasNone (λ n. n ≡ c.args.name.now) es) (λ value. IsLast (λ n. n ≡ c.args.name.now) es value.now)) c.entries.ensures c.last_named.ensures
