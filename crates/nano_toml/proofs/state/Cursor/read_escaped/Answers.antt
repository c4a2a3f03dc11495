use Rattle.std.proofs.Common.{◌∙◌, ◌∷◌, ap, List, ℕ}
use Rattle.nano_toml.specs.Place.{remaining}
use Rattle.nano_toml.proofs.Places.{past_this}
use Rattle.nano_toml.proofs.state.Cursor.read_escaped.Goals as goal

pub returns-then-escaped-eq0-clause-rejected : goal.returns-then-escaped-eq0-clause-rejected
returns-then-escaped-eq0-clause-rejected c =
    let past = past_this 92 (remaining c.args.self.now) (remaining c.next.new.self) c.next.result c.next.ensures.taken c.next.ensures.end c.requires in
    λ _. past ∙ ap (λ (l : List ℕ). 92 ∷ l) (c.next-escaped.ensures.end c.if-escaped-eq0.true)

pub returns-clause-found : goal.returns-clause-found
returns-clause-found c =
    let past = past_this 92 (remaining c.args.self.now) (remaining c.next.new.self) c.next.result c.next.ensures.taken c.next.ensures.end c.requires in
    (c.next-escaped.result, past ∙ ap (λ (l : List ℕ). 92 ∷ l) (c.next-escaped.ensures.taken c.if-escaped-eq0.false), c.in_ok-push.ensures.bytes)
