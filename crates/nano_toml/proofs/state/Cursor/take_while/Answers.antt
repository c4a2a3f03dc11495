use Rattle.std.proofs.Common.{ℕ, List, ap, drop, take, sym, ◌∙◌, subst}
use Rattle.std.specs.Str.{IsCharBoundary}
use Rattle.nano_toml.proofs.RunPrefixes.{run_of}
use Rattle.nano_toml.proofs.state.Cursor.take_while.Goals as goal

pub split_at-requires : goal.split_at-requires
split_at-requires g c =
    let by = c.requires.by_bytes in
    let run = run_of by.0 by.1 c.args.self.now.rest _ _ _ c.as_str-held.utf8 c.as_str-held.ensures c.as_bytes.ensures.value (c.run_len.ensures by.0 by.2) in
    subst (λ (text : List ℕ). IsCharBoundary text c.run_len.result) (sym c.as_str-held.ensures) run.boundary

pub returns-clause-text : goal.returns-clause-text
returns-clause-text g c p bytes says =
    let run = run_of p bytes c.args.self.now.rest _ _ _ c.as_str-held.utf8 c.as_str-held.ensures c.as_bytes.ensures.value (c.run_len.ensures p says) in
    c.split_at.ensures.front ∙ (ap (take c.run_len.result) c.as_str-held.ensures ∙ run.prefix_is)

pub returns-clause-rest : goal.returns-clause-rest
returns-clause-rest g c p bytes says =
    let run = run_of p bytes c.args.self.now.rest _ _ _ c.as_str-held.utf8 c.as_str-held.ensures c.as_bytes.ensures.value (c.run_len.ensures p says) in
    run.after_is c.chars-self.result (c.chars-self.ensures.rest ∙ (c.split_at.ensures.back ∙ ap (drop c.run_len.result) c.as_str-held.ensures))
