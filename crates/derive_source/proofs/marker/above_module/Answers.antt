use Rattle.std.proofs.Common.{ap, sym, ◌∙◌, take, drop, ◌++◌, take-append-drop}
use Rattle.derive_source.specs.Below.{module_line}
use Rattle.derive_source.proofs.marker.above_module.Goals as goal

pub returns-then-is_empty : goal.returns-then-is_empty
returns-then-is_empty c =
    let source = c.args.source.now in
    let found = c.in_ok-above.ensures.cases in (
      c.in_ok-above.below.now,
      sym (take-append-drop found.0 source)
          ∙ ap (λ rest. take found.0 source ++ rest) found.2.1.split
          ∙ (λ k. sym found.3 k ++ (module_line ++ sym found.4 k)),
    )
