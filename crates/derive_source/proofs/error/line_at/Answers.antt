use Rattle.std.proofs.Common.{◌≡◌, List, [], ℕ, Option, Some, None, Bor, refl, ap, ◌∙◌, unwrap_or}
use Rattle.std.specs.Option.{option_map}
use Rattle.std.proofs.lemmas.Iterator.Splits.{YieldsList-from_lines}
use Rattle.std.proofs.lemmas.Iterator.Consumers.{nth_from_yields_List}
use Rattle.derive_source.proofs.error.line_at.Goals as goal

-- what is found is shown, and the empty line where nothing is found
found_or_empty : (found : Option (Bor (List ℕ))) (empty line : Bor (List ℕ)) (o : Option (List ℕ))
    → option_map (λ x. x.now) found ≡ o → line ≡ unwrap_or found empty → empty.now ≡ []
    → line.now ≡ unwrap_or o []
found_or_empty None empty line o e is none = ap (λ x. x.now) is ∙ (none ∙ ap (λ l. unwrap_or l []) e)
found_or_empty (Some x) empty line o e is none = ap (λ x. x.now) is ∙ ap (λ l. unwrap_or l []) e

pub returns : goal.returns
returns c =
    found_or_empty c.nth.result _ c.unwrap_or.result _
    (nth_from_yields_List c.nth.result _ c.args.row c.nth.ensures.ran (YieldsList-from_lines c.args.source.now c.lines.ensures.rest))
    c.unwrap_or.ensures refl
