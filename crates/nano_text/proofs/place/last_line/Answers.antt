use Rattle.std.proofs.Common.{◌++◌, ℕ, List, take, drop, sym, ◌∙◌, ap, arith}
use Rattle.std.proofs.lemmas.List.{take-append-drop}
use Rattle.std.proofs.lemmas.Str.Pattern.{NoCharPasses-char, drop_at_char}
use Rattle.nano_text.proofs.Passing.{no_feeds}
use Rattle.nano_text.proofs.place.last_line.Goals as goal

pub returns-in-Some-clause-none : goal.returns-in-Some-clause-none
returns-in-Some-clause-none c =
    let cut = c.in-Some.ensures.cases in
    rw cut.4 (no_feeds (drop cut.1 c.args.text.now) (λ i k. NoCharPasses-char 10 (drop cut.1 c.args.text.now) i cut.2.0 (omega arith) k))

pub returns-in-Some-clause-following : goal.returns-in-Some-clause-following
returns-in-Some-clause-following c = λ some.
    let cut = c.in-Some.ensures.cases in
    let text = c.args.text.now in
    (take cut.0 text, rw cut.4 (sym (take-append-drop cut.0 text) ∙ ap (λ (l : List ℕ). take cut.0 text ++ l) (drop_at_char 10 text cut.0 cut.1 cut.2.1 (omega arith))))

pub returns-in-None-clause-none : goal.returns-in-None-clause-none
returns-in-None-clause-none c =
    no_feeds c.args.text.now (λ i k. NoCharPasses-char 10 c.args.text.now i c.in-None.ensures.cases (omega arith) k)

pub returns-in-None-clause-following : goal.returns-in-None-clause-following
returns-in-None-clause-following c = λ some.
    absurd (omega (arith, some, returns-in-None-clause-none c))
